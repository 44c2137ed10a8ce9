-- Taking a snapshot keeps a tree well formed.
use Rattle.std.proofs.Common.{◌≡◌, ℕ, ◌+◌, ◌≤◌, List, [], ◌∷◌, ◌++◌, length, true, false, ◌||◌, Option, Some, None, is_none, is_some, find, refl, sym, ap, subst, ◌∙◌, arith, sum_by, length-append, bytes_eq, map, All}
use Rattle.std.specs.List.{IsDistinct}
use Rattle.std.specs.Option.{option_map_or}
use Rattle.std.proofs.lemmas.List.Sums.{sum_by-append}
use Rattle.std.proofs.lemmas.List.Elements.{All-nil}
use Rattle.std.specs.Str.{IsUtf8}
use Rattle.zp_names.specs.Names.{is_mark, is_head, is_valid_short, head_of, short_of}
use Rattle.zp_names.specs.NameParts.{form_by, form_of, written, is_snapshot_form, is_snapshot_name, snapshot_name}
use Rattle.zp_names.specs.declared.form.Form.{Form}
use Rattle.zp_names.specs.declared.form.Form.TheVariants as form
use Rattle.zp_names.proofs.Marks.{text_written}
use Rattle.zp_props.specs.Settings.{AreSettings}
use Rattle.zp_props.proofs.NoSettings.{no_settings}
use Rattle.zp_tree.specs.declared.item.Item.TheVariants as item
use Rattle.zp_tree.specs.declared.item.Head.{Head}
use Rattle.zp_tree.specs.declared.item.Snapshot.{Snapshot}
use Rattle.zp_tree.specs.declared.item.Hold.{Hold}
use Rattle.zp_tree.specs.Tree.{Tree, at, exists, head_named, added}
use Rattle.zp_tree.specs.WellFormed.{user_settings, IsSnapshot, Agrees, IsWellFormed}
use Rattle.zp_tree.specs.Rows.{passed}
use Rattle.zp_tree.specs.TakeSnapshot.{snapshot_check, snapshot_rows, snapshot_change, new_snapshot}
use Rattle.zp_tree.proofs.Rising.{rises-added, id-below}
use Rattle.zp_tree.proofs.Edits.{at-new, look-added}
use Rattle.zp_tree.proofs.Adding.{agrees-snapshot}
use Rattle.zp_tree.proofs.Clear.{clear, not-false}
use Rattle.zp_tree.proofs.Found.{is-head, head-found, free-short, room-left}

-- a snapshot's name is its head's, the mark, and the short name
pub whole-name : (name : List ℕ) → is_snapshot_name name ≡ true → snapshot_name (head_of name) (short_of name) ≡ name
whole-name name h = go (form_of name) refl h
  where
    go : (f : Form) → form_of name ≡ f → is_snapshot_form f ≡ true → snapshot_name (head_of name) (short_of name) ≡ name
    go form.Head e k = cc
    go form.Snap e k = sym (text_written name ∙ ap (λ g. written g (head_of name) (short_of name)) e)
    go form.Bookmark e k = cc

-- the name of a snapshot has a short name
marked : (name : List ℕ) → is_snapshot_name name ≡ true → is_head name ≡ false
marked name h = go (find is_mark name) refl h
  where
    go : (o : Option ℕ) → find is_mark name ≡ o → is_snapshot_form (form_by o) ≡ true → is_head name ≡ false
    go None e k = cc
    go (Some b) e k = ap is_none e

pub short-valid : (name : List ℕ) → (is_head name || is_valid_short (short_of name)) ≡ true → is_snapshot_name name ≡ true → is_valid_short (short_of name) ≡ true
short-valid name valid h = sym (ap (λ b. b || is_valid_short (short_of name)) (marked name h)) ∙ valid

no-tags : IsDistinct bytes_eq []
unfolding IsDistinct
no-tags = tt

new-good : (s : Snapshot) → is_valid_short s.short ≡ true → s.settings ≡ [] → s.holds ≡ [] → IsSnapshot s
new-good s short settings holds = record {
  short = short;
  settings = subst AreSettings (sym settings) no_settings;
  tags = subst (λ (hs : List Hold). IsDistinct bytes_eq (map (λ (h : Hold). h.tag) hs)) (sym holds) no-tags;
  texts = subst (All (λ (h : Hold). IsUtf8 h.tag)) (sym holds) (All-nil (λ (h : Hold). IsUtf8 h.tag));
}

pub snapshot-well : (t : Tree) (name : List ℕ) (txg : ℕ) → IsWellFormed t → (is_head name || is_valid_short (short_of name)) ≡ true → snapshot_check t name ≡ passed → IsWellFormed (snapshot_change t name txg)
snapshot-well t name txg w valid e = go (head_named t (head_of name)) refl
  where
    go : (o : Option Head) → head_named t (head_of name) ≡ o → IsWellFormed (option_map_or (λ d. added t (new_snapshot t.next (short_of name) txg d)) o t)
    go None f = w
    go (Some d) f =
        let rows = clear (snapshot_rows t name) refl e in
        let is = not-false (is_snapshot_name name) rows.0 in
        let x = new_snapshot t.next (short_of name) txg d in
        let there = head-found t (head_of name) d w f in
        let free : exists t (snapshot_name (head_of name) (short_of name)) ≡ false = ap (exists t) (whole-name name is) ∙ rows.1.1.0 in
        let pool = w.agrees.pool in
        let below : pool.id + 1 ≤ t.next = id-below 0 t.next pool.id t.records (item.Head pool.head) w.rises (is-head (at t.records pool.id) pool.head pool.there) in record {
          rises = rises-added 0 t.next t.records x w.rises refl;
          agrees = subst Agrees (sym (look-added t.next t.records x w.rises refl)) (agrees-snapshot (at t.records) t.next _ (at-new 0 t.next t.records w.rises) w.agrees (omega arith)
              (new-good _ (short-valid name valid is) refl refl)
              (ap is_some there.0)
              (λ i u h so ss. free-short t (head_of name) (short_of name) d d.id i u free there.0 there.1 h so ss)
              refl);
          few_records = let less = room-left t rows.1.1.1.0 in let size : length (t.records ++ x ∷ []) ≡ length t.records + 1 = length-append t.records (x ∷ []) in omega arith;
          few_settings = let size : sum_by user_settings (t.records ++ x ∷ []) ≡ sum_by user_settings t.records + 0 = sum_by-append user_settings t.records (x ∷ []) in let before = w.few_settings in omega arith;
        }
