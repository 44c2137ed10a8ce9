-- Making a bookmark keeps a tree well formed.
use Rattle.std.proofs.Common.{◌≡◌, ℕ, ◌+◌, ◌≤◌, List, [], ◌∷◌, ◌++◌, length, Bool, true, false, ◌||◌, not, Option, Some, None, is_none, is_some, find, refl, sym, ap, subst, ◌∙◌, arith, sum_by, length-append}
use Rattle.std.specs.Option.{option_map_or}
use Rattle.std.proofs.lemmas.List.Sums.{sum_by-append}
use Rattle.zp_names.specs.Names.{is_mark, is_head, is_valid_short, head_of, short_of}
use Rattle.zp_names.specs.NameParts.{form_by, form_of, written, bookmark_name}
use Rattle.zp_names.specs.declared.form.Form.{Form}
use Rattle.zp_names.specs.declared.form.Form.TheVariants as form
use Rattle.zp_names.proofs.Marks.{text_written}
use Rattle.zp_tree.specs.declared.item.Item.TheVariants as item
use Rattle.zp_tree.specs.declared.item.Head.{Head}
use Rattle.zp_tree.specs.declared.item.PointInTime.{PointInTime}
use Rattle.zp_tree.specs.Tree.{Tree, at, exists, head_named, added}
use Rattle.zp_tree.specs.WellFormed.{user_settings, Agrees, IsWellFormed}
use Rattle.zp_tree.specs.Rows.{passed}
use Rattle.zp_tree.specs.MakeBookmark.{is_bookmark_form, is_bookmark_name, bookmark_check, bookmark_rows, bookmark_change, with_bookmark, point_named, new_bookmark}
use Rattle.zp_tree.proofs.Rising.{rises-added, id-below}
use Rattle.zp_tree.proofs.Edits.{at-new, look-added}
use Rattle.zp_tree.proofs.Clear.{clear, not-false}
use Rattle.zp_tree.proofs.Found.{is-head, head-found, room-left}
use Rattle.zp_tree.proofs.Marking.{agrees-bookmark, free-mark}

-- a bookmark's name is its head's, the mark, and the short name
whole-name : (name : List ℕ) → is_bookmark_name name ≡ true → bookmark_name (head_of name) (short_of name) ≡ name
whole-name name h = go (form_of name) refl h
  where
    go : (f : Form) → form_of name ≡ f → is_bookmark_form f ≡ true → bookmark_name (head_of name) (short_of name) ≡ name
    go form.Head e k = cc
    go form.Snap e k = cc
    go form.Bookmark e k = sym (text_written name ∙ ap (λ g. written g (head_of name) (short_of name)) e)

-- the name of a bookmark has a short name
marked : (name : List ℕ) → is_bookmark_name name ≡ true → is_head name ≡ false
marked name h = go (find is_mark name) refl h
  where
    go : (o : Option ℕ) → find is_mark name ≡ o → is_bookmark_form (form_by o) ≡ true → is_head name ≡ false
    go None e k = cc
    go (Some b) e k = ap is_none e

short-valid : (name : List ℕ) → (is_head name || is_valid_short (short_of name)) ≡ true → is_bookmark_name name ≡ true → is_valid_short (short_of name) ≡ true
short-valid name valid h = sym (ap (λ b. b || is_valid_short (short_of name)) (marked name h)) ∙ valid

-- what the first row asks of the name
named-so : (b c : Bool) → (b || not c) ≡ false → c ≡ true
named-so true c e = cc
named-so false true e = refl
named-so false false e = cc

pub bookmark-well : (t : Tree) (source name : List ℕ) → IsWellFormed t → (is_head name || is_valid_short (short_of name)) ≡ true → bookmark_check t source name ≡ passed → IsWellFormed (bookmark_change t source name)
bookmark-well t source name w valid e = go (head_named t (head_of name)) refl
  where
    of-point : (d : Head) → head_named t (head_of name) ≡ Some d → (o : Option PointInTime) → IsWellFormed (option_map_or (λ p. added t (new_bookmark t.next d.id (short_of name) p)) o t)
    of-point d f None = w
    of-point d f (Some p) =
        let rows = clear (bookmark_rows t source name) refl e in
        let is = named-so (is_head source) (is_bookmark_name name) rows.0 in
        let x = new_bookmark t.next d.id (short_of name) p in
        let there = head-found t (head_of name) d w f in
        let free : exists t (bookmark_name (head_of name) (short_of name)) ≡ false = ap (exists t) (whole-name name is) ∙ rows.1.1.1.1.0 in
        let pool = w.agrees.pool in
        let below : pool.id + 1 ≤ t.next = id-below 0 t.next pool.id t.records (item.Head pool.head) w.rises (is-head (at t.records pool.id) pool.head pool.there) in record {
          rises = rises-added 0 t.next t.records x w.rises refl;
          agrees = subst Agrees (sym (look-added t.next t.records x w.rises refl)) (agrees-bookmark (at t.records) t.next _ (at-new 0 t.next t.records w.rises) w.agrees (omega arith)
              (short-valid name valid is)
              (ap is_some there.0)
              (λ i m h so ss. free-mark t (head_of name) (short_of name) d d.id i m free there.0 there.1 h so ss));
          few_records = let less = room-left t rows.1.1.1.1.1.0 in let size : length (t.records ++ x ∷ []) ≡ length t.records + 1 = length-append t.records (x ∷ []) in omega arith;
          few_settings = let size : sum_by user_settings (t.records ++ x ∷ []) ≡ sum_by user_settings t.records + 0 = sum_by-append user_settings t.records (x ∷ []) in let before = w.few_settings in omega arith;
        }

    go : (o : Option Head) → head_named t (head_of name) ≡ o → IsWellFormed (option_map_or (with_bookmark t source name) o t)
    go None f = w
    go (Some d) f = of-point d f (point_named t source)
