-- Placing a user reference keeps a tree well formed.
use Rattle.std.proofs.Common.{◌≡◌, ℕ, List, [], ◌∷◌, ◌++◌, map, Bool, true, false, not, ◌&&◌, ◌||◌, nat_le, nat_eq, length, Option, Some, None, refl, sym, ap, subst, ◌∙◌, inl, option_and_then, bytes_eq, All}
use Rattle.std.specs.List.{IsDistinct, list_any}
use Rattle.std.specs.Option.{option_map_or}
use Rattle.std.specs.Str.{IsUtf8, is_utf8}
use Rattle.std.proofs.lemmas.Bool.{and_parts}
use Rattle.std.proofs.lemmas.Cmp.{nat_list_eq_equiv}
use Rattle.std.proofs.lemmas.List.Elements.{All-push}
use Rattle.std.proofs.lemmas.Map.Keys.{IsDistinct-push}
use Rattle.std.proofs.lemmas.Str.{IsUtf8-from_is_utf8}
use Rattle.zp_tree.specs.declared.item.Item.TheVariants as item
use Rattle.zp_tree.specs.declared.item.Snapshot.{Snapshot}
use Rattle.zp_tree.specs.declared.item.Hold.{Hold}
use Rattle.zp_tree.specs.Tree.{Tree, as_snapshot, snapshot_named, replaced}
use Rattle.zp_tree.specs.Holds.{is_tag, is_tagged, has_tag}
use Rattle.zp_tree.specs.WellFormed.{IsSnapshot, IsWellFormed}
use Rattle.zp_tree.specs.Rows.{passed}
use Rattle.zp_tree.specs.PlaceHold.{hold_rows, hold_check, hold_change, with_hold}
use Rattle.zp_tree.proofs.Clear.{clear, not-false}
use Rattle.zp_tree.proofs.Found.{snapshot-found}
use Rattle.zp_changes.proofs.Replacing.{changed-snapshot-well}

tags-pushed : (hs : List Hold) (x : Hold) → map (λ (h : Hold). h.tag) (hs ++ x ∷ []) ≡ map (λ (h : Hold). h.tag) hs ++ x.tag ∷ []
tags-pushed [] x = refl
tags-pushed (h ∷ hs) x = ap (λ ts. h.tag ∷ ts) (tags-pushed hs x)

any-tag : (tag : List ℕ) (hs : List Hold) → list_any (bytes_eq tag) (map (λ (h : Hold). h.tag) hs) ≡ list_any (is_tagged tag) hs
any-tag tag [] = refl
any-tag tag (h ∷ hs) = ap (λ b. bytes_eq tag h.tag || b) (any-tag tag hs)

not-empty : (hs : List Hold) (x : Hold) → hs ++ x ∷ [] ≡ [] → ⊥
not-empty [] x e = cc
not-empty (h ∷ hs) x e = cc

-- a new tag that is UTF-8
good-with : (tag : List ℕ) (now : ℕ) (s : Snapshot) → is_utf8 tag ≡ true → has_tag tag s ≡ false → IsSnapshot s → IsSnapshot (with_hold tag now s)
good-with tag now s utf8 free h = record {
  short = h.short;
  settings = h.settings;
  tags = subst (IsDistinct bytes_eq) (sym (tags-pushed s.holds (record { tag = tag; at = now }))) (IsDistinct-push nat_list_eq_equiv (map (λ (x : Hold). x.tag) s.holds) tag h.tags (any-tag tag s.holds ∙ free));
  texts = All-push (λ (x : Hold). IsUtf8 x.tag) s.holds (record { tag = tag; at = now }) h.texts (IsUtf8-from_is_utf8 tag utf8);
}

pub hold-well : (t : Tree) (name tag : List ℕ) (now : ℕ) → IsWellFormed t → hold_check t name tag ≡ passed → IsWellFormed (hold_change t name tag now)
hold-well t name tag now w e = go (snapshot_named t name) refl
  where
    go : (o : Option Snapshot) → snapshot_named t name ≡ o → IsWellFormed (option_map_or (λ s. replaced t (item.Snap (with_hold tag now s))) o t)
    go None f = w
    go (Some s) f =
        let rows = clear (hold_rows t name tag) refl e in
        let utf8 : is_utf8 tag ≡ true = (and_parts (not (nat_eq (length tag) 0) && nat_le (length tag) 255) (is_utf8 tag) (not-false (is_tag tag) rows.1.0)).1 in
        let free : has_tag tag s ≡ false = sym (ap (λ (o : Option Snapshot). option_map_or (has_tag tag) o false) f) ∙ rows.1.1.1.0 in
        let there = (snapshot-found t name s w f).0 in
        changed-snapshot-well t s (with_hold tag now s) w there (good-with tag now s utf8 free) refl
        (λ i u h other so ss. other (w.agrees.shorts i s.id u s h (ap (option_and_then as_snapshot) there) so ss))
        (λ _. inl (not-empty s.holds (record { tag = tag; at = now })))
        refl
