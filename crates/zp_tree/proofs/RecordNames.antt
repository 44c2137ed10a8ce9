-- The full names of records as names.
use Rattle.std.proofs.Common.{◌≡◌, ℕ, List, ◌∷◌, ◌++◌, Option, Some, refl, sym, ap, ◌∙◌, option_map, option_and_then}
use Rattle.zp_names.specs.Names.{as_name}
use Rattle.zp_names.specs.NameParts.{snapshot_name, bookmark_name, within_name}
use Rattle.zp_names.proofs.JoinedNames.{joined_name, short_enough}
use Rattle.zp_tree.specs.declared.item.Item.{Item}
use Rattle.zp_tree.specs.declared.item.Item.TheVariants as item
use Rattle.zp_tree.specs.declared.item.Head.{Head}
use Rattle.zp_tree.specs.declared.item.Snapshot.{Snapshot}
use Rattle.zp_tree.specs.declared.item.Bookmark.{Bookmark}
use Rattle.zp_tree.specs.Tree.{at, as_head, head_name, full_name, record_name}
use Rattle.zp_tree.specs.WellFormed.{IsHead, IsSnapshot, IsRecord}

called : (rs : List Item) (i : ℕ) (d : Head) → at rs i ≡ Some (item.Head d) → head_name rs i ≡ Some d.name
called rs i d there = ap (λ (o : Option Item). option_map (λ (e : Head). e.name) (option_and_then as_head o)) there

pub name_of_head : (rs : List Item) (i : ℕ) (d : Head) → ((i : ℕ) (r : Item) → at rs i ≡ Some r → IsRecord r) → Some (item.Head d) ≡ at rs i → Some d.name ≡ record_name rs i
name_of_head rs i d good e =
    let g : IsHead d = good i (item.Head d) (sym e) in
    sym (short_enough d.name g.name) ∙ ap (λ (o : Option Item). option_and_then within_name (option_and_then (full_name rs) o)) e

pub name_of_snapshot : (rs : List Item) (i : ℕ) (s : Snapshot) (d : Head) → ((i : ℕ) (r : Item) → at rs i ≡ Some r → IsRecord r) → Some (item.Snap s) ≡ at rs i → Some (item.Head d) ≡ at rs s.owner → as_name (snapshot_name d.name s.short) ≡ record_name rs i
name_of_snapshot rs i s d good e o =
    let g : IsHead d = good s.owner (item.Head d) (sym o) in
    let h : IsSnapshot s = good i (item.Snap s) (sym e) in
    joined_name d.name s.short 64 refl g.name g.form h.short
    ∙ ap (λ (q : Option (List ℕ)). option_and_then within_name (option_map (λ n. n ++ 64 ∷ s.short) q)) (sym (called rs s.owner d (sym o)))
    ∙ ap (λ (q : Option Item). option_and_then within_name (option_and_then (full_name rs) q)) e

pub name_of_bookmark : (rs : List Item) (i : ℕ) (m : Bookmark) (d : Head) → ((i : ℕ) (r : Item) → at rs i ≡ Some r → IsRecord r) → Some (item.Mark m) ≡ at rs i → Some (item.Head d) ≡ at rs m.owner → as_name (bookmark_name d.name m.short) ≡ record_name rs i
name_of_bookmark rs i m d good e o =
    let g : IsHead d = good m.owner (item.Head d) (sym o) in
    joined_name d.name m.short 35 refl g.name g.form (good i (item.Mark m) (sym e))
    ∙ ap (λ (q : Option (List ℕ)). option_and_then within_name (option_map (λ n. n ++ 35 ∷ m.short) q)) (sym (called rs m.owner d (sym o)))
    ∙ ap (λ (q : Option Item). option_and_then within_name (option_and_then (full_name rs) q)) e
