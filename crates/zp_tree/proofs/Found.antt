-- What stands under a name, in a well-formed tree.
use Rattle.std.proofs.Common.{◌≡◌, ℕ, ◌<◌, List, ◌∷◌, ◌++◌, bytes_eq, option_map, length, true, false, Option, Some, None, is_some, refl, sym, ap, ◌∙◌, arith, option_and_then}
use Rattle.std.specs.Option.{option_map_or}
use Rattle.std.proofs.lemmas.Bool.{true≢false}
use Rattle.std.proofs.lemmas.Slice.Eq.{bytes_eq-Decides}
use Rattle.zp_names.specs.NameParts.{parent_of, snapshot_name}
use Rattle.zp_tree.specs.declared.item.Item.{Item}
use Rattle.zp_tree.specs.declared.item.Item.TheVariants as item
use Rattle.zp_tree.specs.declared.item.Head.{Head}
use Rattle.zp_tree.specs.declared.item.Snapshot.{Snapshot}
use Rattle.zp_tree.specs.declared.item.HeadKind.{HeadKind}
use Rattle.zp_tree.specs.declared.item.HeadKind.TheVariants.{Filesystem, Volume}
use Rattle.zp_tree.specs.Tree.{Tree, at, has_id, as_head, as_snapshot, named, head_name, is_text, is_called, exists, head_named, snapshot_named, parent_in, is_full}
use Rattle.zp_tree.specs.Items.{is_volume, is_volume_kind}
use Rattle.zp_tree.specs.WellFormed.{head_in, snapshot_in, HasParent, IsWellFormed}
use Rattle.zp_tree.proofs.Looks.{found-at, find-passes, find-some}

pub is-head : (o : Option Item) (d : Head) → option_and_then as_head o ≡ Some d → o ≡ Some (item.Head d)
is-head None d e = cc
is-head (Some (item.Head f)) d e = let is : f ≡ d = cc in ap (λ (v : Head). Some (item.Head v)) is
is-head (Some (item.Snap s)) d e = cc
is-head (Some (item.Mark m)) d e = cc

pub head-found : (t : Tree) (name : List ℕ) (d : Head) → IsWellFormed t → head_named t name ≡ Some d → (head_in (at t.records) d.id ≡ Some d) × (d.name ≡ name)
head-found t name d w e =
    let is : named t.records name ≡ Some (item.Head d) = is-head (named t.records name) d e in (
      ap (option_and_then as_head) (found-at (is_called t.records name) 0 t.next t.records (item.Head d) w.rises is),
      (bytes_eq-Decides d.name name).0 (find-passes (is_called t.records name) t.records (item.Head d) is),
    )

-- a free name is no head's
pub free-name : (t : Tree) (name : List ℕ) (i : ℕ) (d : Head) → exists t name ≡ false → head_in (at t.records) i ≡ Some d → d.name ≡ name → ⊥
free-name t name i d free h e =
    true≢false (sym (find-some (is_called t.records name) (has_id i) t.records (item.Head d) (is-head (at t.records i) d h) ((bytes_eq-Decides d.name name).1 e)) ∙ free)

filesystem-kind : (k : HeadKind) → is_volume_kind k ≡ false → k ≡ Filesystem
filesystem-kind Filesystem e = refl
filesystem-kind Volume e = cc

-- the parent that the rows asked for
pub parent-there : (t : Tree) (name : List ℕ) → IsWellFormed t → is_some (parent_in t name) ≡ true → option_map_or is_volume (parent_in t name) false ≡ false → HasParent (at t.records) name
parent-there t name w some kind = go (parent_of name) refl
  where
    there : (p : List ℕ) (o : Option Head) → parent_of name ≡ Some p → head_named t p ≡ o → is_some o ≡ true → option_map_or is_volume o false ≡ false → HasParent (at t.records) name
    there p None e f s k = cc
    there p (Some d) e f s k = let found = head-found t p d w f in
        record { parent = p; is = e; filesystem = record { id = d.id; head = d; there = found.0; named = found.1; kind = filesystem-kind d.kind k } }

    go : (o : Option (List ℕ)) → parent_of name ≡ o → HasParent (at t.records) name
    go None e = absurd (true≢false (sym some ∙ ap (λ (q : Option (List ℕ)). is_some (option_and_then (head_named t) q)) e))
    go (Some p) e = there p (head_named t p) e refl
        (sym (ap (λ (q : Option (List ℕ)). is_some (option_and_then (head_named t) q)) e) ∙ some)
        (sym (ap (λ (q : Option (List ℕ)). option_map_or is_volume (option_and_then (head_named t) q) false) e) ∙ kind)

-- there is room for a record
pub room-left : (t : Tree) → is_full t ≡ false → length t.records < 100000
room-left t e = grind arith

pub is-snapshot : (o : Option Item) (s : Snapshot) → option_and_then as_snapshot o ≡ Some s → o ≡ Some (item.Snap s)
is-snapshot None s e = cc
is-snapshot (Some (item.Head d)) s e = cc
is-snapshot (Some (item.Snap f)) s e = let is : f ≡ s = cc in ap (λ (v : Snapshot). Some (item.Snap v)) is
is-snapshot (Some (item.Mark m)) s e = cc

pub snapshot-found : (t : Tree) (name : List ℕ) (s : Snapshot) → IsWellFormed t → snapshot_named t name ≡ Some s → (at t.records s.id ≡ Some (item.Snap s)) × (is_called t.records name (item.Snap s) ≡ true)
snapshot-found t name s w e =
    let is : named t.records name ≡ Some (item.Snap s) = is-snapshot (named t.records name) s e in
    (found-at (is_called t.records name) 0 t.next t.records (item.Snap s) w.rises is, find-passes (is_called t.records name) t.records (item.Snap s) is)

-- where a snapshot's name is free, the head has no snapshot of that short name
pub free-short : (t : Tree) (head short : List ℕ) (d : Head) (owner i : ℕ) (s : Snapshot) → exists t (snapshot_name head short) ≡ false → head_in (at t.records) owner ≡ Some d → d.name ≡ head → snapshot_in (at t.records) i ≡ Some s → s.owner ≡ owner → s.short ≡ short → ⊥
free-short t head short d owner i s free hd hn hs so ss =
    let owner_name : head_name t.records s.owner ≡ Some head = ap (head_name t.records) so ∙ ap (option_map (λ (e : Head). e.name)) hd ∙ ap Some hn in
    let text : is_called t.records (snapshot_name head short) (item.Snap s) ≡ bytes_eq (head ++ 64 ∷ s.short) (snapshot_name head short) = ap (λ o. is_text (snapshot_name head short) (option_map (λ n. n ++ 64 ∷ s.short) o)) owner_name in
    let same : head ++ 64 ∷ s.short ≡ snapshot_name head short = ap (λ r. head ++ 64 ∷ r) ss in
    true≢false (sym (find-some (is_called t.records (snapshot_name head short)) (has_id i) t.records (item.Snap s) (is-snapshot (at t.records i) s hs) (text ∙ (bytes_eq-Decides (head ++ 64 ∷ s.short) (snapshot_name head short)).1 same)) ∙ free)
