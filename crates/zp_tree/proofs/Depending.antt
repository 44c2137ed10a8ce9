-- From the look-ups by name to what stands or falls with a record.
use Rattle.std.proofs.Common.{◌≡◌, ℕ, zero, suc, ◌+◌, ◌≤◌, ◌==◌, List, [], ◌∷◌, ◌++◌, Bool, true, false, ◌&&◌, ◌||◌, cond, Option, Some, None, is_some, refl, sym, ap, ◌∙◌, arith, option_map, option_and_then}
use Rattle.std.specs.Prelude.{slice_get}
use Rattle.std.specs.List.{list_any}
use Rattle.std.specs.Option.{option_map_or}
use Rattle.std.proofs.lemmas.Bool.{eq-eqb, ne_eqb}
use Rattle.zp_names.specs.Names.{is_valid_name}
use Rattle.zp_names.specs.NameParts.{parent_of}
use Rattle.zp_tree.specs.declared.item.Item.{Item}
use Rattle.zp_tree.specs.declared.item.Item.TheVariants as item
use Rattle.zp_tree.specs.declared.item.Head.{Head}
use Rattle.zp_tree.specs.declared.item.Snapshot.{Snapshot}
use Rattle.zp_tree.specs.Tree.{Tree, at, as_head, id_of, is_text, head_name, Rises}
use Rattle.zp_tree.specs.NextByName.{is_above, is_id, child_above, snapshot_above, is_child_above, is_snapshot_above, is_clone_above, is_bookmark_above, bookmark_above, IsNext, NoneComes, HasFirst}
use Rattle.zp_tree.specs.Dependents.{is_child_of, is_snapshot_of, is_clone_of, is_bookmark_of, has_children, has_snapshots, has_clones}
use Rattle.zp_tree.specs.WellFormed.{IsHead, AreRecords, IsWellFormed}
use Rattle.zp_tree.proofs.Looks.{at-low}

-- ---- a test over a list

pub any-none : {X : Type 0} (test : X → Bool) (xs : List X) → ((k : ℕ) (x : X) → slice_get xs k ≡ Some x → test x ≡ false) → list_any test xs ≡ false
any-none test [] h = refl
any-none test (x ∷ xs) h = ap (λ b. b || list_any test xs) (h 0 x refl) ∙ any-none test xs (λ k y e. h (suc k) y e)

pub any-place : {X : Type 0} (test : X → Bool) (xs : List X) (k : ℕ) (x : X) → slice_get xs k ≡ Some x → test x ≡ true → list_any test xs ≡ true
any-place test [] k x e h = cc
any-place test (y ∷ xs) zero x e h = let is : Some y ≡ Some x = e in let it : y ≡ x = cc in ap (λ b. b || list_any test xs) (ap test it ∙ h)
any-place test (y ∷ xs) (suc k) x e h = ap (λ b. test y || b) (any-place test xs k x e h) ∙ right (test y)
  where
    right : (b : Bool) → (b || true) ≡ true
    right true = refl
    right false = refl

-- what stands at a place stands at its id
pub at-place : (low n k : ℕ) (rs : List Item) (r : Item) → Rises low rs n → slice_get rs k ≡ Some r → at rs (id_of r) ≡ Some r
at-place low n k [] r h e = cc
at-place low n zero (x ∷ rs) r h e = let is : Some x ≡ Some r = e in let it : x ≡ r = cc in ap (λ b. cond b (Some x) (at rs (id_of r))) (eq-eqb (id_of x) (id_of r) (ap id_of it)) ∙ is
at-place low n (suc k) (x ∷ rs) r h e =
    let there : at rs (id_of r) ≡ Some r = at-place (id_of x + 1) n k rs r h.1 e in
    let le : id_of x + 1 ≤ id_of r = at-low (id_of x + 1) n (id_of r) rs r h.1 there in
    let other : id_of x ≡ id_of r → ⊥ = λ same. omega arith in
    ap (λ b. cond b (Some x) (at rs (id_of r))) (ne_eqb (id_of x) (id_of r) other) ∙ there

-- ---- texts above the empty one

joined-above : (n s : List ℕ) (x : ℕ) → is_above (n ++ (x ∷ s)) [] ≡ true
joined-above [] s x = refl
joined-above (b ∷ n) s x = refl

valid-above : (n : List ℕ) → is_valid_name n ≡ true → is_above n [] ≡ true
unfolding is_valid_name
valid-above [] h = cc
valid-above (b ∷ n) h = refl

and-true : (a b : Bool) → b ≡ true → (a && b) ≡ a
and-true true b h = h
and-true false b h = refl

-- the name of a head that is in the tree can be told from the empty text
head-above : (t : Tree) (k : ℕ) (d : Head) → AreRecords t → slice_get t.records k ≡ Some (item.Head d) → is_above d.name [] ≡ true
head-above t k d w e = let good : IsHead d = w.records d.id (item.Head d) (at-place 0 t.next k t.records (item.Head d) w.rises e) in valid-above d.name good.name

-- ---- whether one comes at all

pub some-next : (rs : List Item) (may test : Item → Bool) (o : Option ℕ) → ((k : ℕ) (r : Item) → slice_get rs k ≡ Some r → may r ≡ test r) → IsNext rs may o → is_some o ≡ list_any test rs
some-next rs may test None same h = sym (any-none test rs (λ k r e. sym (same k r e) ∙ h.none k r e))
some-next rs may test (Some i) same h = sym (any-place test rs h.first.place h.item h.first.there (sym (same h.first.place h.item h.first.there) ∙ h.first.passes))

head-called : (rs : List Item) (d : Head) → at rs d.id ≡ Some (item.Head d) → head_name rs d.id ≡ Some d.name
head-called rs d there = ap (λ (o : Option Item). option_map (λ (e : Head). e.name) (option_and_then as_head o)) there

pub children_there : (t : Tree) (d : Head) (o : Option ℕ) → AreRecords t → at t.records d.id ≡ Some (item.Head d) → IsNext t.records (is_child_above t.records d.id []) o → is_some o ≡ has_children t d
children_there t d o w there h = some-next t.records (is_child_above t.records d.id []) (is_child_of d.name) o (λ k r e. named r ∙ same k r e) h
  where
    named : (r : Item) → is_child_above t.records d.id [] r ≡ child_above d.name [] r
    named r = ap (λ (q : Option (List ℕ)). option_map_or (λ n. child_above n [] r) q false) (head-called t.records d there)

    same : (k : ℕ) (r : Item) → slice_get t.records k ≡ Some r → child_above d.name [] r ≡ is_child_of d.name r
    same k (item.Head e) at_k = and-true (is_text d.name (parent_of e.name)) (is_above e.name []) (head-above t k e w at_k)
    same k (item.Snap s) at_k = refl
    same k (item.Mark m) at_k = refl

pub snapshots_there : (t : Tree) (d : Head) (o : Option ℕ) → at t.records d.id ≡ Some (item.Head d) → IsNext t.records (is_snapshot_above t.records d.id []) o → is_some o ≡ has_snapshots t d
snapshots_there t d o there h = some-next t.records (is_snapshot_above t.records d.id []) (is_snapshot_of d.id) o (λ k r e. named r ∙ same r) h
  where
    named : (r : Item) → is_snapshot_above t.records d.id [] r ≡ snapshot_above d.id d.name [] r
    named r = ap (λ (q : Option (List ℕ)). option_map_or (λ n. snapshot_above d.id n [] r) q false) (head-called t.records d there)

    same : (r : Item) → snapshot_above d.id d.name [] r ≡ is_snapshot_of d.id r
    same (item.Head e) = refl
    same (item.Snap s) = and-true (s.owner == d.id) (is_above (d.name ++ (64 ∷ s.short)) []) (joined-above d.name s.short 64)
    same (item.Mark m) = refl

pub clones_there : (t : Tree) (s : Snapshot) (o : Option ℕ) → AreRecords t → IsNext t.records (is_clone_above s.id []) o → is_some o ≡ has_clones t s
clones_there t s o w h = some-next t.records (is_clone_above s.id []) (is_clone_of s.id) o same h
  where
    same : (k : ℕ) (r : Item) → slice_get t.records k ≡ Some r → is_clone_above s.id [] r ≡ is_clone_of s.id r
    same k (item.Head e) at_k = and-true (is_id s.id e.origin) (is_above e.name []) (head-above t k e w at_k)
    same k (item.Snap u) at_k = refl
    same k (item.Mark m) at_k = refl

-- ---- bookmarks

bookmark-same : (rs : List Item) (i : ℕ) (name : List ℕ) (r : Item) → head_name rs i ≡ Some name → is_bookmark_above rs i [] r ≡ is_bookmark_of i r
bookmark-same rs i name r called = ap (λ (q : Option (List ℕ)). option_map_or (λ n. bookmark_above i n [] r) q false) called ∙ same r
  where
    same : (r : Item) → bookmark_above i name [] r ≡ is_bookmark_of i r
    same (item.Head e) = refl
    same (item.Snap s) = refl
    same (item.Mark m) = and-true (m.owner == i) (is_above (name ++ (35 ∷ m.short)) []) (joined-above name m.short 35)

-- where none comes, the head has no bookmark
pub no-bookmark : (rs : List Item) (i : ℕ) (name : List ℕ) → head_name rs i ≡ Some name → NoneComes rs (is_bookmark_above rs i []) → (k : ℕ) (r : Item) → slice_get rs k ≡ Some r → is_bookmark_of i r ≡ false
no-bookmark rs i name called h k r e = sym (bookmark-same rs i name r called) ∙ h.none k r e

-- what comes first is a bookmark of the head
pub a-bookmark : (rs : List Item) (i j : ℕ) (name : List ℕ) → head_name rs i ≡ Some name → (h : HasFirst rs (is_bookmark_above rs i []) j) → is_bookmark_of i h.item ≡ true
a-bookmark rs i j name called h = sym (bookmark-same rs i name h.item called) ∙ h.first.passes

-- ---- well-formed trees

-- the records of a well-formed tree
pub well_records : (t : Tree) → IsWellFormed t → AreRecords t
well_records t w = record { rises = w.rises; records = w.agrees.records }
