-- From the look-ups by name to the name that comes next.
use Rattle.std.proofs.Common.{◌≡◌, ℕ, ◌==◌, List, [], ◌∷◌, ◌++◌, Bool, true, false, cond, ◌&&◌, ◌||◌, bytes_eq, Option, Some, None, Result, Ok, Err, IfOk, inl, inr, refl, sym, ap, subst, ◌∙◌, nat_cmp, option_map, option_and_then}
use Rattle.std.specs.Prelude.{slice_get}
use Rattle.std.specs.List.{list_any, filter_map, cons_option}
use Rattle.std.specs.Option.{option_map_or}
use Rattle.std.specs.Ordering.{ordering_then, is_gt}
use Rattle.std.specs.Cmp.Lexicographic.{slice_cmp}
use Rattle.std.proofs.lemmas.Bool.{cases_Bool, and_left, and_right, eqb-true}
use Rattle.std.proofs.lemmas.Cmp.{nat_cmp_total, tied_itself}
use Rattle.std.proofs.lemmas.Slice.Eq.{bytes_eq-Decides}
use Rattle.zp_names.specs.NameParts.{parent_of}
use Rattle.zp_tree.specs.declared.item.Item.{Item}
use Rattle.zp_tree.specs.declared.item.Item.TheVariants as item
use Rattle.zp_tree.specs.declared.item.Head.{Head}
use Rattle.zp_tree.specs.declared.item.Snapshot.{Snapshot}
use Rattle.zp_tree.specs.Tree.{Tree, at, as_head, head_name, full_name, is_text, Rises}
use Rattle.zp_tree.specs.NextByName.{is_above, is_id, key_of, IsNext, is_child_above, child_above, is_snapshot_above, snapshot_above, is_clone_above, is_bookmark_above, bookmark_above}
use Rattle.zp_tree.specs.Dependents.{is_child_of, is_snapshot_of, is_bookmark_of, is_clone_of}
use Rattle.zp_tree.specs.WellFormed.{IsWellFormed}
use Rattle.zp_tree.proofs.Depending.{any-none, any-place, at-place}
use Rattle.zcp_read.specs.Lists.{name_if, names_where, ComesNext, IsNextName}
use Rattle.zcp_read.specs.Told.{full_name_at}

-- what holds of x holds of an answer that is x
pub ok-as : {A E : Type 0} (r : Result A E) (P : A → Type 0) (x : A) → IfOk r (λ a. a ≡ x) → P x → IfOk r P
ok-as (Ok a) P x e p = subst P (sym e) p
ok-as (Err b) P x e p = tt

-- a test of the names is a test of the records
any-named : (p : List ℕ → Bool) (f : Item → Option (List ℕ)) (rs : List Item) → list_any p (filter_map f rs) ≡ list_any (λ r. option_map_or p (f r) false) rs
any-named p f [] = refl
any-named p f (r ∷ rs) = by (f r) (any-named p f rs)
  where
    by : (o : Option (List ℕ)) → list_any p (filter_map f rs) ≡ list_any (λ u. option_map_or p (f u) false) rs → list_any p (cons_option o (filter_map f rs)) ≡ (option_map_or p o false || list_any (λ u. option_map_or p (f u) false) rs)
    by None e = e
    by (Some n) e = ap (λ b. p n || b) e

-- a look-up goes over the records that stand in a relation, in the order of their full names
pub record Serves (rs : List Item) (stands : Item → Bool) (after : List ℕ) (may : Item → Bool) : Type 0 where
  pub same : (r : Item) → may r ≡ option_map_or (λ n. is_above n after) (name_if rs stands r) false
  pub order : (r u : Item) (n m : List ℕ) → name_if rs stands r ≡ Some n → name_if rs stands u ≡ Some m → is_above n m ≡ is_above (key_of r) (key_of u)

-- a name that passes the test
record Passes (p : List ℕ → Bool) (o : Option (List ℕ)) : Type 0 where
  name : List ℕ
  is : o ≡ Some name
  passes : p name ≡ true

a-name : (p : List ℕ → Bool) (o : Option (List ℕ)) → option_map_or p o false ≡ true → Passes p o
a-name p None e = cc
a-name p (Some n) e = record { name = n; is = refl; passes = e }

-- the name that stands in the relation is the full name
whole-name : (rs : List Item) (stands : Item → Bool) (r : Item) (n : List ℕ) → name_if rs stands r ≡ Some n → full_name rs r ≡ Some n
whole-name rs stands r n e = by (stands r) e
  where
    by : (b : Bool) → cond b (full_name rs r) None ≡ Some n → full_name rs r ≡ Some n
    by true g = g
    by false g = cc

pub next-name : (rs : List Item) (next : ℕ) (stands : Item → Bool) (after : List ℕ) (may : Item → Bool) (found : Option ℕ) → Rises 0 rs next → Serves rs stands after may → IsNext rs may found → IsNextName (names_where rs stands) after (option_and_then (full_name_at rs) found)
next-name rs next stands after may None rises s h =
    any-named (λ n. is_above n after) (name_if rs stands) rs
    ∙ any-none (λ r. option_map_or (λ n. is_above n after) (name_if rs stands r) false) rs (λ k r e. sym (s.same r) ∙ h.none k r e)
next-name rs next stands after may (Some i) rises s h = comes (option_and_then (full_name rs) (at rs i)) (ap (option_and_then (full_name rs)) there ∙ whole-name rs stands r name.name name.is)
  where
    r : Item
    r = h.item

    there : at rs i ≡ Some r
    there = ap (at rs) (sym h.id) ∙ at-place 0 next h.first.place rs r rises h.first.there

    name : Passes (λ n. is_above n after) (name_if rs stands r)
    name = a-name (λ n. is_above n after) (name_if rs stands r) (sym (s.same r) ∙ h.first.passes)

    one : list_any (bytes_eq name.name) (names_where rs stands) ≡ true
    one = any-named (bytes_eq name.name) (name_if rs stands) rs
        ∙ any-place (λ u. option_map_or (bytes_eq name.name) (name_if rs stands u) false) rs h.first.place r h.first.there
        (ap (λ (o : Option (List ℕ)). option_map_or (bytes_eq name.name) o false) name.is ∙ (bytes_eq-Decides name.name name.name).1 refl)

    between : (k : ℕ) (u : Item) → slice_get rs k ≡ Some u → (o : Option (List ℕ)) → name_if rs stands u ≡ o → option_map_or (λ m. is_above m after && is_above name.name m) o false ≡ false
    between k u e None is = refl
    between k u e (Some m) is = elim (cases_Bool (is_above m after)) [
      | inr under ↦ and_left (is_above m after) (is_above name.name m) under
      | inl over ↦ (let may_u = s.same u ∙ ap (λ (o : Option (List ℕ)). option_map_or (λ n. is_above n after) o false) is ∙ over in
          and_right (is_above m after) (is_above name.name m) (s.order r u name.name m name.is is ∙ h.first.least k u e may_u))
    ]

    least : list_any (λ m. is_above m after && is_above name.name m) (names_where rs stands) ≡ false
    least = any-named (λ m. is_above m after && is_above name.name m) (name_if rs stands) rs
        ∙ any-none (λ u. option_map_or (λ m. is_above m after && is_above name.name m) (name_if rs stands u) false) rs (λ k u e. between k u e (name_if rs stands u) refl)

    comes : (o : Option (List ℕ)) → o ≡ Some name.name → IsNextName (names_where rs stands) after o
    comes None e = cc
    comes (Some n) e =
        let is : n ≡ name.name = cc in
        subst (ComesNext (names_where rs stands) after) (sym is) (record { one = one; beyond = name.passes; least = least })

-- ---- the four relations

-- texts that begin alike are in the order of what is behind
order-behind : (p x y : List ℕ) → is_above (p ++ x) (p ++ y) ≡ is_above x y
order-behind [] x y = refl
order-behind (a ∷ p) x y = ap (λ o. is_gt (ordering_then o (slice_cmp nat_cmp (p ++ x) (p ++ y)))) (tied_itself nat_cmp_total a) ∙ order-behind p x y

head-called : (rs : List Item) (d : Head) → at rs d.id ≡ Some (item.Head d) → head_name rs d.id ≡ Some d.name
head-called rs d there = ap (λ (o : Option Item). option_map (λ (e : Head). e.name) (option_and_then as_head o)) there

-- where the name is above or there is none
chosen : (p : List ℕ → Bool) (b : Bool) (n : List ℕ) → (b && p n) ≡ option_map_or p (cond b (Some n) None) false
chosen p true n = refl
chosen p false n = refl

taken : (b : Bool) (x n : List ℕ) → cond b (Some x) None ≡ Some n → x ≡ n
taken true x n e = cc
taken false x n e = cc

children-serve : (rs : List Item) (d : Head) (after : List ℕ) → at rs d.id ≡ Some (item.Head d) → Serves rs (is_child_of d.name) after (is_child_above rs d.id after)
children-serve rs d after there = record { same = λ r. called r ∙ same r; order = order }
  where
    called : (r : Item) → is_child_above rs d.id after r ≡ child_above d.name after r
    called r = ap (λ (o : Option (List ℕ)). option_map_or (λ n. child_above n after r) o false) (head-called rs d there)

    same : (r : Item) → child_above d.name after r ≡ option_map_or (λ n. is_above n after) (name_if rs (is_child_of d.name) r) false
    same (item.Head e) = chosen (λ n. is_above n after) (is_text d.name (parent_of e.name)) e.name
    same (item.Snap s) = refl
    same (item.Mark m) = refl

    order : (r u : Item) (n m : List ℕ) → name_if rs (is_child_of d.name) r ≡ Some n → name_if rs (is_child_of d.name) u ≡ Some m → is_above n m ≡ is_above (key_of r) (key_of u)
    order (item.Head e) (item.Head f) n m g h = ap (λ x. is_above x m) (sym (taken (is_text d.name (parent_of e.name)) e.name n g)) ∙ ap (is_above e.name) (sym (taken (is_text d.name (parent_of f.name)) f.name m h))
    order (item.Snap s) u n m g h = cc
    order (item.Mark k) u n m g h = cc
    order (item.Head e) (item.Snap s) n m g h = cc
    order (item.Head e) (item.Mark k) n m g h = cc

clones-serve : (rs : List Item) (s : Snapshot) (after : List ℕ) → Serves rs (is_clone_of s.id) after (is_clone_above s.id after)
clones-serve rs s after = record { same = same; order = order }
  where
    same : (r : Item) → is_clone_above s.id after r ≡ option_map_or (λ n. is_above n after) (name_if rs (is_clone_of s.id) r) false
    same (item.Head e) = chosen (λ n. is_above n after) (is_id s.id e.origin) e.name
    same (item.Snap u) = refl
    same (item.Mark m) = refl

    order : (r u : Item) (n m : List ℕ) → name_if rs (is_clone_of s.id) r ≡ Some n → name_if rs (is_clone_of s.id) u ≡ Some m → is_above n m ≡ is_above (key_of r) (key_of u)
    order (item.Head e) (item.Head f) n m g h = ap (λ x. is_above x m) (sym (taken (is_id s.id e.origin) e.name n g)) ∙ ap (is_above e.name) (sym (taken (is_id s.id f.origin) f.name m h))
    order (item.Snap v) u n m g h = cc
    order (item.Mark k) u n m g h = cc
    order (item.Head e) (item.Snap v) n m g h = cc
    order (item.Head e) (item.Mark k) n m g h = cc

-- the name of what a head of this name owns, where it is the owner
owned : (rs : List Item) (i owner : ℕ) (name tail : List ℕ) → head_name rs i ≡ Some name → cond (owner == i) (option_map (λ n. n ++ tail) (head_name rs owner)) None ≡ cond (owner == i) (Some (name ++ tail)) None
owned rs i owner name tail called = elim (cases_Bool (owner == i)) [
  | inl same ↦ ap (λ (o : Option (List ℕ)). cond (owner == i) (option_map (λ n. n ++ tail) o) None) (ap (head_name rs) (eqb-true owner i same) ∙ called)
  | inr other ↦ ap (λ b. cond b (option_map (λ n. n ++ tail) (head_name rs owner)) None) other ∙ sym (ap (λ b. cond b (Some (name ++ tail)) None) other)
]

-- two such names are in the order of their short names
owned-order : (rs : List Item) (i o p : ℕ) (name x y n m : List ℕ) (b : ℕ) → head_name rs i ≡ Some name → cond (o == i) (option_map (λ k. k ++ (b ∷ x)) (head_name rs o)) None ≡ Some n → cond (p == i) (option_map (λ k. k ++ (b ∷ y)) (head_name rs p)) None ≡ Some m → is_above n m ≡ is_above x y
owned-order rs i o p name x y n m b called g h =
    ap (λ k. is_above k m) (sym (taken (o == i) (name ++ (b ∷ x)) n (sym (owned rs i o name (b ∷ x) called) ∙ g)))
    ∙ ap (is_above (name ++ (b ∷ x))) (sym (taken (p == i) (name ++ (b ∷ y)) m (sym (owned rs i p name (b ∷ y) called) ∙ h)))
    ∙ order-behind name (b ∷ x) (b ∷ y) ∙ order-behind (b ∷ []) x y

snapshots-serve : (rs : List Item) (d : Head) (after : List ℕ) → at rs d.id ≡ Some (item.Head d) → Serves rs (is_snapshot_of d.id) after (is_snapshot_above rs d.id after)
snapshots-serve rs d after there = record { same = λ r. called r ∙ same r; order = order }
  where
    called : (r : Item) → is_snapshot_above rs d.id after r ≡ snapshot_above d.id d.name after r
    called r = ap (λ (o : Option (List ℕ)). option_map_or (λ n. snapshot_above d.id n after r) o false) (head-called rs d there)

    same : (r : Item) → snapshot_above d.id d.name after r ≡ option_map_or (λ n. is_above n after) (name_if rs (is_snapshot_of d.id) r) false
    same (item.Head e) = refl
    same (item.Snap s) = chosen (λ n. is_above n after) (s.owner == d.id) (d.name ++ (64 ∷ s.short)) ∙ sym (ap (λ (o : Option (List ℕ)). option_map_or (λ n. is_above n after) o false) (owned rs d.id s.owner d.name (64 ∷ s.short) (head-called rs d there)))
    same (item.Mark m) = refl

    order : (r u : Item) (n m : List ℕ) → name_if rs (is_snapshot_of d.id) r ≡ Some n → name_if rs (is_snapshot_of d.id) u ≡ Some m → is_above n m ≡ is_above (key_of r) (key_of u)
    order (item.Snap s) (item.Snap v) n m g h = owned-order rs d.id s.owner v.owner d.name s.short v.short n m 64 (head-called rs d there) g h
    order (item.Head e) u n m g h = cc
    order (item.Mark k) u n m g h = cc
    order (item.Snap s) (item.Head e) n m g h = cc
    order (item.Snap s) (item.Mark k) n m g h = cc

bookmarks-serve : (rs : List Item) (d : Head) (after : List ℕ) → at rs d.id ≡ Some (item.Head d) → Serves rs (is_bookmark_of d.id) after (is_bookmark_above rs d.id after)
bookmarks-serve rs d after there = record { same = λ r. called r ∙ same r; order = order }
  where
    called : (r : Item) → is_bookmark_above rs d.id after r ≡ bookmark_above d.id d.name after r
    called r = ap (λ (o : Option (List ℕ)). option_map_or (λ n. bookmark_above d.id n after r) o false) (head-called rs d there)

    same : (r : Item) → bookmark_above d.id d.name after r ≡ option_map_or (λ n. is_above n after) (name_if rs (is_bookmark_of d.id) r) false
    same (item.Head e) = refl
    same (item.Snap s) = refl
    same (item.Mark m) = chosen (λ n. is_above n after) (m.owner == d.id) (d.name ++ (35 ∷ m.short)) ∙ sym (ap (λ (o : Option (List ℕ)). option_map_or (λ n. is_above n after) o false) (owned rs d.id m.owner d.name (35 ∷ m.short) (head-called rs d there)))

    order : (r u : Item) (n m : List ℕ) → name_if rs (is_bookmark_of d.id) r ≡ Some n → name_if rs (is_bookmark_of d.id) u ≡ Some m → is_above n m ≡ is_above (key_of r) (key_of u)
    order (item.Mark k) (item.Mark l) n m g h = owned-order rs d.id k.owner l.owner d.name k.short l.short n m 35 (head-called rs d there) g h
    order (item.Head e) u n m g h = cc
    order (item.Snap s) u n m g h = cc
    order (item.Mark k) (item.Head e) n m g h = cc
    order (item.Mark k) (item.Snap s) n m g h = cc

pub next_child : (t : Tree) (d : Head) (after : List ℕ) (found : Option ℕ) → IsWellFormed t → at t.records d.id ≡ Some (item.Head d) → IsNext t.records (is_child_above t.records d.id after) found → IsNextName (names_where t.records (is_child_of d.name)) after (option_and_then (full_name_at t.records) found)
next_child t d after found w there h = next-name t.records t.next (is_child_of d.name) after (is_child_above t.records d.id after) found w.rises (children-serve t.records d after there) h

pub next_snapshot : (t : Tree) (d : Head) (after : List ℕ) (found : Option ℕ) → IsWellFormed t → at t.records d.id ≡ Some (item.Head d) → IsNext t.records (is_snapshot_above t.records d.id after) found → IsNextName (names_where t.records (is_snapshot_of d.id)) after (option_and_then (full_name_at t.records) found)
next_snapshot t d after found w there h = next-name t.records t.next (is_snapshot_of d.id) after (is_snapshot_above t.records d.id after) found w.rises (snapshots-serve t.records d after there) h

pub next_bookmark : (t : Tree) (d : Head) (after : List ℕ) (found : Option ℕ) → IsWellFormed t → at t.records d.id ≡ Some (item.Head d) → IsNext t.records (is_bookmark_above t.records d.id after) found → IsNextName (names_where t.records (is_bookmark_of d.id)) after (option_and_then (full_name_at t.records) found)
next_bookmark t d after found w there h = next-name t.records t.next (is_bookmark_of d.id) after (is_bookmark_above t.records d.id after) found w.rises (bookmarks-serve t.records d after there) h

pub next_clone : (t : Tree) (s : Snapshot) (after : List ℕ) (found : Option ℕ) → IsWellFormed t → IsNext t.records (is_clone_above s.id after) found → IsNextName (names_where t.records (is_clone_of s.id)) after (option_and_then (full_name_at t.records) found)
next_clone t s after found w h = next-name t.records t.next (is_clone_of s.id) after (is_clone_above s.id after) found w.rises (clones-serve t.records s after) h
