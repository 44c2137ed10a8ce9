-- Names in byte order, as the keys of a set keep them.
use Rattle.std.proofs.Common.{◌≡◌, ℕ, zero, suc, ◌-◌, ◌<◌, List, [], ◌∷◌, Bool, ◌||◌, ◌&&◌, map, drop, bytes_eq, Option, Some, None, Vec, Ordering, Less, Equal, Greater, nat_cmp, refl, sym, ap, ◌∙◌, arith, option_and_then}
use Rattle.std.specs.Prelude.{slice_get}
use Rattle.std.specs.List.{list_any, filter_map, cons_option}
use Rattle.std.specs.Ordering.{match_ordering}
use Rattle.std.specs.Cmp.Lexicographic.{slice_cmp}
use Rattle.std.specs.BTreeMap.{is_at}
use Rattle.std.specs.BTreeSet.{insert_key}
use Rattle.std.proofs.lemmas.Map.Text.{is_eq-slice_cmp}
use Rattle.zp_tree.specs.declared.item.Item.{Item}
use mathlib.Core.Path.{fun_ext}
use Rattle.zp_tree.specs.declared.item.Snapshot.{Snapshot}
use Rattle.zp_tree.specs.declared.promotion.Promotion.{Promotion}
use Rattle.zp_tree.specs.Tree.{Tree}
use Rattle.zp_tree.specs.ShortNames.{short_name_if, in_byte_order, short_names}
use Rattle.zp_tree.proofs.ByteOrder.{any-ordered}
use Rattle.zp_tree.specs.Promote.{moves, is_owned_by, names_in_the_way}
use Rattle.zp_checks.specs.Noting.{with_name}

-- whether a set has a name
pub any-named : {Z : Type 0} (x : List ℕ) (ks : List (Vec ℕ Z)) → list_any (is_at (λ (k : Vec ℕ Z). slice_cmp nat_cmp x k.items)) ks ≡ list_any (bytes_eq x) (map (λ (k : Vec ℕ Z). k.items) ks)
any-named x [] = refl
any-named {Z} x (k ∷ ks) = ap (λ b. b || list_any (is_at (λ (k : Vec ℕ Z). slice_cmp nat_cmp x k.items)) ks) (is_eq-slice_cmp x k.items) ∙ ap (λ b. bytes_eq x k.items || b) (any-named x ks)

-- a name more
pub named-more : {Z : Type 0} (ks : List (Vec ℕ Z)) (k : Vec ℕ Z) → map (λ (k : Vec ℕ Z). k.items) (insert_key (λ (a b : Vec ℕ Z). slice_cmp nat_cmp a.items b.items) ks k) ≡ insert_key (slice_cmp nat_cmp) (map (λ (k : Vec ℕ Z). k.items) ks) k.items
named-more [] k = refl
named-more {Z} (x ∷ xs) k = by (slice_cmp nat_cmp k.items x.items) (named-more xs k)
  where
    by : (o : Ordering) → map (λ (k : Vec ℕ Z). k.items) (insert_key (λ (a b : Vec ℕ Z). slice_cmp nat_cmp a.items b.items) xs k) ≡ insert_key (slice_cmp nat_cmp) (map (λ (k : Vec ℕ Z). k.items) xs) k.items →
        map (λ (k : Vec ℕ Z). k.items) (match_ordering o (k ∷ x ∷ xs) (x ∷ xs) (x ∷ insert_key (λ (a b : Vec ℕ Z). slice_cmp nat_cmp a.items b.items) xs k)) ≡ match_ordering o (k.items ∷ x.items ∷ map (λ (k : Vec ℕ Z). k.items) xs) (x.items ∷ map (λ (k : Vec ℕ Z). k.items) xs) (x.items ∷ insert_key (slice_cmp nat_cmp) (map (λ (k : Vec ℕ Z). k.items) xs) k.items)
    by Less e = refl
    by Equal e = refl
    by Greater e = ap (λ ys. x.items ∷ ys) e

-- the names of the records from a place on, with the one that is there
from-place : (f : Item → Option (List ℕ)) (rs : List Item) (k : ℕ) → in_byte_order (filter_map f (drop k rs)) ≡ with_name (in_byte_order (filter_map f (drop (suc k) rs))) (option_and_then f (slice_get rs k))
from-place f [] zero = refl
from-place f [] (suc k) = refl
from-place f (r ∷ rs) zero = by (f r)
  where
    by : (o : Option (List ℕ)) → in_byte_order (cons_option o (filter_map f rs)) ≡ with_name (in_byte_order (filter_map f rs)) o
    by None = refl
    by (Some x) = refl
from-place f (r ∷ rs) (suc k) = from-place f rs k

-- what a loop that goes down to a place has then
pub names-from : (f : Item → Option (List ℕ)) (rs : List Item) (k : ℕ) (old new : List (List ℕ)) (o : Option Item) → 0 < k → o ≡ slice_get rs (k - 1) → old ≡ in_byte_order (filter_map f (drop k rs)) → new ≡ with_name old (option_and_then f o) → new ≡ in_byte_order (filter_map f (drop (k - 1) rs))
names-from f rs k old new o some there before after =
    let next : suc (k - 1) ≡ k = omega arith in
    after ∙ ap (λ (names : List (List ℕ)). with_name names (option_and_then f o)) (before ∙ ap (λ n. in_byte_order (filter_map f (drop n rs))) (sym next))
    ∙ ap (λ (r : Option Item). with_name (in_byte_order (filter_map f (drop (suc (k - 1)) rs))) (option_and_then f r)) there
    ∙ sym (from-place f rs (k - 1))

-- ---- the names in the way of a promotion

pub in-the-way : (t : Tree) (m : Promotion) (own : List (List ℕ)) → own ≡ short_names (is_owned_by m.clone) t.records → short_names (λ s. moves m s && list_any (bytes_eq s.short) own) t.records ≡ names_in_the_way t m
in-the-way t m own is = ap (λ (p : Snapshot → Bool). short_names p t.records) (fun_ext (λ (s : Snapshot).
    ap (λ (names : List (List ℕ)). moves m s && list_any (bytes_eq s.short) names) is ∙ ap (λ b. moves m s && b) (any-ordered (bytes_eq s.short) (filter_map (short_name_if (is_owned_by m.clone)) t.records))))
