-- The list after a change of some records that keep their ids.
use Rattle.std.proofs.Common.{◌≡◌, ℕ, ◌+◌, ◌≤◌, List, [], ◌∷◌, length, map, sum_by, nat_eq, Bool, true, false, cond, Option, Some, None, refl, sym, ap, subst, ◌∙◌, arith, option_map, unwrap_or}
use Rattle.std.proofs.lemmas.List.Sums.{sum_by-cons}
use Rattle.zp_tree.specs.declared.item.Item.{Item}
use Rattle.zp_tree.specs.Tree.{at, id_of, Rises, changed}

-- what becomes of a record
abbrev pub after : (Item → Option Item) → Item → Item
after f r = unwrap_or (f r) r

pub same-id : (f : Item → Option Item) → ((r x : Item) → f r ≡ Some x → id_of x ≡ id_of r) → (r : Item) → id_of (after f r) ≡ id_of r
same-id f keeps r = go (f r) refl
  where
    go : (o : Option Item) → f r ≡ o → id_of (unwrap_or o r) ≡ id_of r
    go None e = refl
    go (Some x) e = keeps r x e

pub at-changed : (f : Item → Option Item) → ((r x : Item) → f r ≡ Some x → id_of x ≡ id_of r) → (rs : List Item) (i : ℕ) → at (changed f rs) i ≡ option_map (after f) (at rs i)
at-changed f keeps [] i = refl
at-changed f keeps (r ∷ rs) i = ap (λ k. cond (nat_eq k i) (Some (after f r)) (at (changed f rs) i)) (same-id f keeps r) ∙ split (nat_eq (id_of r) i) (at-changed f keeps rs i)
  where
    split : (b : Bool) → at (changed f rs) i ≡ option_map (after f) (at rs i) → cond b (Some (after f r)) (at (changed f rs) i) ≡ option_map (after f) (cond b (Some r) (at rs i))
    split true e = refl
    split false e = e

pub rises-changed : (f : Item → Option Item) → ((r x : Item) → f r ≡ Some x → id_of x ≡ id_of r) → (low n : ℕ) (rs : List Item) → Rises low rs n → Rises low (changed f rs) n
rises-changed f keeps low n [] h = h
rises-changed f keeps low n (r ∷ rs) h = subst (λ k. (low ≤ k) × Rises (k + 1) (changed f rs) n) (sym (same-id f keeps r)) (h.0, rises-changed f keeps (id_of r + 1) n rs h.1)

pub ids-changed : (f : Item → Option Item) → ((r x : Item) → f r ≡ Some x → id_of x ≡ id_of r) → (rs : List Item) → map id_of (changed f rs) ≡ map id_of rs
ids-changed f keeps [] = refl
ids-changed f keeps (r ∷ rs) = ap (λ i. i ∷ map id_of (changed f rs)) (same-id f keeps r) ∙ ap (λ is. id_of r ∷ is) (ids-changed f keeps rs)

pub length-changed : (f : Item → Option Item) (rs : List Item) → length (changed f rs) ≡ length rs
length-changed f [] = refl
length-changed f (r ∷ rs) = let e : length (changed f rs) ≡ length rs = length-changed f rs in omega arith

-- a sum over what the change leaves
pub sum-changed : (f : Item → Option Item) (weight : Item → ℕ) → ((r : Item) → weight (after f r) ≡ weight r) → (rs : List Item) → sum_by weight (changed f rs) ≡ sum_by weight rs
sum-changed f weight same [] = refl
sum-changed f weight same (r ∷ rs) =
    sum_by-cons weight (after f r) (changed f rs) ∙ ap (λ n. n + sum_by weight (changed f rs)) (same r) ∙ ap (λ n. weight r + n) (sum-changed f weight same rs) ∙ sym (sum_by-cons weight r rs)
