-- A number put into a set of numbers.
use Rattle.std.specs.Prelude.{◌≡◌, ℕ, suc, ◌+◌, ◌<◌, ◌==◌, ◌||◌, Bool, true, false, cond, nat_lt, List, [], ◌∷◌, slice_index, refl}
use Rattle.std.specs.declared.cmp.Ordering.TheVariants.{Less, Equal, Greater}
use Rattle.std.specs.List.{list_any}
use Rattle.std.specs.List.Sorted.{IsStrictlyIncreasing, IsStrictlySortedBy}
use Rattle.std.specs.Ordering.{nat_cmp, match_ordering}
use Rattle.std.specs.BTreeSet.{insert_key}
use Rattle.std.proofs.Common.{ap, ◌∙◌, sym, subst, arith}
use Rattle.std.proofs.lemmas.Bool.Decides.{nat_tests}
use Rattle.std.proofs.lemmas.Map.Keys.{IsStrictlyIncreasing-from_sorted}
use Rattle.lua_scope.specs.Variables.{with_number}
use Rattle.lua_scope.proofs.Rising.{RisesFrom, Rises, put, insert_put}

rises_from : (x : ℕ) (xs : List ℕ) → IsStrictlyIncreasing (x ∷ xs) → RisesFrom x xs
rises_from x [] i = tt
rises_from x (y ∷ ys) i = (
  i 0 (omega arith),
  rises_from y ys (λ k h.
      let next : suc k + 1 ≡ suc (k + 1) = omega arith
      in subst (λ (m : ℕ). slice_index (y ∷ ys) k < slice_index (x ∷ y ∷ ys) m) next (i (suc k) (omega arith))),
)

rises : (xs : List ℕ) → IsStrictlyIncreasing xs → Rises xs
rises [] i = tt
rises (x ∷ xs) i = rises_from x xs i

none_below : (v w : ℕ) (ws : List ℕ) → v < w → RisesFrom w ws → list_any (λ (u : ℕ). u == v) ws ≡ false
none_below v w [] h r = refl
none_below v w (x ∷ xs) h r =
    let apart : (x == v) ≡ false = (let l : v < x = omega arith in grind (arith, nat_tests))
    in ap (λ (b : Bool). b || list_any (λ (u : ℕ). u == v) xs) apart ∙ none_below v x xs (omega arith) r.1

last_of : {X : Type 0} (a b c : Bool) (x y z : X) → a ≡ false → b ≡ false → c ≡ false → z ≡ cond (a || b) x (cond c y z)
last_of false false false x y z d e f = refl
last_of true b c x y z d e f = absurd cc
last_of false true c x y z d e f = absurd cc
last_of false false true x y z d e f = absurd cc

first_of : {X : Type 0} (a b c : Bool) (x y z : X) → a ≡ true → x ≡ cond (a || b) x (cond c y z)
first_of true b c x y z d = refl
first_of false b c x y z d = absurd cc

later_of : (w : ℕ) (a b c : Bool) (us vs zs : List ℕ) → a ≡ false → c ≡ true → w ∷ cond b us vs ≡ cond (a || b) (w ∷ us) (cond c (w ∷ vs) zs)
later_of w false true true us vs zs d e = refl
later_of w false false true us vs zs d e = refl
later_of w true b c us vs zs d e = absurd cc
later_of w false b false us vs zs d e = absurd cc

above : (v w : ℕ) → nat_lt v w ≡ true → (v < w) × ((w == v) ≡ false) × (nat_lt w v ≡ false)
above v w h = (grind (arith, nat_tests), grind (arith, nat_tests), grind (arith, nat_tests))

same : (v w : ℕ) → (v == w) ≡ true → (w == v) ≡ true
same v w h = grind (arith, nat_tests)

below : (v w : ℕ) → nat_lt v w ≡ false → (v == w) ≡ false → ((w == v) ≡ false) × (nat_lt w v ≡ true)
below v w h e = (grind (arith, nat_tests), grind (arith, nat_tests))

put_case : (v w : ℕ) (ws more : List ℕ) (a b : Bool) → nat_lt v w ≡ a → (v == w) ≡ b → RisesFrom w ws → more ≡ cond (list_any (λ (u : ℕ). u == v) ws) ws (put v ws)
    → match_ordering (cond a Less (cond b Equal Greater)) (v ∷ w ∷ ws) (w ∷ ws) (w ∷ more)
    ≡ cond ((w == v) || list_any (λ (u : ℕ). u == v) ws) (w ∷ ws) (cond (nat_lt w v) (w ∷ put v ws) (v ∷ w ∷ ws))
put_case v w ws more true b is other r e =
    let f = above v w is
    in last_of (w == v) (list_any (λ (u : ℕ). u == v) ws) (nat_lt w v) (w ∷ ws) (w ∷ put v ws) (v ∷ w ∷ ws) f.1 (none_below v w ws f.0 r) f.2
put_case v w ws more false true is other r e =
    first_of (w == v) (list_any (λ (u : ℕ). u == v) ws) (nat_lt w v) (w ∷ ws) (w ∷ put v ws) (v ∷ w ∷ ws) (same v w other)
put_case v w ws more false false is other r e =
    let f = below v w is other
    in ap (λ (us : List ℕ). w ∷ us) e ∙ later_of w (w == v) (list_any (λ (u : ℕ). u == v) ws) (nat_lt w v) ws (put v ws) (v ∷ w ∷ ws) f.0 f.1

tail_rises : (w : ℕ) (ws : List ℕ) → RisesFrom w ws → Rises ws
tail_rises w [] r = tt
tail_rises w (x ∷ xs) r = r.1

key_put : (v : ℕ) (ws : List ℕ) → Rises ws → insert_key nat_cmp ws v ≡ cond (list_any (λ (u : ℕ). u == v) ws) ws (put v ws)
key_put v [] r = refl
key_put v (w ∷ ws) r = put_case v w ws (insert_key nat_cmp ws v) (nat_lt v w) (v == w) refl refl r (key_put v ws (tail_rises w ws r))

pub key_inserted : (v : ℕ) (ws : List ℕ) → IsStrictlySortedBy nat_cmp ws → insert_key nat_cmp ws v ≡ with_number v ws
key_inserted v ws up =
    key_put v ws (rises ws (IsStrictlyIncreasing-from_sorted ws up))
    ∙ ap (λ (us : List ℕ). cond (list_any (λ (u : ℕ). u == v) ws) ws us) (sym (insert_put v ws))
