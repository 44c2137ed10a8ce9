-- The variables that a function captures are told rising.
use Rattle.std.specs.Prelude.{◌≡◌, ℕ, zero, suc, ◌+◌, ◌<◌, ◌==◌, ◌&&◌, ◌||◌, Bool, true, false, cond, if◌then◌else◌, nat_lt, List, [], ◌∷◌, length, take, insert, Option, Some, None, slice_index, refl}
use Rattle.std.specs.List.{list_any, prefix_len}
use Rattle.std.specs.List.Sorted.{IsStrictlyIncreasing}
use Rattle.std.proofs.Common.{ap, ◌∙◌, sym, subst, arith}
use Rattle.std.proofs.lemmas.Bool.Decides.{nat_tests, Decides-ltb}
use Rattle.lua_scope.specs.declared.occurrence.Occurrence.{Occurrence}
use Rattle.lua_scope.specs.declared.occurrence.Occurrence.TheVariants as occurrence
use Rattle.lua_scope.specs.declared.frame.Frame.{Frame}
use Rattle.lua_scope.specs.Scope.{scope, first_variable}
use Rattle.lua_scope.specs.Variables.{meaning, captures, is_scope_of, place_in, with_number, with_use, with_meaning, captured_by}

abbrev pub put : ℕ → List ℕ → List ℕ
put v [] = v ∷ []
put v (w ∷ ws) = cond (nat_lt w v) (w ∷ put v ws) (v ∷ w ∷ ws)

put_by : (v w n : ℕ) (ws more : List ℕ) → insert ws (length (take n ws)) v ≡ more → (b : Bool)
    → insert (w ∷ ws) (length (take (cond b (1 + n) 0) (w ∷ ws))) v ≡ cond b (w ∷ more) (v ∷ w ∷ ws)
put_by v w n ws more e false = refl
put_by v w n ws more e true =
    let next : 1 + n ≡ suc n = omega arith
    in ap (λ (m : ℕ). insert (w ∷ ws) (length (take m (w ∷ ws))) v) next ∙ ap (λ (us : List ℕ). w ∷ us) e

pub insert_put : (v : ℕ) (ws : List ℕ) → insert ws (place_in v ws) v ≡ put v ws
insert_put v [] = refl
insert_put v (w ∷ ws) = put_by v w (prefix_len (λ u. nat_lt u v) ws) ws (put v ws) (insert_put v ws) (nat_lt w v)

-- Each number is above the one before it, and the first above n.
abbrev pub RisesFrom : ℕ → List ℕ → Type 0
RisesFrom n [] = Unit {0}
RisesFrom n (x ∷ xs) = (n < x) × RisesFrom x xs

abbrev pub Rises : List ℕ → Type 0
Rises [] = Unit {0}
Rises (x ∷ xs) = RisesFrom x xs

or_false : (a b : Bool) → (a || b) ≡ false → (a ≡ false) × (b ≡ false)
or_false true b e = absurd cc
or_false false b e = (refl, e)

past : (v w : ℕ) → nat_lt w v ≡ false → (w == v) ≡ false → v < w
past v w a b = grind (arith, nat_tests)

put_case : (n v w : ℕ) (ws more : List ℕ) (b : Bool) → nat_lt w v ≡ b → (w == v) ≡ false → n < v → (n < w) × RisesFrom w ws → (w < v → RisesFrom w more)
    → RisesFrom n (cond b (w ∷ more) (v ∷ w ∷ ws))
put_case n v w ws more true is other h r goes = (r.0, goes ((Decides-ltb w v).0 is))
put_case n v w ws more false is other h r goes = (h, (past v w is other, r.1))

put_from : (n v : ℕ) (ws : List ℕ) → n < v → RisesFrom n ws → list_any (λ (u : ℕ). u == v) ws ≡ false → RisesFrom n (put v ws)
put_from n v [] h r e = (h, tt)
put_from n v (w ∷ ws) h r e =
    let apart = or_false (w == v) (list_any (λ (u : ℕ). u == v) ws) e
    in put_case n v w ws (put v ws) (nat_lt w v) refl apart.0 h r (λ l. put_from w v ws l r.1 apart.1)

first_case : (v w : ℕ) (ws more : List ℕ) (b : Bool) → nat_lt w v ≡ b → (w == v) ≡ false → RisesFrom w ws → (w < v → RisesFrom w more) → Rises (cond b (w ∷ more) (v ∷ w ∷ ws))
first_case v w ws more true is other r goes = goes ((Decides-ltb w v).0 is)
first_case v w ws more false is other r goes = (past v w is other, r)

put_rises : (v : ℕ) (ws : List ℕ) → Rises ws → list_any (λ (u : ℕ). u == v) ws ≡ false → Rises (put v ws)
put_rises v [] r e = tt
put_rises v (w ∷ ws) r e =
    let apart = or_false (w == v) (list_any (λ (u : ℕ). u == v) ws) e
    in first_case v w ws (put v ws) (nat_lt w v) refl apart.0 r (λ l. put_from w v ws l r apart.1)

number_case : (v : ℕ) (ws : List ℕ) (b : Bool) → list_any (λ (u : ℕ). u == v) ws ≡ b → Rises ws → Rises (if b then ws else insert ws (place_in v ws) v)
number_case v ws true is r = r
number_case v ws false is r = subst (λ (us : List ℕ). Rises us) (sym (insert_put v ws)) (put_rises v ws r is)

with_number_rises : (v : ℕ) (ws : List ℕ) → Rises ws → Rises (with_number v ws)
with_number_rises v ws r = number_case v ws (list_any (λ (u : ℕ). u == v) ws) refl r

choice_rises : (v : ℕ) (ws : List ℕ) (b : Bool) → Rises ws → Rises (if b then with_number v ws else ws)
choice_rises v ws true r = with_number_rises v ws r
choice_rises v ws false r = r

with_use_rises : (first : ℕ → ℕ) (f v : ℕ) (ws : List ℕ) (frames : List Frame) → Rises ws → Rises (with_use first f v ws frames)
with_use_rises first f v ws [] r = r
with_use_rises first f v ws (frame ∷ frames) r =
    with_use_rises first f v (if is_scope_of f frame.kind && captures first v frame.kind then with_number v ws else ws) frames (choice_rises v ws (is_scope_of f frame.kind && captures first v frame.kind) r)

with_meaning_rises : (first : ℕ → ℕ) (f : ℕ) (o : Option ℕ) (ws : List ℕ) (frames : List Frame) → Rises ws → Rises (with_meaning first f o ws frames)
with_meaning_rises first f None ws frames r = r
with_meaning_rises first f (Some v) ws frames r = with_use_rises first f v ws frames r

captured_rises : (h : List Occurrence) (f : ℕ) → Rises (captured_by h f)
unfolding captured_by
captured_rises [] f = tt
captured_rises (occurrence.Use i x ∷ h) f = with_meaning_rises (first_variable h) f (meaning h x) (captured_by h f) (scope h).frames (captured_rises h f)
captured_rises (occurrence.Open o ∷ h) f = captured_rises h f
captured_rises (occurrence.Close ∷ h) f = captured_rises h f
captured_rises (occurrence.Declare i count ∷ h) f = captured_rises h f
captured_rises (occurrence.Enter i names ∷ h) f = captured_rises h f
captured_rises (occurrence.Goto l x ∷ h) f = captured_rises h f
captured_rises (occurrence.SecondLabel l ∷ h) f = captured_rises h f
captured_rises (occurrence.Break l ∷ h) f = captured_rises h f
captured_rises (occurrence.Vararg l ∷ h) f = captured_rises h f

increasing_from : (x : ℕ) (xs : List ℕ) → RisesFrom x xs → IsStrictlyIncreasing (x ∷ xs)
increasing_from x [] r k h = absurd (omega arith)
increasing_from x (y ∷ ys) r zero h = r.0
increasing_from x (y ∷ ys) r (suc k) h =
    let next : suc k + 1 ≡ suc (k + 1) = omega arith
    in subst (λ (m : ℕ). slice_index (y ∷ ys) k < slice_index (x ∷ y ∷ ys) m) (sym next) (increasing_from y ys r.1 k (omega arith))

increasing : (xs : List ℕ) → Rises xs → IsStrictlyIncreasing xs
increasing [] r = λ k h. absurd (omega arith)
increasing (x ∷ xs) r = increasing_from x xs r

pub captured_increasing : (h : List Occurrence) (f : ℕ) → IsStrictlyIncreasing (captured_by h f)
captured_increasing h f = increasing (captured_by h f) (captured_rises h f)
