-- Borders of tables that are filled up to a known number.
use Rattle.std.proofs.Common.{◌≡◌, ◌≢◌, ℕ, zero, suc, ◌+◌, ◌-◌, ◌<◌, ℤ, pos, negsuc, Bool, true, false, refl, ap, sym, subst, ◌∙◌, Some, length, min, cond, if◌then◌else◌, arith, true≢false, inl, inr, ◌==◌, ◌⊎◌}
use Rattle.std.proofs.lemmas.Bool.Decides.{eqb_tells, Decides-int_eq}
use Rattle.std.specs.Map.{lookup}
use Rattle.std.specs.Ordering.{int_eq}
use Rattle.lua_meaning.specs.declared.value.Value.{Value}
use Rattle.lua_meaning.specs.declared.value.Value.TheVariants as value
use Rattle.lua_meaning.specs.Values.{same, is_nil, or_nil}
use Rattle.lua_meaning.specs.Tables.{Pairs, value_at, border, border_behind}
use Rattle.lua_values.specs.Filled.{IsFilled, filled_by, filled_at, item_key}

behind_step : (most n : ℕ) (ps : Pairs) → is_nil (value_at ps (item_key n)) ≡ false → border_behind (suc most) n ps ≡ border_behind most (n + 1) ps
behind_step most n ps full = ap (λ b. if b then n else border_behind most (n + 1) ps) full

-- a walk for the border may begin behind what is filled
border_filled : (n m : ℕ) (ps : Pairs) → length ps ≡ m + n → ((place : ℕ) → place < n → is_nil (value_at ps (item_key place)) ≡ false) → border ps ≡ border_behind m n ps
border_filled zero m ps e full = let f : length ps ≡ m = omega (arith, e) in ap (λ k. border_behind k 0 ps) f
border_filled (suc n) m ps e full =
    let f : length ps ≡ suc m + n = omega (arith, e) in
    let g : n + 1 ≡ suc n = omega arith in
    border_filled n (suc m) ps f (λ place l. full place (omega (arith, l))) ∙ behind_step m n ps (full n (omega arith)) ∙ ap (λ k. border_behind m k ps) g

pub border_at_end : (n : ℕ) (ps : Pairs) → IsFilled n ps → length ps ≡ n → n ≡ border ps
border_at_end n ps filled e = sym (border_filled n 0 ps (omega (arith, e)) filled.at)

pub border_here : (n : ℕ) (ps : Pairs) → IsFilled n ps → n < length ps → is_nil (value_at ps (item_key n)) ≡ true → n ≡ border ps
border_here n ps filled l gap =
    let e : length ps ≡ suc (length ps - (n + 1)) + n = omega (arith, l) in
    sym (border_filled n (suc (length ps - (n + 1))) ps e filled.at ∙ ap (λ b. if b then n else border_behind (length ps - (n + 1)) (n + 1) ps) gap)

pub filled_more : (n : ℕ) (ps : Pairs) → IsFilled n ps → n < length ps → is_nil (value_at ps (item_key n)) ≡ false → IsFilled (n + 1) ps
filled_more n ps filled l full = record {
  within = omega (arith, l);
  at = λ place below. elim (eqb_tells place n) [
    | inl t ↦ subst (λ k. is_nil (value_at ps (item_key k)) ≡ false) (sym t.1) full
    | inr t ↦ filled.at place (omega (arith, below, t.1))
  ];
}

abbrev magnitude : ℤ → ℕ
magnitude (pos n) = n
magnitude (negsuc n) = 0

ints_apart : (a b : ℕ) → a ≢ b → int_eq (pos a) (pos b) ≡ false
ints_apart a b apart = by (int_eq (pos a) (pos b)) (Decides-int_eq (pos a) (pos b)).0
  where
    by : (r : Bool) → (r ≡ true → pos a ≡ pos b) → r ≡ false
    by true tells = absurd (apart (ap magnitude (tells refl)))
    by false tells = refl

ints_differ : (a b : ℕ) → int_eq (pos a) (pos b) ≡ false → a ≢ b
ints_differ a b differs e = true≢false (sym ((Decides-int_eq (pos a) (pos b)).1 (ap pos e)) ∙ differs)

-- what a table has once v was put at k
module _ (n : ℕ) (old new : Pairs) (v : Value) (filled : IsFilled n old) where
  abbrev pub IsPut : Value → Type 0
  IsPut k = (q : Value) → lookup (same q) new ≡ cond (same k q) (Some v) (lookup (same q) old)

  kept : (k : Value) → IsPut k → (place : ℕ) → place < n → same k (item_key place) ≡ false → is_nil (value_at new (item_key place)) ≡ false
  kept k put place l apart = ap (λ o. is_nil (or_nil o)) (put (item_key place) ∙ ap (λ b. cond b (Some v) (lookup (same (item_key place)) old)) apart) ∙ filled.at place l

  placed : (k : Value) → IsPut k → is_nil v ≡ false → (place : ℕ) → (same k (item_key place) ≡ false → place < n) → is_nil (value_at new (item_key place)) ≡ false
  placed k put full place other = by (same k (item_key place)) refl
    where
      by : (b : Bool) → same k (item_key place) ≡ b → is_nil (value_at new (item_key place)) ≡ false
      by true e = ap (λ o. is_nil (or_nil o)) (put (item_key place) ∙ ap (λ b. cond b (Some v) (lookup (same (item_key place)) old)) e) ∙ full
      by false e = kept k put place (other e) e

  apart : (p place : ℕ) → place < min n p → p ≢ place
  apart p place l e = omega (arith, l, e)

  other : (p place : ℕ) → place < filled_at false n p → int_eq (pos (suc p)) (pos (place + 1)) ≡ false → place < n
  other p place l differs = by (eqb_tells p n)
    where
      by : ((p == n ≡ true) × (p ≡ n)) ⊎ ((p == n ≡ false) × (p ≢ n)) → place < n
      by (inl t) =
          let below : place < n + 1 = subst (λ b. place < (if b then n + 1 else n)) t.0 l in
          let apart : suc p ≢ place + 1 = ints_differ (suc p) (place + 1) differs in
          omega (arith, below, apart, t.1)
      by (inr t) = subst (λ b. place < (if b then n + 1 else n)) t.0 l

  zero_apart : (place : ℕ) → 0 ≢ place + 1
  zero_apart place e = omega (arith, e)

  fills_at : (p : ℕ) → IsPut (value.Int (pos (suc p))) → (b : Bool) → is_nil v ≡ b → (place : ℕ) → place < filled_at b n p → is_nil (value_at new (item_key place)) ≡ false
  fills_at p put true e place l = kept (value.Int (pos (suc p))) put place (omega (arith, l)) (ints_apart (suc p) (place + 1) (λ e. apart p place l (omega (arith, e))))
  fills_at p put false e place l = placed (value.Int (pos (suc p))) put e place (λ differs. other p place l differs)

  pub fills : (k : Value) → IsPut k → (place : ℕ) → place < filled_by n k v → is_nil (value_at new (item_key place)) ≡ false
  fills (value.Int (pos zero)) put place l = kept (value.Int (pos zero)) put place l (ints_apart 0 (place + 1) (λ e. zero_apart place e))
  fills (value.Int (pos (suc p))) put place l = fills_at p put (is_nil v) refl place l
  fills (value.Int (negsuc z)) put place l = kept (value.Int (negsuc z)) put place l refl
  fills k put place l = kept k put place l refl

  pub filled_put : (k : Value) → IsPut k → IsFilled (min (filled_by n k v) (length new)) new
  filled_put k put = record { within = omega arith; at = λ place l. fills k put place (omega (arith, l)) }
