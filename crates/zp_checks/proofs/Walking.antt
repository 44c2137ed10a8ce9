-- Going over a list by places, for one that passes.
use Rattle.std.proofs.Common.{◌≡◌, ℕ, zero, suc, ◌+◌, List, [], ◌∷◌, take, Bool, true, false, ◌||◌, refl, sym, ap, ◌∙◌, add-one}
use Rattle.std.specs.Prelude.{slice_get}
use Rattle.std.specs.List.{list_any}
use Rattle.std.specs.Option.{option_map_or}

-- where the one at a place passes, some one does
pub any-at-place : {X : Type 0} (p : X → Bool) (xs : List X) (place : ℕ) → option_map_or p (slice_get xs place) false ≡ true → list_any p xs ≡ true
any-at-place p [] place e = cc
any-at-place p (x ∷ xs) zero e = ap (λ b. b || list_any p xs) e
any-at-place p (x ∷ xs) (suc n) e = either (p x) (any-at-place p xs n e)
  where
    either : (b : Bool) → list_any p xs ≡ true → (b || list_any p xs) ≡ true
    either true h = refl
    either false h = h

none-more : {X : Type 0} (p : X → Bool) (xs : List X) (place : ℕ) → list_any p (take place xs) ≡ false → option_map_or p (slice_get xs place) false ≡ false → list_any p (take (suc place) xs) ≡ false
none-more p [] zero none e = refl
none-more p [] (suc n) none e = refl
none-more p (x ∷ xs) zero none e = ap (λ b. b || false) e
none-more p (x ∷ xs) (suc n) none e = both (p x) none (none-more p xs n)
  where
    both : (b : Bool) → (b || list_any p (take n xs)) ≡ false → (list_any p (take n xs) ≡ false → option_map_or p (slice_get xs n) false ≡ false → list_any p (take (suc n) xs) ≡ false) → (b || list_any p (take (suc n) xs)) ≡ false
    both true h f = cc
    both false h f = f h e

-- none passes up to the next place, where the one at this place doesn't
pub none-up-to : {X : Type 0} (p : X → Bool) (xs : List X) (place : ℕ) → list_any p (take place xs) ≡ false → option_map_or p (slice_get xs place) false ≡ false → list_any p (take (place + 1) xs) ≡ false
none-up-to p xs place none e = ap (λ n. list_any p (take n xs)) (add-one place) ∙ none-more p xs place none e
