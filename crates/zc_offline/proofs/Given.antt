-- The replies of all sessions, and the calls of each.
use Rattle.std.proofs.Common.{◌≡◌, ℕ, zero, suc, ◌+◌, ◌<◌, ◌≤◌, ◌^◌, List, [], ◌∷◌, length, map, Some, IsSome, refl, sym, ap, ◌∙◌, arith, slice_get, slice_index, slice_index_or, slice_set, All, take, ◌++◌, add-one}
use Rattle.std.proofs.Math.Seq.{take-suc}
use Rattle.std.specs.List.{range_with_len}
use Rattle.zc_offline.specs.Replay.{call_in}

-- ---- a function of each number of a range

pub map-length : {X : Type 0} (f : ℕ → X) (a n : ℕ) → length (map f (range_with_len a n)) ≡ n
map-length f a zero = refl
map-length f a (suc n) = ap suc (map-length f (a + 1) n)

-- the value at a place
pub map-at : {X : Type 0} (f : ℕ → X) (a n k : ℕ) (d : X) → k < n → slice_index_or (map f (range_with_len a n)) k d ≡ f (a + k)
map-at f a zero k d lt = absurd (omega arith)
map-at f a (suc n) zero d lt = ap f (omega arith)
map-at f a (suc n) (suc k) d lt = map-at f (a + 1) n k d (omega arith) ∙ ap f (omega arith)

-- functions that agree on the range
map-agree : {X : Type 0} (f g : ℕ → X) (a n : ℕ) → ((t : ℕ) → a ≤ t → f t ≡ g t) → map f (range_with_len a n) ≡ map g (range_with_len a n)
map-agree f g a zero same = refl
map-agree {X} f g a (suc n) same = ap (λ (x : X). x ∷ map f (range_with_len (a + 1) n)) (same a (omega arith)) ∙ ap (λ xs. g a ∷ xs) (map-agree f g (a + 1) n (λ t le. same t (omega arith)))

pub map-same : {X : Type 0} (f g : ℕ → X) (a n : ℕ) → ((t : ℕ) → f t ≡ g t) → map f (range_with_len a n) ≡ map g (range_with_len a n)
map-same f g a n same = map-agree f g a n (λ t le. same t)

-- functions that agree but at one place
pub map-set : {X : Type 0} (f g : ℕ → X) (a n k : ℕ) (x : X) → k < n → g (a + k) ≡ x → ((t : ℕ) → (t ≡ a + k → ⊥) → f t ≡ g t) → slice_set (map f (range_with_len a n)) k x ≡ map g (range_with_len a n)
map-set f g a zero k x lt at others = absurd (omega arith)
map-set {X} f g a (suc n) zero x lt at others =
    let here : g a ≡ x = ap g (omega arith) ∙ at in
    ap (λ (y : X). y ∷ map f (range_with_len (a + 1) n)) (sym here) ∙ ap (λ xs. g a ∷ xs) (map-agree f g (a + 1) n (λ t le. others t (λ e. omega arith)))
map-set {X} f g a (suc n) (suc k) x lt at others =
    ap (λ (y : X). y ∷ slice_set (map f (range_with_len (a + 1) n)) k x) (others a (λ e. omega arith))
    ∙ ap (λ xs. g a ∷ xs) (map-set f g (a + 1) n k x (omega arith) (ap g (omega arith) ∙ at) (λ t ne. others t (λ e. ne (omega arith))))

-- ---- the calls of a session

within : {C : Type 0} (calls : List C) (n : ℕ) → n < length calls → IsSome (slice_get calls n)
within [] n lt = absurd (omega arith)
within (c ∷ calls) zero lt = refl
within (c ∷ calls) (suc n) lt = within calls n (omega arith)

-- a call whose number is below the count is there
pub call-there : {C : Type 0} (sessions : List (List C)) (s n : ℕ) → n < slice_index (map length sessions) s → IsSome (call_in sessions s n)
call-there [] s n lt = absurd (omega arith)
call-there (calls ∷ sessions) zero n lt = within calls n lt
call-there (calls ∷ sessions) (suc s) n lt = call-there sessions s n lt

below-length : {C : Type 0} (calls : List C) (n : ℕ) (c : C) → slice_get calls n ≡ Some c → n < length calls
below-length [] n c e = cc
below-length (d ∷ calls) zero c e = omega arith
below-length (d ∷ calls) (suc n) c e = let lt : n < length calls = below-length calls n c e in omega arith

-- the numbers of calls are as small as the lists of calls are short
pub number-small : {C : Type 0} (sessions : List (List C)) (s n : ℕ) (c : C) → All (λ (calls : List C). length calls < 2 ^ 32) sessions → call_in sessions s n ≡ Some c → n < 2 ^ 32
number-small [] s n c short e = cc
number-small (calls ∷ sessions) zero n c short e = let lt : n < length calls = below-length calls n c e in let le : length calls < 2 ^ 32 = short 0 [] (omega arith) in omega arith
number-small (calls ∷ sessions) (suc s) n c short e = number-small sessions s n c (λ k d lt. short (suc k) d (omega arith)) e

-- ---- places of a list

pub take-one : {X : Type 0} (xs : List X) (i : ℕ) (d : X) → i < length xs → take (i + 1) xs ≡ take i xs ++ slice_index_or xs i d ∷ []
take-one xs i d lt = rw (add-one, take-suc xs i d lt)

pub some-at : {X : Type 0} (xs : List X) (i : ℕ) (d : X) → i < length xs → slice_get xs i ≡ Some (slice_index_or xs i d)
some-at [] i d lt = absurd (omega arith)
some-at (x ∷ xs) zero d lt = refl
some-at (x ∷ xs) (suc i) d lt = some-at xs i d (omega arith)
