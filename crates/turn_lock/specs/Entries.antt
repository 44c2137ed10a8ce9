-- Lists of entries, the newest first, and their makers.
use Rattle.std.specs.Prelude.{◌≡◌, ℕ, zero, suc, ◌+◌, ◌<◌, ◌==◌, nat_lt, List, [], ◌∷◌, ◌++◌, length, if◌then◌else◌}

-- how often the number stands in the list
abbrev pub times : ℕ → List ℕ → ℕ
times k [] = 0
times k (x ∷ xs) = (if x == k then 1 else 0) + times k xs

-- the numbers have this one
abbrev pub Holds : List ℕ → ℕ → Type 0
Holds numbers k = 0 < times k numbers

-- n - 1, .., 0
abbrev pub below : ℕ → List ℕ
below zero = []
below (suc n) = n ∷ below n

-- the list without the first k
abbrev pub without_first : ℕ → List ℕ → List ℕ
without_first k [] = []
without_first k (x ∷ xs) = if x == k then xs else (x ∷ without_first k xs)

abbrev pub longer : {E : Type 0} → List E → List E → List E
longer xs ys = if nat_lt (length xs) (length ys) then ys else xs

module _ {E : Type 0} (maker : E → ℕ) (numbers : List ℕ) where
  -- no entry is of a maker with one of these numbers
  abbrev pub NoneByThese : List E → Type 0
  NoneByThese [] = Unit {0}
  NoneByThese (e ∷ es) = (times (maker e) numbers ≡ 0) × NoneByThese es

  -- each entry is of a maker with one of these numbers
  abbrev pub EachByThese : List E → Type 0
  EachByThese [] = Unit {0}
  EachByThese (e ∷ es) = Holds numbers (maker e) × EachByThese es

  -- the list begins with what was seen, and goes on by entries of others
  abbrev pub GoesOnByOthers : List E → List E → Type 0
  GoesOnByOthers seen list = (later : List E) × (list ≡ later ++ seen) × NoneByThese later

  -- the list begins with what was seen, and goes on by entries of these makers
  abbrev pub GoesOnByOwn : List E → List E → Type 0
  GoesOnByOwn seen list = (later : List E) × (list ≡ later ++ seen) × EachByThese later
