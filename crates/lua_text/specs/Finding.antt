-- Where a text stands in another (Lua 5.2 manual, 6.4: string.find with the argument `plain`).
use Rattle.std.specs.Prelude.{ℕ, ◌+◌, ℤ, pos, int_lt, Bool, true, false, ◌&&◌, ◌==◌, not, if◌then◌else◌, List, [], ◌∷◌, length, Option, Some, None}
use Rattle.lua_text.specs.Positions.{from_front}

-- the first text begins the second
abbrev pub stands_first : List ℕ → List ℕ → Bool
stands_first [] s = true
stands_first (c ∷ cs) [] = false
stands_first (c ∷ cs) (b ∷ bs) = c == b && stands_first cs bs

-- of bytes of which the first has position `at`, the first position, not before i, at which the wanted text stands
unfoldable pub found : (wanted : List ℕ) (i : ℤ) (at : ℕ) → List ℕ → Option ℕ
found wanted i at [] = if not (int_lt (pos at) i) && stands_first wanted [] then Some at else None
found wanted i at (b ∷ bs) = if not (int_lt (pos at) i) && stands_first wanted (b ∷ bs) then Some at else found wanted i (at + 1) bs

-- the first position in a text, from position i on, at which the wanted text stands; the empty text stands behind the last byte too
abbrev pub first_place : List ℕ → (wanted : List ℕ) → (i : ℤ) → Option ℕ
first_place s wanted i = found wanted (from_front (length s) i) 1 s
