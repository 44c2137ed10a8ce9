-- Positions in a text (Lua 5.2 manual, 6.4): the first byte has position 1, and a negative position counts from the end, where the last byte has -1.
use Rattle.std.specs.Prelude.{ℕ, ◌+◌, ℤ, pos, ◌+ℤ◌, int_lt, Bool, ◌&&◌, not, if◌then◌else◌, List, [], ◌∷◌, length}

-- the position from the front that a position means in a text of so many bytes
abbrev pub from_front : (bytes : ℕ) → ℤ → ℤ
from_front n i = if int_lt i (pos 0) then pos n +ℤ i +ℤ pos 1 else i

-- it is neither before i nor behind j
abbrev pub is_between : (i j : ℤ) → ℕ → Bool
is_between i j at = not (int_lt (pos at) i) && not (int_lt j (pos at))

-- of bytes of which the first has position `at`, those from position i to position j
unfoldable pub between : (i j : ℤ) → (at : ℕ) → List ℕ → List ℕ
between i j at [] = []
between i j at (b ∷ bs) = if is_between i j at then b ∷ between i j (at + 1) bs else between i j (at + 1) bs

-- the bytes of a text from position i to position j, both included
abbrev pub bytes_between : List ℕ → (i j : ℤ) → List ℕ
bytes_between s i j = between (from_front (length s) i) (from_front (length s) j) 1 s
