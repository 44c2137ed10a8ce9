-- Long brackets (Lua 5.2 manual, section 3.1).
use Rattle.std.specs.Prelude.{ℕ, ◌+◌, ◌<◌, ◌≡◌, ◌==◌, ◌&&◌, Bool, true, false, List, [], ◌∷◌, Option, Some, None, length, drop, slice_index, if◌then◌else◌}
use Rattle.std.specs.List.{prefix_len}
use Rattle.lua_lexer.specs.Bytes.{is_equals_sign}

-- the level of the long bracket that opens at the front, if one does: `[`, that many equals signs, `[`
unfoldable pub bracket_level : List ℕ → Option ℕ
bracket_level [] = None
bracket_level (b ∷ rest) =
    let n = prefix_len is_equals_sign rest in
    if b == 91 && slice_index rest n == 91 then Some n else None

-- `]`, that many equals signs and `]` stand at the front
unfoldable pub closes : ℕ → List ℕ → Bool
closes level [] = false
closes level (b ∷ rest) = b == 93 && (prefix_len is_equals_sign rest == level && slice_index rest level == 93)

-- the first closing bracket of this level stands n bytes further
pub record IsFirstClosing (level n : ℕ) (xs : List ℕ) : Type 0 where
  pub there : closes level (drop n xs) ≡ true
  pub first : (i : ℕ) → i < n → closes level (drop i xs) ≡ false

-- a long bracket of this level, with n bytes in it
pub record IsLong (level n : ℕ) (s : List ℕ) : Type 0 where
  pub opens : bracket_level s ≡ Some level
  pub ends : IsFirstClosing level n (drop (level + 2) s)
  pub whole : length s ≡ n + (level + 2) + (level + 2)
