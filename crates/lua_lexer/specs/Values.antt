-- The bytes that a literal string stands for (Lua 5.2 manual, section 3.1).
use Rattle.std.specs.Prelude.{ℕ, zero, suc, ◌+◌, ◌-◌, ◌==◌, List, [], ◌∷◌, Option, Some, None, length, take, drop, slice_index, if◌then◌else◌}
use Rattle.lua_lexer.specs.declared.quoted.Part.{Part}
use Rattle.lua_lexer.specs.declared.quoted.Part.TheVariants.{Close, Unclosed, Byte, Skip, Bad}
use Rattle.lua_lexer.specs.Escapes.{part_at}
use Rattle.lua_lexer.specs.Brackets.{bracket_level}

-- the byte that a part stands for, if it does, and then those of the further ones
abbrev pub bytes_by : (ℕ → List ℕ) → ℕ → Part → List ℕ
bytes_by further at Close = []
bytes_by further at Unclosed = []
bytes_by further at (Byte b n) = b ∷ further (at + n)
bytes_by further at (Skip n) = further (at + n)
bytes_by further at Bad = []

-- what at most so many parts from this place on stand for
unfoldable pub bytes_from : (parts : ℕ) → ℕ → List ℕ → ℕ → List ℕ
bytes_from zero q xs at = []
bytes_from (suc parts) q xs at = bytes_by (λ k. bytes_from parts q xs k) at (part_at q (drop at xs))

abbrev pub quoted_value : List ℕ → List ℕ
quoted_value s = bytes_from (length s + 1) (slice_index s 0) s 1

abbrev pub without_newline : List ℕ → List ℕ
without_newline [] = []
without_newline (b ∷ rest) = if b == 10 then rest else b ∷ rest

-- what stands between the brackets, without a newline right behind the first
abbrev pub long_value : (level : ℕ) → List ℕ → List ℕ
long_value level s = without_newline (take (length s - (level + 2) - (level + 2)) (drop (level + 2) s))

abbrev pub text_value_by : Option ℕ → List ℕ → List ℕ
text_value_by (Some level) s = long_value level s
text_value_by None s = quoted_value s

-- the bytes that a literal string stands for
unfoldable pub text_value : List ℕ → List ℕ
text_value s = text_value_by (bracket_level s) s
