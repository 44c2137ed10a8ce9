-- Texts from their ends, and texts that are joined.
use Rattle.std.specs.Prelude.{◌≡◌, ℕ, Bool, true, false, List, ◌++◌, reverse, Option, Some, None}
use Rattle.lua_meaning.specs.Operators.{Texts, texts, not_texts}
use Rattle.lua_meaning.specs.Numbers.{behind_blanks}

-- a text before its last blanks
abbrev pub before_blanks : List ℕ → List ℕ
before_blanks s = reverse (behind_blanks (reverse s))

-- two texts as one
abbrev pub joined_texts : Texts → Option (List ℕ)
joined_texts (texts s t) = Some (s ++ t)
joined_texts not_texts = None

-- a text is added at the end, where there is one
abbrev pub IsAppended : Option (List ℕ) → (before : List ℕ) → (there : Bool) → (after : List ℕ) → Type 0
IsAppended None before there after = (there ≡ false) × (after ≡ before)
IsAppended (Some s) before there after = (there ≡ true) × (after ≡ before ++ s)
