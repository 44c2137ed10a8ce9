-- What a step of the parser gives.
use Rattle.std.specs.Prelude.{◌≡◌, ℕ, ◌≤◌, true, nat_le, cond, is_some, List, length, Option, Some, None, Result, Ok, Err}
use Rattle.lua_lexer.specs.declared.token.TokenKind.{TokenKind}
use Rattle.lua_lexer.specs.declared.token.TokenKind.TheVariants.{Numeral}
use Rattle.lua_lexer.specs.Numerals.{numeral_value}
use Rattle.lua_grammar.specs.Signs.{Terminal, token, end}
use Rattle.lua_grammar.specs.Pushdown as pushdown
use Rattle.lua_parser_state.specs.declared.refusal.Refusal.{Refusal}
use Rattle.lua_parser_state.specs.declared.refusal.Refusal.TheVariants as refusal
use Rattle.lua_parser_state.specs.declared.state.State.{State}
use Rattle.lua_parser_state.specs.Shown.{Held, stack_in, state_in, StateBelow}

-- A token's kind, or the end of the text.
abbrev pub terminal_of : Option TokenKind → Terminal
terminal_of (Some k) = token k
terminal_of None = end

-- The refusal is that of a step that comes to these states, where levels count and where they don't.
abbrev pub Refuses : (counted free : Option pushdown.State) → Refusal → Type 0
Refuses counted free refusal.NoMemory = Unit {0}
Refuses counted free refusal.Unexpected = (counted ≡ None) × (free ≡ None)
Refuses counted free refusal.TooDeep = (counted ≡ None) × (is_some free ≡ true)

-- The answer is that of a step that comes to these states, where levels count and where they don't.
abbrev pub Gave : (counted free : Option pushdown.State) → Result State Refusal → Held → Type 0
Gave counted free (Ok s) h = (counted ≡ Some (state_in h.nodes (stack_in h) s)) × StateBelow (length h.nodes) s
Gave counted free (Err e) h = Refuses counted free e

-- A state behind so many open levels.
abbrev pub within : ℕ → pushdown.State → Option pushdown.State
within d s = cond (nat_le d 200) (Some s) None

-- A numeral is not too large.
abbrev pub IsSmall : TokenKind → List ℕ → Type 0
IsSmall k s = k ≡ Numeral → numeral_value s ≤ 9223372036854775807

abbrev pub IsSmallSign : Option TokenKind → List ℕ → Type 0
IsSmallSign None s = Unit {0}
IsSmallSign (Some k) s = IsSmall k s
