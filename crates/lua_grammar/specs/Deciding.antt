-- The reading of a list of tokens, computed by the automaton.
use Rattle.std.specs.Prelude.{ℕ, suc, List, [], ◌∷◌, Option, Some, None}
use Rattle.lua_lexer.specs.declared.token.Token.{Token}
use Rattle.lua_grammar.specs.Pushdown.{State, BlockNext, Done, step, steps, initial}
use Rattle.lua_grammar.specs.Parses.{counted, uncounted, signs, end_sign, Reading, parsed, unexpected, too_deep, unfinished}

-- The state after these tokens, if the grammar has them.
abbrev pub run : List ℕ → List Token → Option State
run text ts = steps (signs text ts) initial

-- What a step comes to: the next state, a token that the grammar doesn't have there, or one level too many.
pub data Step : Type 0 where
  goes : (o : State) → Step
  refused : Step
  deep : Step

abbrev pub step_by : Option State → Option State → Step
step_by (Some o) free = goes o
step_by None (Some o) = deep
step_by None None = refused

-- The step over a token of the text.
abbrev pub step_over : List ℕ → State → Token → Step
step_over text o t = step_by (step (Some o) (counted text t)) (step (Some o) (uncounted text t))

abbrev pub reading_at_end : Option State → Reading
reading_at_end (Some (Done t)) = parsed t
reading_at_end _ = unfinished

abbrev pub reading_by : Step → ℕ → (State → Reading) → Reading
reading_by (goes o) n further = further o
reading_by refused n further = unexpected n
reading_by deep n further = too_deep n

-- The reading of the tokens from the place n on.
abbrev pub reading_from : List ℕ → List Token → ℕ → State → Reading
reading_from text [] n o = reading_at_end (step (Some o) end_sign)
reading_from text (t ∷ ts) n o = reading_by (step_over text o t) n (λ p. reading_from text ts (suc n) p)

unfoldable pub reading : List ℕ → List Token → Reading
reading text ts = reading_from text ts 0 (BlockNext [])
