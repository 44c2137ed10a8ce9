use Rattle.std.specs.Prelude.{ℕ, List, Err, true, false}
use Rattle.std.proofs.Common.{ap, sym, subst, get_or}
use Rattle.std.proofs.lemmas.Option.{slice_get-get_or}
use Rattle.lua_lexer.specs.declared.token.Token.{Token}
use Rattle.lua_lexer.specs.declared.token.TokenKind.TheVariants.{And}
use Rattle.lua_grammar.specs.Signs.{token}
use Rattle.lua_grammar.specs.Pushdown as pushdown
use Rattle.lua_grammar.specs.Pushdown.{BlockNext, step_from}
use Rattle.lua_grammar.specs.Deciding.{reading, reading_from}
use Rattle.lua_parser.specs.declared.parse_error.ParseError.{ParseError}
use Rattle.lua_parser_state.specs.Shown.{stack_in, state_in, attributes}
use Rattle.lua_parser_state.specs.Gave.{Refuses, IsSmall}
use Rattle.lua_parser.specs.Parsing.{HasReading}
use Rattle.lua_parser.proofs.Readings.{stops}
use Rattle.lua_parser.proofs.reading.read.Goals as goal

nil : Token
nil = record { kind = And; start = 0; end = 0; line = 0 }

pub loop-token-init : goal.loop-token-init
unfolding reading
loop-token-init c = record {
  rest = ap (λ (k : List pushdown.Frame). reading_from c.args.text.now c.args.tokens.now 0 (BlockNext k)) (sym c.requires.nothing);
  below = tt;
  order = c.requires.order;
}

pub slice-requires-clause-ordered : goal.slice-requires-clause-ordered
unfolding nil
slice-requires-clause-ordered c = (c.requires.fit c.loop-token.token-index (get_or c.args.tokens.now c.loop-token.token-index nil) (slice_get-get_or c.args.tokens.now c.loop-token.token-index nil c.loop-token-test.true)).ordered

pub slice-requires-clause-within : goal.slice-requires-clause-within
unfolding nil
slice-requires-clause-within c = (c.requires.fit c.loop-token.token-index (get_or c.args.tokens.now c.loop-token.token-index nil) (slice_get-get_or c.args.tokens.now c.loop-token.token-index nil c.loop-token-test.true)).within

pub step-requires-clause-small : goal.step-requires-clause-small
unfolding nil
step-requires-clause-small c =
    let t = get_or c.args.tokens.now c.loop-token.token-index nil in
    subst (λ (s : List ℕ). IsSmall t.kind s) (sym c.slice.ensures) (c.requires.fit c.loop-token.token-index t (slice_get-get_or c.args.tokens.now c.loop-token.token-index nil c.loop-token-test.true)).small

pub returns-in-Err-clause-refused : goal.returns-in-Err-clause-refused
unfolding nil
returns-in-Err-clause-refused c =
    let ts = c.args.tokens.now in
    let t = get_or ts c.loop-token.token-index nil in
    let o = state_in c.loop-token.parser.nodes (stack_in c.loop-token.parser) c.loop-token.state in
    let refused = subst (λ (s : List ℕ). Refuses (step_from o (token t.kind) (attributes true t.line s)) (step_from o (token t.kind) (attributes false t.line s)) c.in-Err.refusal) c.slice.ensures c.in-Err.ensures.gave in
    subst (λ (e : ParseError). HasReading c.args.text.now ts (reading c.args.text.now ts) (Err e)) (sym c.refusal_at.ensures)
    (stops c.args.text.now ts c.loop-token.token-index t (slice_get-get_or ts c.loop-token.token-index nil c.loop-token-test.true) o (reading c.args.text.now ts) c.loop-token.invariant.rest c.in-Err.refusal refused)
