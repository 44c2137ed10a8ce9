use Rattle.std.proofs.Common.{arith}
use Rattle.lua_lexer.proofs.LexSteps.{so_far_gap, so_far_token, so_far_done, so_far_refused}
use Rattle.lua_lexer.proofs.reading.lex.Goals as goal
use Rattle.lua_lexer.proofs.reading.lex.Goals.{in-Gap, in-Token+in_ok-push-in-Token}

pub pieces-preserved : goal.pieces-preserved
pieces-preserved c = elim c.match-piece_at.branch [
  | in-Gap w ↦ rw (w.tokens-is, w.len-is) (so_far_gap _ _ _ _ _ c.pieces.invariant c.behind-rest.ensures.exact _ _ w.in-Gap.ensures.exact (rw w.len-is at c.newlines_in-line.ensures.exact) (omega (arith, w.in-Gap.ensures.within.1, c.behind-rest.ensures.len)))
  | in-Token+in_ok-push-in-Token w ↦ rw (w.tokens-is, w.len-is, w.in_ok-push-in-Token.ensures.items) (so_far_token _ _ _ _ _ c.pieces.invariant c.behind-rest.ensures.exact _ _ _ w.in-Token.ensures.exact (rw w.len-is at c.newlines_in-line.ensures.exact) (omega (arith, w.in-Token.ensures.within.1, c.behind-rest.ensures.len)))
]

pub returns-in-Nothing-clause-tokens : goal.returns-in-Nothing-clause-tokens
returns-in-Nothing-clause-tokens c = so_far_done _ _ _ _ _ c.pieces.invariant c.behind-rest.ensures.exact c.in-Nothing.ensures.exact

pub returns-in-Refused-clause-refused : goal.returns-in-Refused-clause-refused
returns-in-Refused-clause-refused c = so_far_refused _ _ _ _ _ c.pieces.invariant c.behind-rest.ensures.exact _ _ _ c.in-Refused.ensures.exact c.refusal.ensures
