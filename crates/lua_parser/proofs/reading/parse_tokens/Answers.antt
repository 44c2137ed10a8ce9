use Rattle.std.specs.Prelude.{refl}
use Rattle.std.proofs.Common.{subst, sym}
use Rattle.lua_grammar.specs.Parses.{Reading}
use Rattle.lua_parser.specs.Parsing.{HasReading}
use Rattle.lua_parser.proofs.reading.parse_tokens.Goals as goal

pub returns-in-Ok-clause-answers : goal.returns-in-Ok-clause-answers
returns-in-Ok-clause-answers c = subst (λ (r : Reading). HasReading c.args.text.now c.args.tokens.now r c.finish.result) (sym c.in-Ok.ensures.state) (c.finish.ensures.answers c.args.text.now c.args.tokens.now refl)
