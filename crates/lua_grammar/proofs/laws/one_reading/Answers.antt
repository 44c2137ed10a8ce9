use Rattle.lua_grammar.proofs.Runs as runs
use Rattle.lua_grammar.proofs.Decides.{reads}
use Rattle.lua_grammar.specs.Deciding.{reading}
use Rattle.lua_grammar.proofs.laws.one_reading.Goals as goal

pub returns-clause-some : goal.returns-clause-some
returns-clause-some c = λ text ts. (reading text ts, reads text ts)

pub returns-clause-only : goal.returns-clause-only
returns-clause-only c = λ text ts r s p q. runs.one_reading text ts r s p q
