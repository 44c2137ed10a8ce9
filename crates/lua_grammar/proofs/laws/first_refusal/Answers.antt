use Rattle.lua_grammar.proofs.Runs.{begins_up_to}
use Rattle.lua_grammar.proofs.Runs as runs
use Rattle.std.specs.Prelude.{suc}
use Rattle.lua_grammar.proofs.laws.first_refusal.Goals as goal

pub returns-clause-before : goal.returns-clause-before
returns-clause-before c = λ text ts place n r h. begins_up_to text ts n place h r.before

pub returns-clause-behind : goal.returns-clause-behind
returns-clause-behind c = λ text ts place n r h b. r.after (begins_up_to text ts (suc place) n h b)

pub returns-clause-one_place : goal.returns-clause-one_place
returns-clause-one_place c = λ text ts place also r s. runs.one_place text ts place also r s
