use Rattle.lua_grammar.specs.Parses.{signs}
use Rattle.lua_grammar.proofs.Runs.{begins_before, parses_begins, completed}
use Rattle.lua_grammar.proofs.laws.beginnings.Goals as goal

pub returns-clause-of_texts : goal.returns-clause-of_texts
returns-clause-of_texts c = λ text ts t n p. begins_before text ts n (parses_begins text ts t p)

pub returns-clause-of_beginnings : goal.returns-clause-of_beginnings
returns-clause-of_beginnings c = λ text ts n b. begins_before text ts n b

pub returns-clause-completed : goal.returns-clause-completed
returns-clause-completed c = λ text ts b. completed (signs text ts) b
