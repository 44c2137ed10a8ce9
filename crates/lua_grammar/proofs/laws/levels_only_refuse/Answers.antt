use Rattle.std.specs.Prelude.{◌++◌, ◌∷◌, []}
use Rattle.lua_grammar.specs.Parses.{signs, end_sign}
use Rattle.lua_grammar.proofs.Loose.{whole_loose, starts_loose}
use Rattle.lua_grammar.proofs.laws.levels_only_refuse.Goals as goal

pub returns-clause-texts : goal.returns-clause-texts
returns-clause-texts c = λ text ts t p. whole_loose (signs text ts ++ end_sign ∷ []) t p

pub returns-clause-beginnings : goal.returns-clause-beginnings
returns-clause-beginnings c = λ text ts b. starts_loose (signs text ts) b
