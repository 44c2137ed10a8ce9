use Rattle.std.specs.Prelude.{◌++◌, ◌∷◌, []}
use Rattle.lua_grammar.specs.Parses.{signs, end_sign}
use Rattle.lua_grammar.proofs.Runs as runs
use Rattle.lua_grammar.proofs.laws.one_tree.Goals as goal

pub returns : goal.returns
returns c = λ text ts s t p q. runs.one_tree (signs text ts ++ end_sign ∷ []) s t p q
