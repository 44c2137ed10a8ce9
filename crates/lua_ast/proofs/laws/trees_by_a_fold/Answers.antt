use Rattle.lua_ast.proofs.Decoding.{fold_tree, length_trees}
use Rattle.lua_ast.proofs.laws.trees_by_a_fold.Goals as goal

pub returns-clause-each : goal.returns-clause-each
returns-clause-each c = λ number nodes i ok. fold_tree number nodes ok i

pub returns-clause-count : goal.returns-clause-count
returns-clause-count c = λ number nodes. length_trees number nodes
