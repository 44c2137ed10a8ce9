use Rattle.lua_grammar.proofs.Lines.{exp_line, stat_line, block_line}
use Rattle.lua_grammar.proofs.laws.lines_of_nodes.Goals as goal

pub returns-clause-of_exps : goal.returns-clause-of_exps
returns-clause-of_exps c = λ d n x y t e. exp_line e

pub returns-clause-of_stats : goal.returns-clause-of_stats
returns-clause-of_stats c = λ d x y t o s. stat_line s

pub returns-clause-of_blocks : goal.returns-clause-of_blocks
returns-clause-of_blocks c = λ d x y t b. block_line b

pub returns-clause-of_texts : goal.returns-clause-of_texts
returns-clause-of_texts c = λ text first ts t p. block_line p.1

pub returns-clause-of_nothing : goal.returns-clause-of_nothing
returns-clause-of_nothing c = λ text t p. block_line p.1
