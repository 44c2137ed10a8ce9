use Rattle.pool_object.proofs.WellFormed.{does-well, does-printable}
use Rattle.pool_object.proofs.laws.calls_keep_trees_well_formed.Goals as goal

pub returns-clause-tree : goal.returns-clause-tree
returns-clause-tree c = λ now t d group w valid. does-well now t d group w valid

pub returns-clause-reply : goal.returns-clause-reply
returns-clause-reply c = λ now t d group w. does-printable now t d group w
