use Rattle.lua_code.proofs.Labels.{same_from, same_before}
use Rattle.lua_code.proofs.laws.one_label.Goals as goal

pub returns-clause-from : goal.returns-clause-from
returns-clause-from c = λ x ts. same_from x ts

pub returns-clause-before : goal.returns-clause-before
returns-clause-before c = λ x ts. same_before x ts
