use Rattle.lua_code.proofs.OneCode.{same_code}
use Rattle.lua_code.proofs.laws.one_code.Goals as goal

pub returns : goal.returns
returns c = λ text a b ordered also loads too once as_well first second. same_code a b ordered also once as_well (c.one_numbering.ensures text a b loads too first second)
