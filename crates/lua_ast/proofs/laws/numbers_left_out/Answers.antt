use Rattle.lua_ast.proofs.LabelsOnly.{tree_without}
use Rattle.lua_ast.proofs.laws.numbers_left_out.Goals as goal

pub returns : goal.returns
returns c = λ number nodes i. tree_without number nodes i
