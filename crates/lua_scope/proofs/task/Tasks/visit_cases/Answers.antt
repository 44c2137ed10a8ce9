use Rattle.std.proofs.Common.{◌≡◌, ◌++◌, arith}
use Rattle.lua_scope.specs.Tasks.{case_tasks}
use Rattle.lua_scope.proofs.CasesDone.{cases_done}
use Rattle.lua_scope.proofs.task.Tasks.visit_cases.Goals as goal

pub returns : goal.returns
returns c =
    let done : c.loop-i.self ≡ c.args.self.now ++ case_tasks c.as_slice-tests.result.now c.as_slice-blocks.result.now =
    cases_done c.as_slice-tests.result.now c.as_slice-blocks.result.now c.loop-i.i c.loop-i.self _ (omega arith) c.loop-i.invariant
    in cc
