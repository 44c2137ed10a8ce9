use Rattle.std.proofs.Common.{length, reverse}
use Rattle.lua_ast.specs.Decode.{tree, own_number}
use Rattle.lua_scope.specs.declared.task.Task.TheVariants.{Visit, Body}
use Rattle.lua_scope.proofs.Stepping.{stepped, lighter, still_below}
use Rattle.lua_scope.proofs.walk.step.Goals as goal

pub returns-in_ok-push_all-in-Visit-clause-walk : goal.returns-in_ok-push_all-in-Visit-clause-walk
returns-in_ok-push_all-in-Visit-clause-walk c =
    stepped (tree own_number c.args.chunk.now.nodes) (reverse c.args.occurrences.now.items) c.args.task (Visit c.in-Visit.node) c.in_ok-visit-in-Visit.field-0.items c.args.pending.now c.push_all.new.self
    c.in-Visit.is c.in_ok-push_all-in-Visit.ensures (c.in_ok-visit-in-Visit.ensures.walk (reverse c.args.occurrences.now.items))

pub returns-in_ok-push_all-in-Visit-clause-less : goal.returns-in_ok-push_all-in-Visit-clause-less
returns-in_ok-push_all-in-Visit-clause-less c =
    lighter (tree own_number c.args.chunk.now.nodes) c.args.task (Visit c.in-Visit.node) c.in_ok-visit-in-Visit.field-0.items c.args.pending.now c.push_all.new.self
    c.in-Visit.is c.in_ok-push_all-in-Visit.ensures c.in_ok-visit-in-Visit.ensures.less

pub returns-in_ok-push_all-in-Visit-clause-below : goal.returns-in_ok-push_all-in-Visit-clause-below
returns-in_ok-push_all-in-Visit-clause-below c =
    still_below (length c.args.chunk.now.nodes) c.in_ok-visit-in-Visit.field-0.items c.args.pending.now c.push_all.new.self c.in_ok-push_all-in-Visit.ensures c.in_ok-visit-in-Visit.ensures.below

pub returns-in_ok-push_all-in-Body-clause-walk : goal.returns-in_ok-push_all-in-Body-clause-walk
returns-in_ok-push_all-in-Body-clause-walk c =
    stepped (tree own_number c.args.chunk.now.nodes) (reverse c.args.occurrences.now.items) c.args.task (Body c.in-Body.node c.in-Body.repeats) c.in_ok-body_tasks-in-Body.field-0.items c.args.pending.now c.push_all-in-Body.new.self
    c.in-Body.is c.in_ok-push_all-in-Body.ensures (c.in_ok-body_tasks-in-Body.ensures.walk (reverse c.args.occurrences.now.items))

pub returns-in_ok-push_all-in-Body-clause-less : goal.returns-in_ok-push_all-in-Body-clause-less
returns-in_ok-push_all-in-Body-clause-less c =
    lighter (tree own_number c.args.chunk.now.nodes) c.args.task (Body c.in-Body.node c.in-Body.repeats) c.in_ok-body_tasks-in-Body.field-0.items c.args.pending.now c.push_all-in-Body.new.self
    c.in-Body.is c.in_ok-push_all-in-Body.ensures c.in_ok-body_tasks-in-Body.ensures.less

pub returns-in_ok-push_all-in-Body-clause-below : goal.returns-in_ok-push_all-in-Body-clause-below
returns-in_ok-push_all-in-Body-clause-below c =
    still_below (length c.args.chunk.now.nodes) c.in_ok-body_tasks-in-Body.field-0.items c.args.pending.now c.push_all-in-Body.new.self c.in_ok-push_all-in-Body.ensures c.in_ok-body_tasks-in-Body.ensures.below
