use Rattle.std.proofs.Common.{◌≤◌, List, length, ap, ◌∙◌, sym, subst, arith}
use Rattle.lua_ast.specs.Decode.{tree, own_number}
use Rattle.lua_scope.specs.declared.task.Task.{Task}
use Rattle.lua_scope.specs.Walk.{walked}
use Rattle.lua_scope.specs.Tasks.{walks}
use Rattle.lua_scope.specs.Walking.{size, weights, TasksBelow}
use Rattle.lua_scope.proofs.NodeWalks.{walks_node}
use Rattle.lua_scope.proofs.NodeSizes.{node_weighs, node_below}
use Rattle.lua_scope.proofs.walk.visit.Goals as goal

pub returns-clause-walk : goal.returns-clause-walk
returns-clause-walk c = λ h.
    let made = c.node.ensures.tree own_number c.line-line.result c.line-line.ensures.line
    in ap (walks (tree own_number c.args.chunk.now.nodes) h) (c.into_vec.ensures ∙ c.in_ok-tasks.ensures)
    ∙ (walks_node (tree own_number c.args.chunk.now.nodes) h c.args.id c.line-line.result c.node.result.now made ∙ ap (walked h) (sym made))

pub returns-clause-less : goal.returns-clause-less
returns-clause-less c =
    let made = c.node.ensures.tree own_number c.line-line.result c.line-line.ensures.line
    in omega (
      arith,
      ap (weights (tree own_number c.args.chunk.now.nodes)) (c.into_vec.ensures ∙ c.in_ok-tasks.ensures),
      node_weighs (tree own_number c.args.chunk.now.nodes) c.args.id c.line-line.result c.node.result.now made,
      ap size made,
    )

pub returns-clause-below : goal.returns-clause-below
returns-clause-below c =
    let less : c.args.id ≤ length c.args.chunk.now.nodes = omega (arith, c.requires)
    in subst (λ (ts : List Task). TasksBelow (length c.args.chunk.now.nodes) ts) (sym (c.into_vec.ensures ∙ c.in_ok-tasks.ensures))
    (node_below c.args.id (length c.args.chunk.now.nodes) less c.args.id c.line-line.result c.node.result.now c.requires c.node.ensures.parts)
