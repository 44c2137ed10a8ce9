use Rattle.std.proofs.Common.{◌≡◌, ◌+◌, ◌∷◌, List, length, ap, ◌∙◌, arith}
use Rattle.lua_ast.specs.Decode.{tree, own_number}
use Rattle.lua_scope.specs.declared.occurrence.Occurrence.TheVariants as occurrence
use Rattle.lua_scope.specs.declared.occurrence.ScopeKind.TheVariants as kind
use Rattle.lua_scope.specs.declared.task.Task.{Task}
use Rattle.lua_scope.specs.declared.task.Task.TheVariants.{Emit}
use Rattle.lua_scope.specs.Tasks.{walks}
use Rattle.lua_scope.specs.Walking.{weights}
use Rattle.lua_scope.proofs.Blocks.{body_walk, body_less}
use Rattle.lua_scope.proofs.block.body_tasks.Goals as goal

pub returns-clause-walk : goal.returns-clause-walk
returns-clause-walk c = λ h.
    ap (walks (tree own_number c.args.chunk.now.nodes) h) (c.in_ok-insert.ensures.items ∙ ap (λ (ts : List Task). Emit (occurrence.Open (kind.Block c.in_ok-all.all.labels c.labels_inside-inside.result)) ∷ ts) c.into_vec-all.ensures)
    ∙ body_walk (tree own_number c.args.chunk.now.nodes) (length c.args.chunk.now.nodes) (tree own_number c.args.chunk.now.nodes c.args.id) c.in_ok-all.all c.in_ok-all.ensures c.args.repeats c.labels_inside-inside.result c.labels_inside-inside.ensures h

pub returns-clause-less : goal.returns-clause-less
returns-clause-less c =
    let more : weights (tree own_number c.args.chunk.now.nodes) c.insert.new.self.items ≡ 1 + weights (tree own_number c.args.chunk.now.nodes) c.in_ok-all.all.tasks =
    ap (weights (tree own_number c.args.chunk.now.nodes)) (c.in_ok-insert.ensures.items ∙ ap (λ (ts : List Task). Emit (occurrence.Open (kind.Block c.in_ok-all.all.labels c.labels_inside-inside.result)) ∷ ts) c.into_vec-all.ensures)
    in omega (arith, more, body_less (tree own_number c.args.chunk.now.nodes) (length c.args.chunk.now.nodes) (tree own_number c.args.chunk.now.nodes c.args.id) c.in_ok-all.all c.in_ok-all.ensures)
