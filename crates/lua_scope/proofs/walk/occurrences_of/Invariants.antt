use Rattle.std.proofs.Common.{All, ◌≡◌, [], length, reverse}
use Rattle.lua_ast.specs.Decode.{tree, own_number}
use Rattle.lua_scope.specs.Walk.{walked}
use Rattle.lua_scope.specs.Tasks.{walks}
use Rattle.lua_scope.specs.Walking.{weights, OccurrenceBelow, TasksBelow}
use Rattle.lua_scope.proofs.walk.occurrences_of.Given as goal

abbrev pub invariant-loop-task : goal.invariant-loop-task
invariant-loop-task l = record {
  walk : walks (tree own_number l.chunk.nodes) (reverse l.occurrences.items) l.pending ≡ walked [] (tree own_number l.chunk.nodes l.chunk.root);
  occurrences : All (OccurrenceBelow (length l.chunk.nodes)) l.occurrences.items;
  below : TasksBelow (length l.chunk.nodes) l.pending;
}

abbrev pub decreases-loop-task : goal.decreases-loop-task
decreases-loop-task l = weights (tree own_number l.chunk.nodes) l.pending
