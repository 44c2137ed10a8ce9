use Rattle.std.proofs.Common.{[], length, vec_len}
use Rattle.lua_ast.specs.Decode.{tree, own_number}
use Rattle.lua_scope.specs.Walk.{walked}
use Rattle.lua_scope.specs.Resolved.{Running}
use Rattle.lua_scope.proofs.run.run.Given as goal

abbrev pub invariant-loop-occurrence : goal.invariant-loop-occurrence
invariant-loop-occurrence l =
    Running (length l.chunk.nodes) l.resolver l.occurrences.items (walked [] (tree own_number l.chunk.nodes l.chunk.root))

abbrev pub decreases-loop-occurrence : goal.decreases-loop-occurrence
decreases-loop-occurrence l = vec_len l.occurrences
