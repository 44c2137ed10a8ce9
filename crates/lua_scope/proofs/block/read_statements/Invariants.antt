use Rattle.std.proofs.Common.{length, take}
use Rattle.lua_ast.specs.Decode.{tree, own_number, list_of}
use Rattle.lua_scope.specs.Scanned.{Scanned}
use Rattle.lua_scope.proofs.block.read_statements.Given as goal

abbrev pub invariant-loop-stat : goal.invariant-loop-stat
invariant-loop-stat l = Scanned (tree own_number l.chunk.nodes) (length l.chunk.nodes) (list_of (tree own_number l.chunk.nodes) (take l.stat-index l.stat-items)) l.all
