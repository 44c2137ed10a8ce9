-- What the walk through a chunk's text meets. Its nodes are named by their places.
use Rattle.std.specs.Prelude.{List, []}
use Rattle.lua_ast.specs.Decode.{ChunkNodes, tree, own_number}
use Rattle.lua_scope.specs.declared.occurrence.Occurrence.{Occurrence}
use Rattle.lua_scope.specs.Walk.{walked}

abbrev pub occurrences_of : ChunkNodes → List Occurrence
occurrences_of c = walked [] (tree own_number c.nodes c.root)
