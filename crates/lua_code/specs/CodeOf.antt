-- A text's code, by the scope rules: what its meaning reads of it (Lua 5.2 manual, 3.2, 3.4.10 and 3.5).
use Rattle.std.specs.Prelude.{[], length, nat_lt, if◌then◌else◌, None}
use Rattle.lua_ast.specs.Decode.{ChunkNodes, tree, own_number}
use Rattle.lua_scope.specs.OfChunk.{occurrences_of}
use Rattle.lua_scope.specs.Scope.{first_variable}
use Rattle.lua_scope.specs.Variables.{variable_of, is_captured, captured_by}
use Rattle.lua_meaning.specs.Code.{Code}

-- the code of these nodes, where the walk through the text meets all this; a number that is no node has nothing
unfoldable pub code_of : ChunkNodes → Code
code_of c = record {
  function = λ i. tree own_number c.nodes i;
  variable = λ i. if nat_lt i (length c.nodes) then variable_of (occurrences_of c) i else None;
  first_variable = λ i. if nat_lt i (length c.nodes) then first_variable (occurrences_of c) i else 0;
  is_captured = λ v. is_captured (occurrences_of c) v;
  captured = λ i. if nat_lt i (length c.nodes) then captured_by (occurrences_of c) i else [];
}
