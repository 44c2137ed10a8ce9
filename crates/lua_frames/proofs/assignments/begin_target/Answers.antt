use Rattle.std.proofs.Common.{rules, ◌≡◌, Some}
use Rattle.lua_ast.specs.declared.node.Node.TheVariants as ast
use Rattle.lua_ast.specs.Decode.{node_at}
use Rattle.lua_code.specs.CodeOf.{code_of}
use Rattle.lua_frames.proofs.assignments.begin_target.Goals as goal

pub returns-in-Some-Index : goal.returns-in-Some-Index
returns-in-Some-Index c =
    let chunk = c.args.parsed.now.chunk in
    let key = c.in-Some-Index.field-0-1 in
    let is : node_at chunk.nodes c.args.target ≡ Some (ast.Index c.in-Some-Index.object key) = search rules in
    rw is (c.begin_index_target.ensures chunk.nodes (code_of chunk) key)
