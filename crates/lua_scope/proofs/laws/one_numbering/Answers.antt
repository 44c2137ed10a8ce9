use Rattle.std.proofs.Common.{ap, sym, ◌∙◌}
use Rattle.lua_ast.specs.Numbered.{numbered}
use Rattle.lua_parser.specs.Parsing.{tree_of}
use Rattle.lua_scope.proofs.laws.one_numbering.Goals as goal

pub returns : goal.returns
returns c = λ text a b loads also first second. first.0 ∙ ap (numbered 0) (c.one_answer.ensures.trees text (tree_of a) (tree_of b) loads also) ∙ sym second.0
