-- The code of a small text, worked out as a reader would.
use Rattle.std.specs.Prelude.{◌≡◌, ℕ, true, false, pos, [], ◌∷◌, codes, Some, refl}
use Rattle.lua_ast.specs.declared.node.Literal.TheVariants as literal
use Rattle.lua_ast.specs.declared.node.Node.{Node}
use Rattle.lua_ast.specs.declared.node.Node.TheVariants as node
use Rattle.lua_ast.specs.declared.node.LinedNode.{LinedNode}
use Rattle.lua_ast.specs.Tree.{Block, Return, Function, Name, none, snoc}
use Rattle.lua_ast.specs.Decode.{ChunkNodes, tree, list_of}
use Rattle.lua_scope.specs.Labels.{labels_of, inside_of}
use Rattle.lua_scope.specs.Walk.{walked}
use Rattle.lua_scope.specs.Scope.{declared, first_variable, scope}
use Rattle.lua_scope.specs.Variables.{variable_of, is_captured, captured_by}
use Rattle.lua_code.specs.CodeOf.{code_of}

abbrev on : ℕ → Node → LinedNode
on l n = record { line = l; node = n }

-- local a = 1 local function f(b) return a, b end return f
abbrev a_closure : ChunkNodes
a_closure = record {
  nodes = on 1 (node.Const (literal.Int (pos 1))) ∷ on 1 (node.Local (codes "a" ∷ []) (0 ∷ []))
      ∷ on 1 (node.Name (codes "a")) ∷ on 1 (node.Name (codes "b")) ∷ on 1 (node.Return (2 ∷ 3 ∷ [])) ∷ on 1 (node.Block (4 ∷ []))
      ∷ on 1 (node.Function (codes "b" ∷ []) false 5) ∷ on 1 (node.LocalFunction (codes "f") 6)
      ∷ on 1 (node.Name (codes "f")) ∷ on 1 (node.Return (8 ∷ [])) ∷ on 1 (node.Block (1 ∷ 7 ∷ 9 ∷ [])) ∷ [];
  root = 10;
}

its_names : ((code_of a_closure).variable 2 ≡ Some 0) × ((code_of a_closure).variable 3 ≡ Some 2) × ((code_of a_closure).variable 8 ≡ Some 1)
unfolding code_of walked labels_of inside_of declared first_variable scope variable_of tree list_of
its_names = (refl, refl, refl)

its_captures : ((code_of a_closure).captured 6 ≡ 0 ∷ []) × ((code_of a_closure).is_captured 0 ≡ true) × ((code_of a_closure).is_captured 1 ≡ false)
unfolding code_of walked labels_of inside_of declared first_variable scope variable_of is_captured captured_by tree list_of
its_captures = (refl, refl, refl)

its_numbers : ((code_of a_closure).first_variable 1 ≡ 0) × ((code_of a_closure).first_variable 7 ≡ 1) × ((code_of a_closure).first_variable 6 ≡ 2)
unfolding code_of walked labels_of inside_of declared first_variable tree list_of
its_numbers = (refl, refl, refl)

its_function : (code_of a_closure).function 6 ≡ Function 6 1 (codes "b" ∷ []) false (Block 5 1 (snoc none (Return 4 1 (snoc (snoc none (Name 2 1 (codes "a"))) (Name 3 1 (codes "b"))))))
unfolding code_of tree list_of
its_function = refl
