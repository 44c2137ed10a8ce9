-- Trees of a few chunks, as a reader would work them out.
use Rattle.std.specs.Prelude.{◌≡◌, ℕ, pos, List, [], ◌∷◌, codes, refl}
use Rattle.lua_ast.specs.declared.node.LinedNode.{LinedNode}
use Rattle.lua_ast.specs.declared.node.Node.{Node}
use Rattle.lua_ast.specs.declared.node.Node.TheVariants as node
use Rattle.lua_ast.specs.declared.node.Field.TheVariants as field
use Rattle.lua_ast.specs.declared.node.Literal.TheVariants as literal
use Rattle.lua_ast.specs.declared.node.BinOp.TheVariants as bin
use Rattle.lua_ast.specs.Tree.{Tree, Block, Local, CallStat, Repeat, If, NumFor, Return, Const, Name, Index, Call, Binary, Paren, Table, Missing, none, snoc, no_case, case, present, no_field, item, named, keyed, line_of}
use Rattle.lua_ast.specs.Decode.{tree, trees, list_of, cases_of, fields_of, own_number, no_number}
use Rattle.lua_ast.specs.Numbers.{without_numbers}
use Rattle.lua_ast.specs.Numbered.{numbered}

abbrev on : ℕ → Node → LinedNode
on l n = record { node = n; line = l }

-- `local x = 1`, and on the next line `return x + 1`
abbrev sum : List LinedNode
sum =
    on 1 (node.Const (literal.Int (pos 1)))
    ∷ on 1 (node.Local (codes "x" ∷ []) (0 ∷ []))
    ∷ on 2 (node.Name (codes "x"))
    ∷ on 2 (node.Const (literal.Int (pos 1)))
    ∷ on 2 (node.Binary bin.Add 2 3)
    ∷ on 2 (node.Return (4 ∷ []))
    ∷ on 1 (node.Block (1 ∷ 5 ∷ []))
    ∷ []

abbrev sum_tree : Tree
sum_tree = Block 6 1 (snoc
    (snoc none (Local 1 1 (codes "x" ∷ []) (snoc none (Const 0 1 (literal.Int (pos 1))))))
    (Return 5 2 (snoc none (Binary 4 2 bin.Add (Name 2 2 (codes "x")) (Const 3 2 (literal.Int (pos 1)))))))

sum_numbered : tree own_number sum 6 ≡ sum_tree
unfolding tree list_of
sum_numbered = refl

sum_for_a_grammar : tree no_number sum 4 ≡ Binary 0 2 bin.Add (Name 0 2 (codes "x")) (Const 0 2 (literal.Int (pos 1)))
unfolding tree
sum_for_a_grammar = refl

sum_without : without_numbers sum_tree ≡ tree no_number sum 6
unfolding tree list_of
sum_without = refl

sum_folded : trees own_number (on 1 (node.Name (codes "f")) ∷ on 1 (node.Paren 0) ∷ []) ≡ Name 0 1 (codes "f") ∷ Paren 1 1 (Name 0 1 (codes "f")) ∷ []
unfolding trees
sum_folded = refl

past_the_end : tree own_number sum 7 ≡ Missing
unfolding tree
past_the_end = refl

-- A part that does not come before its whole is missing in it.
part_after_whole : tree own_number (on 1 (node.Paren 1) ∷ on 1 node.Vararg ∷ []) 0 ≡ Paren 0 1 Missing
unfolding tree
part_after_whole = refl

-- `if a then b end`: two tests with one block make one case
cases : cases_of (λ i. Name i 1 []) (0 ∷ 2 ∷ []) (1 ∷ []) ≡ case no_case (Name 0 1 []) (Name 1 1 [])
unfolding cases_of
cases = refl

-- `{ a, n = b, [c] = d }`
fields : fields_of (λ i. Name i 1 []) (field.Item 0 ∷ field.Named (codes "n") 1 ∷ field.Keyed 2 3 ∷ []) ≡ keyed (named (item no_field (Name 0 1 [])) (codes "n") (Name 1 1 [])) (Name 2 1 []) (Name 3 1 [])
unfolding fields_of
fields = refl

line : line_of sum_tree ≡ 1
line = refl

-- `local x = a.b + 1`, and on the next line `repeat f(x) until x`: each node comes after its parts, from left to right.
abbrev loop_plain : Tree
loop_plain = Block 0 1 (snoc
    (snoc none (Local 0 1 (codes "x" ∷ []) (snoc none (Binary 0 1 bin.Add (Index 0 1 (Name 0 1 (codes "a")) (Const 0 1 (literal.Text (codes "b")))) (Const 0 1 (literal.Int (pos 1)))))))
    (Repeat 0 2 (Block 0 2 (snoc none (CallStat 0 2 (Call 0 2 (Name 0 2 (codes "f")) (snoc none (Name 0 2 (codes "x"))))))) (Name 0 2 (codes "x"))))

loop_numbered : numbered 0 loop_plain ≡ Block 13 1 (snoc
    (snoc none (Local 5 1 (codes "x" ∷ []) (snoc none (Binary 4 1 bin.Add (Index 2 1 (Name 0 1 (codes "a")) (Const 1 1 (literal.Text (codes "b")))) (Const 3 1 (literal.Int (pos 1)))))))
    (Repeat 12 2 (Block 10 2 (snoc none (CallStat 9 2 (Call 8 2 (Name 6 2 (codes "f")) (snoc none (Name 7 2 (codes "x"))))))) (Name 11 2 (codes "x"))))
loop_numbered = refl

-- `if a then elseif b then else end` and `for i = 1, 2, c do end`
cases_numbered_so : numbered 0 (If 0 1 (case (case no_case (Name 0 1 (codes "a")) (Block 0 1 none)) (Name 0 1 (codes "b")) (Block 0 1 none)) (present (Block 0 1 none)))
    ≡ If 5 1 (case (case no_case (Name 0 1 (codes "a")) (Block 1 1 none)) (Name 2 1 (codes "b")) (Block 3 1 none)) (present (Block 4 1 none))
cases_numbered_so = refl

for_numbered_so : numbered 0 (NumFor 0 1 (codes "i") (Name 0 1 (codes "a")) (Name 0 1 (codes "b")) (present (Name 0 1 (codes "c"))) (Block 0 1 none))
    ≡ NumFor 4 1 (codes "i") (Name 0 1 (codes "a")) (Name 1 1 (codes "b")) (present (Name 2 1 (codes "c"))) (Block 3 1 none)
for_numbered_so = refl

-- `{a, n = b, [c] = d}`
fields_numbered_so : numbered 0 (Table 0 1 (keyed (named (item no_field (Name 0 1 (codes "a"))) (codes "n") (Name 0 1 (codes "b"))) (Name 0 1 (codes "c")) (Name 0 1 (codes "d"))))
    ≡ Table 4 1 (keyed (named (item no_field (Name 0 1 (codes "a"))) (codes "n") (Name 1 1 (codes "b"))) (Name 2 1 (codes "c")) (Name 3 1 (codes "d")))
fields_numbered_so = refl

-- Nodes in that order have the numbers that they are numbered with.
sum_in_order : numbered 0 (tree no_number sum 6) ≡ sum_tree
unfolding tree list_of
sum_in_order = refl
