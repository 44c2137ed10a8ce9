-- What is in hand, one part or node more.
use Rattle.std.specs.Prelude.{◌≡◌, ℕ, zero, suc, ◌+◌, List, [], ◌∷◌, ◌++◌, length, Option, Some, None, refl}
use Rattle.std.proofs.Common.{ap, ◌∙◌, sym, subst, arith, length-append}
use Rattle.lua_ast.specs.declared.node.LinedNode.{LinedNode}
use Rattle.lua_ast.specs.declared.node.Node.{Node}
use Rattle.lua_ast.specs.declared.node.Node.TheVariants as node
use Rattle.lua_ast.specs.declared.node.Field.{Field}
use Rattle.lua_ast.specs.declared.node.Field.TheVariants as field
use Rattle.lua_ast.specs.Postfix.{list_on, maybe_on, field_on, fields_on, cases_on, parts_on, Leaves, nothing, one_more}
use Rattle.lua_ast.specs.Weights.{list_weight, maybe_weight, field_weight, fields_weight, cases_weight, parts_weight, nodes_weight, total}
use Rattle.lua_parser_state.specs.declared.frame.Frame.{Frame}
use Rattle.lua_parser_state.specs.Order.{frames_on}

pub list_on_push : (is : List ℕ) (i : ℕ) (below : List ℕ) → list_on (is ++ i ∷ []) below ≡ i ∷ list_on is below
list_on_push [] i below = refl
list_on_push (j ∷ is) i below = list_on_push is i (j ∷ below)

pub fields_on_push : (fs : List Field) (f : Field) (below : List ℕ) → fields_on (fs ++ f ∷ []) below ≡ field_on f (fields_on fs below)
fields_on_push [] f below = refl
fields_on_push (g ∷ fs) f below = fields_on_push fs f (field_on g below)

pub cases_on_push : (ts bs : List ℕ) (t b : ℕ) (below : List ℕ) → length ts ≡ length bs → cases_on (ts ++ t ∷ []) (bs ++ b ∷ []) below ≡ b ∷ t ∷ cases_on ts bs below
cases_on_push [] [] t b below e = refl
cases_on_push [] (c ∷ bs) t b below e = absurd (omega (arith, e))
cases_on_push (s ∷ ts) [] t b below e = absurd (omega (arith, e))
cases_on_push (s ∷ ts) (c ∷ bs) t b below e = cases_on_push ts bs t b (c ∷ s ∷ below) (omega (arith, e))

-- A parser that has read nothing has nothing in hand.
pub nothing_stands : (nodes : List LinedNode) (frames : List Frame) → nodes ≡ [] → frames ≡ [] → Leaves nodes (frames_on frames)
nothing_stands nodes frames e f = subst (λ ns. Leaves ns (frames_on frames)) (sym e) (subst (λ fs. Leaves [] (frames_on fs)) (sym f) nothing)

-- What nodes leave weighs, with the parts of all nodes, as much as all nodes.
module _ (w : ℕ → ℕ) where
  list-sum : (is below : List ℕ) → list_weight w (list_on is below) ≡ list_weight w is + list_weight w below
  list-sum [] below = omega arith
  list-sum (i ∷ is) below = omega (arith, list-sum is (i ∷ below))

  maybe-sum : (o : Option ℕ) (below : List ℕ) → list_weight w (maybe_on o below) ≡ maybe_weight w o + list_weight w below
  maybe-sum None below = omega arith
  maybe-sum (Some i) below = omega arith

  field-sum : (f : Field) (below : List ℕ) → list_weight w (field_on f below) ≡ field_weight w f + list_weight w below
  field-sum (field.Item v) below = omega arith
  field-sum (field.Named name v) below = omega arith
  field-sum (field.Keyed k v) below = omega arith

  fields-sum : (fs : List Field) (below : List ℕ) → list_weight w (fields_on fs below) ≡ fields_weight w fs + list_weight w below
  fields-sum [] below = omega arith
  fields-sum (f ∷ fs) below = omega (arith, fields-sum fs (field_on f below), field-sum f below)

  cases-sum : (ts bs below : List ℕ) → list_weight w (cases_on ts bs below) ≡ cases_weight w ts bs + list_weight w below
  cases-sum [] bs below = omega arith
  cases-sum (t ∷ ts) [] below = omega arith
  cases-sum (t ∷ ts) (b ∷ bs) below = omega (arith, cases-sum ts bs (b ∷ t ∷ below))

  parts-sum : (x : Node) (below : List ℕ) → list_weight w (parts_on x below) ≡ parts_weight w x + list_weight w below
  parts-sum (node.Block stats) below = list-sum stats below
  parts-sum (node.Local names exps) below = list-sum exps below
  parts-sum (node.Assign targets exps) below = omega (arith, list-sum exps (list_on targets below), list-sum targets below)
  parts-sum (node.CallStat call) below = omega arith
  parts-sum (node.Do block) below = omega arith
  parts-sum (node.While test block) below = omega arith
  parts-sum (node.Repeat block test) below = omega arith
  parts-sum (node.If tests blocks otherwise) below = omega (arith, maybe-sum otherwise (cases_on tests blocks below), cases-sum tests blocks below)
  parts-sum (node.NumFor name first limit step block) below = omega (arith, maybe-sum step (limit ∷ first ∷ below))
  parts-sum (node.GenFor names exps block) below = omega (arith, list-sum exps below)
  parts-sum (node.LocalFunction name function) below = omega arith
  parts-sum (node.Return exps) below = list-sum exps below
  parts-sum node.Break below = omega arith
  parts-sum (node.Goto label) below = omega arith
  parts-sum (node.Label label) below = omega arith
  parts-sum (node.Const value) below = omega arith
  parts-sum node.Vararg below = omega arith
  parts-sum (node.Function params vararg block) below = omega arith
  parts-sum (node.Name text) below = omega arith
  parts-sum (node.Index object key) below = omega arith
  parts-sum (node.Call function args) below = omega (arith, list-sum args (function ∷ below))
  parts-sum (node.Method object name args) below = omega (arith, list-sum args (object ∷ below))
  parts-sum (node.Binary op left right) below = omega arith
  parts-sum (node.Logic op left right) below = omega arith
  parts-sum (node.Unary op operand) below = omega arith
  parts-sum (node.Paren inner) below = omega arith
  parts-sum (node.Table fields) below = fields-sum fields below

  nodes_push : (ns : List LinedNode) (n : LinedNode) → nodes_weight w (ns ++ n ∷ []) ≡ nodes_weight w ns + parts_weight w n.node
  nodes_push [] n = omega arith
  nodes_push (m ∷ ns) n = omega (arith, nodes_push ns n)

  same_suc : (k : ℕ) → suc k + 1 ≡ suc (suc k)
  same_suc k = omega arith

  total_next : (k : ℕ) → total w (k + 1) ≡ total w k + w k
  total_next zero = refl
  total_next (suc k) = ap (total w) (same_suc k)

  balance : {nodes : List LinedNode} {numbers : List ℕ} → Leaves nodes numbers → list_weight w numbers + nodes_weight w nodes ≡ total w (length nodes)
  balance nothing = refl
  balance {nodes} {numbers} (one_more before n below h e f) =
      let left : list_weight w numbers ≡ w (length before) + list_weight w below = ap (list_weight w) f
      in let used : nodes_weight w nodes ≡ nodes_weight w before + parts_weight w n.node = ap (nodes_weight w) e ∙ nodes_push before n
      in let more : total w (length nodes) ≡ total w (length before) + w (length before) = ap (λ (xs : List LinedNode). total w (length xs)) e ∙ ap (total w) (length-append before (n ∷ [])) ∙ total_next (length before)
      in omega (arith, left, used, more, balance h, parts-sum n.node below)

pub balance_of : (nodes : List LinedNode) (root : ℕ) → Leaves nodes (root ∷ []) → (w : ℕ → ℕ) → w root + nodes_weight w nodes ≡ total w (length nodes)
balance_of nodes root h w = omega (arith, balance w h)
