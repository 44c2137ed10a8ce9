-- The tree of a list of nodes.
use Rattle.std.specs.Prelude.{◌≡◌, ℕ, zero, suc, ◌+◌, ◌<◌, ◌≤◌, ◌⊎◌, List, [], ◌∷◌, ◌++◌, length, Option, Some, None, option_map, slice_get, refl}
use Rattle.std.proofs.Common.{ap, ◌∙◌, sym, subst, arith, inl, inr, length-append}
use Rattle.std.proofs.Math.ListN.{get_or-append}
use Rattle.std.proofs.Math.Seq.{get_or-append_seam}
use Rattle.std.proofs.lemmas.Bool.{cases_lt}
use Rattle.std.proofs.lemmas.List.{get_or_past}
use Rattle.std.proofs.lemmas.Option.{slice_get_past}
use Rattle.lua_ast.specs.declared.node.Node.{Node}
use Rattle.lua_ast.specs.declared.node.LinedNode.{LinedNode}
use Rattle.lua_ast.specs.declared.node.Node.TheVariants as node
use Rattle.lua_ast.specs.Tree.{Tree, Missing, line_of}
use Rattle.lua_ast.specs.Decode.{node_at, line_at, node_tree, tree_at, tree_to, tree, tree_in, trees_after, trees, PartsBelow, Ordered}
use Rattle.lua_ast.proofs.SameParts.{same_node_tree}
use Rattle.lua_ast.proofs.Growing.{slice_get_before, slice_get_last, slice_get_push}

-- What two equal options hold is equal.
inner-eq : {X : Type 0} (a b : X) → Some a ≡ Some b → a ≡ b
inner-eq a b e = cc

at_most : (k n : ℕ) → k < n + 1 → (k < n) ⊎ (k ≡ n)
at_most zero zero h = inr refl
at_most zero (suc n) h = inl (omega arith)
at_most (suc k) zero h = absurd (omega arith)
at_most (suc k) (suc n) h = elim (at_most k n (omega arith)) [ inl l ↦ inl (omega arith) | inr e ↦ inr (ap suc e) ]

module _ (number : ℕ → ℕ) where
  same_at : (nodes : List LinedNode) → Ordered nodes → (f g : ℕ → Tree) (m i : ℕ) → ((j : ℕ) → j < i → f j ≡ g j) → (o : Option LinedNode) → slice_get nodes i ≡ o → tree_at f m o ≡ tree_at g m o
  same_at nodes ok f g m i same None e = refl
  same_at nodes ok f g m i same (Some n) e = same_node_tree f g i same m n.line n.node (ok.parts i n e)

  -- Past its place, the depth makes no difference.
  same_depth : (nodes : List LinedNode) → Ordered nodes → (c d i : ℕ) → i < c → i < d → tree_to number nodes c i ≡ tree_to number nodes d i
  same_depth nodes ok zero d i p q = absurd (omega arith)
  same_depth nodes ok (suc c) zero i p q = absurd (omega arith)
  same_depth nodes ok (suc c) (suc d) i p q =
      same_at nodes ok (tree_to number nodes c) (tree_to number nodes d) (number i) i (λ j l. same_depth nodes ok c d j (omega arith) (omega arith)) (slice_get nodes i) refl

  -- A node's tree is made of its parts' trees.
  pub tree_node : (nodes : List LinedNode) → Ordered nodes → (i : ℕ) (n : LinedNode) → slice_get nodes i ≡ Some n → tree number nodes i ≡ node_tree (tree number nodes) (number i) n.line n.node
  unfolding tree
  tree_node nodes ok i n e =
      ap (tree_at (tree_to number nodes i) (number i)) e ∙ same_node_tree (tree_to number nodes i) (λ j. tree_to number nodes (suc j) j) i (λ j l. same_depth nodes ok i (suc j) j l (omega arith)) (number i) n.line n.node (ok.parts i n e)

  -- More nodes behind change no tree.
  more-to : (nodes more : List LinedNode) → Ordered nodes → (d i : ℕ) → i < length nodes → tree_to number (nodes ++ more) d i ≡ tree_to number nodes d i
  more-to nodes more ok zero i h = refl
  more-to nodes more ok (suc d) i h =
      ap (tree_at (tree_to number (nodes ++ more) d) (number i)) (slice_get_before nodes more i h) ∙ same_at nodes ok (tree_to number (nodes ++ more) d) (tree_to number nodes d) (number i) i (λ j l. more-to nodes more ok d j (omega arith)) (slice_get nodes i) refl

  pub tree_more : (nodes more : List LinedNode) → Ordered nodes → (i : ℕ) → i < length nodes → tree number (nodes ++ more) i ≡ tree number nodes i
  unfolding tree
  tree_more nodes more ok i h = more-to nodes more ok (suc i) i h

  -- No node, no tree.
  pub tree_past : (nodes : List LinedNode) (i : ℕ) → length nodes ≤ i → tree number nodes i ≡ Missing
  unfolding tree
  tree_past nodes i h = ap (tree_at (tree_to number nodes i) (number i)) (slice_get_past nodes i h)

  -- The fold gives as many trees as there are nodes.
  length_trees_after : (ts : List Tree) (ns : List LinedNode) → length (trees_after number ts ns) ≡ length ts + length ns
  length_trees_after ts [] = omega arith
  length_trees_after ts (n ∷ ns) =
      let t : Tree = node_tree (tree_in ts) (number (length ts)) n.line n.node
      in length_trees_after (ts ++ t ∷ []) ns ∙ omega (arith, length-append ts (t ∷ []))

  pub length_trees : (nodes : List LinedNode) → length (trees number nodes) ≡ length nodes
  unfolding trees
  length_trees nodes = length_trees_after [] nodes ∙ omega arith

  -- The fold goes on from the trees of the first nodes, and `rest` are the nodes behind these.
  fold-rest : (all : List LinedNode) → Ordered all → (ts : List Tree) (rest : List LinedNode)
      → ((j : ℕ) → slice_get all (length ts + j) ≡ slice_get rest j)
      → ((i : ℕ) → i < length ts → tree_in ts i ≡ tree number all i)
      → (i : ℕ) → i < length ts + length rest → tree_in (trees_after number ts rest) i ≡ tree number all i
  fold-rest all ok ts [] behind done i h = done i (omega arith)
  fold-rest all ok ts (n ∷ rest) behind done i h =
      let t : Tree = node_tree (tree_in ts) (number (length ts)) n.line n.node
      in let there : slice_get all (length ts) ≡ Some n = ap (slice_get all) (omega arith) ∙ behind 0
      in let first : t ≡ tree number all (length ts) = same_node_tree (tree_in ts) (tree number all) (length ts) done (number (length ts)) n.line n.node (ok.parts (length ts) n there) ∙ sym (tree_node all ok (length ts) n there)
      in let longer : length (ts ++ t ∷ []) ≡ length ts + 1 = length-append ts (t ∷ [])
      in fold-rest all ok (ts ++ t ∷ []) rest
      (λ j. ap (slice_get all) (omega (arith, longer)) ∙ behind (suc j))
      (λ k below. elim (at_most k (length ts) (omega (arith, longer, below))) [
        | inl l ↦ get_or-append ts (t ∷ []) Missing k l ∙ done k l
        | inr e ↦ ap (tree_in (ts ++ t ∷ [])) e ∙ get_or-append_seam ts t [] Missing ∙ first ∙ ap (tree number all) (sym e)
      ])
      i (omega (arith, longer))

  fold-all : (nodes : List LinedNode) → Ordered nodes → (i : ℕ) → i < length nodes → tree_in (trees number nodes) i ≡ tree number nodes i
  unfolding trees
  fold-all nodes ok i h = fold-rest nodes ok [] nodes (λ j. ap (slice_get nodes) (omega arith)) (λ j l. absurd (omega arith)) i (omega arith)

  fold-past : (nodes : List LinedNode) (i : ℕ) → length nodes ≤ i → tree_in (trees number nodes) i ≡ tree number nodes i
  fold-past nodes i h = get_or_past (trees number nodes) i Missing (omega (arith, length_trees nodes)) ∙ sym (tree_past nodes i h)

  -- The fold and the decode by place agree.
  pub fold_tree : (nodes : List LinedNode) → Ordered nodes → (i : ℕ) → tree_in (trees number nodes) i ≡ tree number nodes i
  fold_tree nodes ok i = elim (cases_lt i (length nodes)) [ inl h ↦ fold-all nodes ok i h | inr h ↦ fold-past nodes i h ]

-- A tree has the line of its node.
line_of-node_tree : (part : ℕ → Tree) (m l : ℕ) (x : Node) → line_of (node_tree part m l x) ≡ l
line_of-node_tree part m l (node.Block stats) = refl
line_of-node_tree part m l (node.Local names exps) = refl
line_of-node_tree part m l (node.Assign targets exps) = refl
line_of-node_tree part m l (node.CallStat call) = refl
line_of-node_tree part m l (node.Do block) = refl
line_of-node_tree part m l (node.While test block) = refl
line_of-node_tree part m l (node.Repeat block test) = refl
line_of-node_tree part m l (node.If tests blocks otherwise) = refl
line_of-node_tree part m l (node.NumFor name first limit step block) = refl
line_of-node_tree part m l (node.GenFor names exps block) = refl
line_of-node_tree part m l (node.LocalFunction name function) = refl
line_of-node_tree part m l (node.Return exps) = refl
line_of-node_tree part m l node.Break = refl
line_of-node_tree part m l (node.Goto label) = refl
line_of-node_tree part m l (node.Label label) = refl
line_of-node_tree part m l (node.Const value) = refl
line_of-node_tree part m l node.Vararg = refl
line_of-node_tree part m l (node.Function params vararg block) = refl
line_of-node_tree part m l (node.Name text) = refl
line_of-node_tree part m l (node.Index object key) = refl
line_of-node_tree part m l (node.Call function args) = refl
line_of-node_tree part m l (node.Method object name args) = refl
line_of-node_tree part m l (node.Binary op left right) = refl
line_of-node_tree part m l (node.Logic op left right) = refl
line_of-node_tree part m l (node.Unary op operand) = refl
line_of-node_tree part m l (node.Paren inner) = refl
line_of-node_tree part m l (node.Table fields) = refl

pub line_of_tree : (nodes : List LinedNode) (i : ℕ) (n : LinedNode) → slice_get nodes i ≡ Some n → (number : ℕ → ℕ) → line_of (tree number nodes i) ≡ n.line
unfolding tree
line_of_tree nodes i n e number = ap (λ o. line_of (tree_at (tree_to number nodes i) (number i) o)) e ∙ line_of-node_tree (tree_to number nodes i) (number i) n.line n.node

-- A node behind the others keeps the order, if its parts are among them.
pub ordered_push : (nodes : List LinedNode) (n : LinedNode) → Ordered nodes → PartsBelow (length nodes) n.node → Ordered (nodes ++ n ∷ [])
ordered_push nodes n ok below = record {
  parts = λ i m e. elim (slice_get_push nodes n m i e) [
    | inl h ↦ ok.parts i m h
    | inr h ↦ subst (λ k. PartsBelow k m.node) (sym h.0) (subst (λ x. PartsBelow (length nodes) x.node) h.1 below)
  ];
}

-- The new node's tree is made of the older ones.
pub tree_push : (number : ℕ → ℕ) (nodes : List LinedNode) (n : LinedNode) → Ordered nodes → PartsBelow (length nodes) n.node
    → tree number (nodes ++ n ∷ []) (length nodes) ≡ node_tree (tree number nodes) (number (length nodes)) n.line n.node
tree_push number nodes n ok below =
    tree_node number (nodes ++ n ∷ []) (ordered_push nodes n ok below) (length nodes) n (slice_get_last nodes n)
    ∙ same_node_tree (tree number (nodes ++ n ∷ [])) (tree number nodes) (length nodes) (λ j l. tree_more number nodes (n ∷ []) ok j l) (number (length nodes)) n.line n.node below

made_at : (nodes : List LinedNode) (t : Tree) (part : ℕ → Tree) (m i l : ℕ) (x : Node) (o : Option LinedNode)
    → ((n : LinedNode) → o ≡ Some n → t ≡ node_tree part m n.line n.node)
    → option_map (λ n. n.node) o ≡ Some x → option_map (λ n. n.line) o ≡ Some l → t ≡ node_tree part m l x
made_at nodes t part m i l x None made e h = absurd cc
made_at nodes t part m i l x (Some n) made e h = made n refl ∙ ap (λ l. node_tree part m l n.node) (inner-eq n.line l h) ∙ ap (λ x. node_tree part m l x) (inner-eq n.node x e)

-- A node's tree, by its node and its line.
pub tree_of_node : (nodes : List LinedNode) → Ordered nodes → (i : ℕ) (x : Node) → node_at nodes i ≡ Some x
    → (number : ℕ → ℕ) (l : ℕ) → line_at nodes i ≡ Some l → tree number nodes i ≡ node_tree (tree number nodes) (number i) l x
tree_of_node nodes ok i x e number l h = made_at nodes (tree number nodes i) (tree number nodes) (number i) i l x (slice_get nodes i) (λ n at. tree_node number nodes ok i n at) e h
