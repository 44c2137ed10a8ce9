-- Where a jump lands, by the places of statements, is where the trees have the label.
use Rattle.std.proofs.Common.{◌≡◌, ◌∙◌, ℕ, zero, suc, ◌+◌, List, [], ◌∷◌, drop, Bool, true, false, Option, Some, None, slice_get, refl, sym, subst, ap, arith}
use Rattle.lua_ast.specs.declared.node.Node.{Node}
use Rattle.lua_ast.specs.declared.node.Node.TheVariants as node
use Rattle.lua_ast.specs.declared.node.LinedNode.{LinedNode}
use Rattle.lua_ast.specs.Tree.{Tree, Trees, none, snoc}
use Rattle.lua_ast.specs.Decode.{node_tree, list_after, list_of}
use Rattle.lua_meaning.specs.Code.{from_label, is_label, locals_declared, locals_before}
use Rattle.lua_steps.specs.Parts.{part, of_part, of_node}
use Rattle.lua_steps.specs.Passed.{is_label_of, locals_left, label_by, label_from}
use Rattle.lua_steps.specs.Keeping.{AreTrees}
use Rattle.lua_steps.proofs.NodeTrees.{tree_missing}

label_in_tree : (part : ℕ → Tree) (i l : ℕ) (x : List ℕ) (n : Node) → is_label x (node_tree part i l n) ≡ is_label_of x n
label_in_tree part i l x (node.Label y) = refl
label_in_tree part i l x n = refl

locals_in_tree : (part : ℕ → Tree) (i l : ℕ) (n : Node) → locals_declared (node_tree part i l n) ≡ locals_left n
locals_in_tree part i l (node.Local names exps) = refl
locals_in_tree part i l (node.LocalFunction name function) = refl
locals_in_tree part i l n = refl

module _ (nodes : List LinedNode) (trees : AreTrees nodes) (x : List ℕ) where
  label_at : (i : ℕ) (o : Option LinedNode) → slice_get nodes i ≡ o → is_label x (part nodes i) ≡ of_node false (is_label_of x) o
  label_at i None e = ap (is_label x) (tree_missing nodes i e)
  label_at i (Some l) e = ap (is_label x) (trees i l e) ∙ label_in_tree (part nodes) i l.line x l.node

  locals_at : (i : ℕ) (o : Option LinedNode) → slice_get nodes i ≡ o → locals_declared (part nodes i) ≡ of_node 0 locals_left o
  locals_at i None e = ap locals_declared (tree_missing nodes i e)
  locals_at i (Some l) e = ap locals_declared (trees i l e) ∙ locals_in_tree (part nodes) i l.line l.node

  label_is : (i : ℕ) → is_label x (part nodes i) ≡ of_part nodes false (is_label_of x) i
  label_is i = label_at i (slice_get nodes i) refl

  locals_are : (i : ℕ) → locals_declared (part nodes i) ≡ of_part nodes 0 locals_left i
  locals_are i = locals_at i (slice_get nodes i) refl

  found_behind : (p ts : Trees) (is : List ℕ) → from_label x ts ≡ Some p → from_label x (list_after (part nodes) ts is) ≡ Some (list_after (part nodes) p is)
  found_behind p ts [] e = e
  found_behind p ts (i ∷ is) e = found_behind (snoc p (part nodes i)) (snoc ts (part nodes i)) is (rw e refl)

  locals_behind : (p ts : Trees) (is : List ℕ) → from_label x ts ≡ Some p → locals_before x (list_after (part nodes) ts is) ≡ locals_before x ts
  locals_behind p ts [] e = refl
  locals_behind p ts (i ∷ is) e = locals_behind (snoc p (part nodes i)) (snoc ts (part nodes i)) is (rw e refl) ∙ rw e refl

  never : (l : ℕ × ℕ) → None ≡ Some l → ⊥
  never l e = cc

  never_none : (l : ℕ × ℕ) → Some l ≡ None → ⊥
  never_none l e = cc

  none_behind : (ts : Trees) (is : List ℕ) (place locals : ℕ) → from_label x ts ≡ None → label_from nodes x place locals is ≡ None → from_label x (list_after (part nodes) ts is) ≡ None
  none_behind ts [] place locals e f = e
  none_behind ts (i ∷ is) place locals e f = by (λ l. none_behind (snoc ts (part nodes i)) is (place + 1) (locals + of_part nodes 0 locals_left i) (rw e (rw l refl))) (of_part nodes false (is_label_of x) i) (label_is i) f
    where
      by : (is_label x (part nodes i) ≡ false → label_from nodes x (place + 1) (locals + of_part nodes 0 locals_left i) is ≡ None → from_label x (list_after (part nodes) (snoc ts (part nodes i)) is) ≡ None) → (b : Bool) → is_label x (part nodes i) ≡ b → label_by nodes b place locals (label_from nodes x (place + 1) (locals + of_part nodes 0 locals_left i) is) ≡ None → from_label x (list_after (part nodes) (snoc ts (part nodes i)) is) ≡ None
      by rest true l f = absurd (never_none (place, locals) f)
      by rest false l f = rest l f

  pub no_label_in : (is : List ℕ) → label_from nodes x 0 0 is ≡ None → from_label x (list_of (part nodes) is) ≡ None
  unfolding list_of
  no_label_in is f = none_behind none is 0 0 refl f

  -- the statements from the label on, and how many locals those before it leave
  abbrev IsFound : (all : List ℕ) (found : ℕ × ℕ) → Trees → Type 0
  IsFound all found ts = (from_label x ts ≡ Some (list_of (part nodes) (drop found.0 all))) × (locals_before x ts ≡ found.1)

  further : (place : ℕ) (all is : List ℕ) (i : ℕ) → drop place all ≡ i ∷ is → drop (place + 1) all ≡ is
  further zero [] is i e = absurd (let empty : [] ≡ i ∷ is = e in cc)
  further zero (j ∷ js) is i e = let tails : j ∷ js ≡ i ∷ is = e in cc
  further (suc place) [] is i e = absurd (let empty : [] ≡ i ∷ is = e in cc)
  further (suc place) (j ∷ js) is i e = let more : suc place + 1 ≡ suc (place + 1) = omega arith in rw more (further place js is i e)

  found_from : (all : List ℕ) (found : ℕ × ℕ) (ts : Trees) (is : List ℕ) (place locals : ℕ) → from_label x ts ≡ None → locals_before x ts ≡ locals → drop place all ≡ is → label_from nodes x place locals is ≡ Some found → IsFound all found (list_after (part nodes) ts is)
  unfolding list_of
  found_from all found ts [] place locals e n d f = absurd (never found f)
  found_from all found ts (i ∷ is) place locals e n d f =
      by (λ l. found_from all found (snoc ts (part nodes i)) is (place + 1) (locals + of_part nodes 0 locals_left i) (rw e (rw l refl)) (rw e (rw l (ap (λ k. k + locals_declared (part nodes i)) n ∙ ap (λ k. locals + k) (locals_are i)))) (further place all is i d))
      (of_part nodes false (is_label_of x) i) (label_is i) f
    where
      here : (found : ℕ × ℕ) → (place, locals) ≡ found → is_label x (part nodes i) ≡ true → IsFound all found (list_after (part nodes) (snoc ts (part nodes i)) is)
      here found same l = subst (λ z. IsFound all z (list_after (part nodes) (snoc ts (part nodes i)) is)) same (
        found_behind (snoc none (part nodes i)) (snoc ts (part nodes i)) is (rw e (rw l refl)) ∙ ap (λ z. Some (list_after (part nodes) none z)) (sym d),
        locals_behind (snoc none (part nodes i)) (snoc ts (part nodes i)) is (rw e (rw l refl)) ∙ rw e (rw l n),
      )

      by : (is_label x (part nodes i) ≡ false → label_from nodes x (place + 1) (locals + of_part nodes 0 locals_left i) is ≡ Some found → IsFound all found (list_after (part nodes) (snoc ts (part nodes i)) is)) → (b : Bool) → is_label x (part nodes i) ≡ b → label_by nodes b place locals (label_from nodes x (place + 1) (locals + of_part nodes 0 locals_left i) is) ≡ Some found → IsFound all found (list_after (part nodes) (snoc ts (part nodes i)) is)
      by rest true l f = here found (let pairs : Some (place, locals) ≡ Some found = f in cc) l
      by rest false l f = rest l f

  pub label_found : (is : List ℕ) (found : ℕ × ℕ) → label_from nodes x 0 0 is ≡ Some found → IsFound is found (list_of (part nodes) is)
  unfolding list_of
  label_found is found f = found_from is found none is 0 0 refl refl refl f
