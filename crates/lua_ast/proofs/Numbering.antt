-- Nodes in postfix order decode to a tree whose numbers are in the order of the text.
use Rattle.std.specs.Prelude.{◌≡◌, ℕ, ◌+◌, ◌<◌, List, [], ◌∷◌, ◌++◌, length, Option, Some, None, slice_get, refl}
use Rattle.std.proofs.Common.{ap, ◌∙◌, sym, subst, arith, length-append}
use Rattle.lua_ast.specs.declared.node.Node.{Node}
use Rattle.lua_ast.specs.declared.node.Node.TheVariants as node
use Rattle.lua_ast.specs.declared.node.Field.{Field}
use Rattle.lua_ast.specs.declared.node.Field.TheVariants as field
use Rattle.lua_ast.specs.declared.node.LinedNode.{LinedNode}
use Rattle.lua_ast.specs.Tree as tree
use Rattle.lua_ast.specs.Tree.{Tree, Trees, none, snoc, Cases, no_case, case, Maybe, present, Fields, no_field, item, named, keyed}
use Rattle.lua_ast.specs.Decode as decode
use Rattle.lua_ast.specs.Decode.{list_after, list_of, cases_after, cases_of, with_field, fields_after, fields_of, maybe_of, node_tree, ChunkNodes, own_number, no_number, Ordered}
use Rattle.lua_ast.specs.Postfix.{list_on, maybe_on, field_on, fields_on, cases_on, parts_on, Leaves, nothing, one_more}
use Rattle.lua_ast.specs.Numbered.{nodes_in, list_nodes, cases_nodes, maybe_nodes, fields_nodes, numbered, list_numbered, cases_numbered, maybe_numbered, fields_numbered, IsNumbered}
use Rattle.lua_ast.proofs.Decoding.{tree_node}
use Rattle.lua_ast.proofs.Growing.{slice_get_before, slice_get_last}

module _ (own plain : ℕ → Tree) where
  -- Number i's tree has the numbers from `from` on, up to i.
  record Spans (from i : ℕ) : Type 0 where
    tree : own i ≡ numbered from (plain i)
    last : from + nodes_in (plain i) ≡ i + 1

  -- The trees of these numbers, the last first, have the numbers below e in a row.
  Row : List ℕ → ℕ → Type 0
  Row [] e = e ≡ 0
  Row (i ∷ below) e = (from : ℕ) × Spans from i × (e ≡ i + 1) × Row below from

  -- X has so many numbers, from a place on up to e, and is what `number` makes of it there. Below it stand these.
  record Piece {X : Type 0} (x : X) (number : ℕ → X) (size : ℕ) (below : List ℕ) (e : ℕ) : Type 0 where
    from : ℕ
    same : x ≡ number from
    ends : from + size ≡ e
    rest : Row below from

  one : (i : ℕ) (below : List ℕ) (e : ℕ) → Row (i ∷ below) e → Piece (own i) (λ m. numbered m (plain i)) (nodes_in (plain i)) below e
  unfolding Row
  one i below e h = record { from = h.0; same = h.1.tree; ends = h.1.last ∙ sym h.2; rest = h.3 }

  record Longer {X : Type 0} (after : (ℕ → Tree) → X → X) (number : ℕ → X → X) (size : X → ℕ) (below : List ℕ) (e : ℕ) : Type 0 where
    from : ℕ
    rest : Row below from
    goes : (before : X) (a : ℕ) → a + size before ≡ from → (after own (number a before) ≡ number a (after plain before)) × (a + size (after plain before) ≡ e)

  list_longer : (is below : List ℕ) (e : ℕ) → Row (list_on is below) e → Longer (λ part ts. list_after part ts is) list_numbered list_nodes below e
  list_longer [] below e h = record { from = e; rest = h; goes = λ before a at. (refl, at) }
  list_longer (i ∷ is) below e h =
      let s = list_longer is (i ∷ below) e h
      in let p = one i below s.from s.rest
      in record {
        from = p.from;
        rest = p.rest;
        goes = λ before a at.
            let t = plain i
            in let next = s.goes (snoc before t) a (omega (arith, at, p.ends))
            in (ap (λ u. list_after own (snoc (list_numbered a before) u) is) (p.same ∙ ap (λ m. numbered m t) (sym at)) ∙ next.0, next.1);
      }

  list_piece : (is below : List ℕ) (e : ℕ) → Row (list_on is below) e → Piece (list_of own is) (λ m. list_numbered m (list_of plain is)) (list_nodes (list_of plain is)) below e
  unfolding list_of
  list_piece is below e h =
      let s = list_longer is below e h
      in let g = s.goes none s.from (omega arith)
      in record { from = s.from; same = g.0; ends = g.1; rest = s.rest }

  cases_longer : (ts bs below : List ℕ) (e : ℕ) → Row (cases_on ts bs below) e → Longer (λ part cs. cases_after part cs ts bs) cases_numbered cases_nodes below e
  cases_longer [] bs below e h = record { from = e; rest = h; goes = λ before a at. (refl, at) }
  cases_longer (t ∷ ts) [] below e h = record { from = e; rest = h; goes = λ before a at. (refl, at) }
  cases_longer (t ∷ ts) (b ∷ bs) below e h =
      let s = cases_longer ts bs (b ∷ t ∷ below) e h
      in let q = one b (t ∷ below) s.from s.rest
      in let p = one t below q.from q.rest
      in record {
        from = p.from;
        rest = p.rest;
        goes = λ before a at.
            let next = s.goes (case before (plain t) (plain b)) a (omega (arith, at, p.ends, q.ends))
            in let first = p.same ∙ ap (λ m. numbered m (plain t)) (sym at)
            in let second = q.same ∙ ap (λ m. numbered m (plain b)) (sym p.ends ∙ ap (λ m. m + nodes_in (plain t)) (sym at))
            in (ap (λ u. cases_after own (case (cases_numbered a before) u (own b)) ts bs) first ∙ ap (λ u. cases_after own (case (cases_numbered a before) (numbered (a + cases_nodes before) (plain t)) u) ts bs) second ∙ next.0, next.1);
      }

  cases_piece : (ts bs below : List ℕ) (e : ℕ) → Row (cases_on ts bs below) e → Piece (cases_of own ts bs) (λ m. cases_numbered m (cases_of plain ts bs)) (cases_nodes (cases_of plain ts bs)) below e
  unfolding cases_of
  cases_piece ts bs below e h =
      let s = cases_longer ts bs below e h
      in let g = s.goes no_case s.from (omega arith)
      in record { from = s.from; same = g.0; ends = g.1; rest = s.rest }

  field_longer : (f : Field) (below : List ℕ) (e : ℕ) → Row (field_on f below) e → Longer (λ part fs. with_field part fs f) fields_numbered fields_nodes below e
  field_longer (field.Item v) below e h =
      let p = one v below e h
      in record { from = p.from; rest = p.rest; goes = λ before a at. (ap (item (fields_numbered a before)) (p.same ∙ ap (λ m. numbered m (plain v)) (sym at)), omega (arith, at, p.ends)) }
  field_longer (field.Named name v) below e h =
      let p = one v below e h
      in record { from = p.from; rest = p.rest; goes = λ before a at. (ap (named (fields_numbered a before) name) (p.same ∙ ap (λ m. numbered m (plain v)) (sym at)), omega (arith, at, p.ends)) }
  field_longer (field.Keyed k v) below e h =
      let q = one v (k ∷ below) e h
      in let p = one k below q.from q.rest
      in record {
        from = p.from;
        rest = p.rest;
        goes = λ before a at.
            let first = p.same ∙ ap (λ m. numbered m (plain k)) (sym at)
            in let second = q.same ∙ ap (λ m. numbered m (plain v)) (sym p.ends ∙ ap (λ m. m + nodes_in (plain k)) (sym at))
            in (ap (λ u. keyed (fields_numbered a before) u (own v)) first ∙ ap (keyed (fields_numbered a before) (numbered (a + fields_nodes before) (plain k))) second, omega (arith, at, p.ends, q.ends));
      }

  fields_longer : (fs : List Field) (below : List ℕ) (e : ℕ) → Row (fields_on fs below) e → Longer (λ part before. fields_after part before fs) fields_numbered fields_nodes below e
  fields_longer [] below e h = record { from = e; rest = h; goes = λ before a at. (refl, at) }
  fields_longer (f ∷ fs) below e h =
      let s = fields_longer fs (field_on f below) e h
      in let p = field_longer f below s.from s.rest
      in record {
        from = p.from;
        rest = p.rest;
        goes = λ before a at.
            let here = p.goes before a at
            in let next = s.goes (with_field plain before f) a here.1
            in (ap (λ u. fields_after own u fs) here.0 ∙ next.0, next.1);
      }

  fields_piece : (fs : List Field) (below : List ℕ) (e : ℕ) → Row (fields_on fs below) e → Piece (fields_of own fs) (λ m. fields_numbered m (fields_of plain fs)) (fields_nodes (fields_of plain fs)) below e
  unfolding fields_of
  fields_piece fs below e h =
      let s = fields_longer fs below e h
      in let g = s.goes no_field s.from (omega arith)
      in record { from = s.from; same = g.0; ends = g.1; rest = s.rest }

  maybe_piece : (o : Option ℕ) (below : List ℕ) (e : ℕ) → Row (maybe_on o below) e → Piece (maybe_of own o) (λ m. maybe_numbered m (maybe_of plain o)) (maybe_nodes (maybe_of plain o)) below e
  maybe_piece None below e h = record { from = e; same = refl; ends = omega arith; rest = h }
  maybe_piece (Some i) below e h = let p = one i below e h in record { from = p.from; same = ap present p.same; ends = p.ends; rest = p.rest }

  -- A node of so many parts, of which the last ends before it.

  made0 : (k : ℕ → Tree) (below : List ℕ) (n : ℕ) → Row below n → Piece (k n) k 1 below (n + 1)
  made0 k below n h = record { from = n; same = refl; ends = refl; rest = h }

  made1 : {A : Type 0} (k : ℕ → A → Tree) {a : A} {f : ℕ → A} {s n : ℕ} {below : List ℕ} → Piece a f s below n → Piece (k n a) (λ m. k (m + s) (f m)) (s + 1) below (n + 1)
  made1 k {a} {f} {s} {n} p = record {
    from = p.from;
    same = ap (λ j. k j a) (sym p.ends) ∙ ap (k (p.from + s)) p.same;
    ends = omega (arith, p.ends);
    rest = p.rest;
  }

  made2 : {A B : Type 0} (k : ℕ → A → B → Tree) {a : A} {b : B} {f : ℕ → A} {g : ℕ → B} {s t n : ℕ} {below mid : List ℕ} → (q : Piece b g t mid n) → Piece a f s below q.from
      → Piece (k n a b) (λ m. k (m + s + t) (f m) (g (m + s))) (s + t + 1) below (n + 1)
  made2 k {a} {b} {f} {g} {s} {t} {n} q p =
      let here : n ≡ p.from + s + t = omega (arith, p.ends, q.ends)
      in record {
        from = p.from;
        same = ap (λ j. k j a b) here ∙ ap (λ x. k (p.from + s + t) x b) p.same ∙ ap (k (p.from + s + t) (f p.from)) (q.same ∙ ap g (sym p.ends));
        ends = omega (arith, p.ends, q.ends);
        rest = p.rest;
      }

  node_piece : (n l : ℕ) (x : Node) (below : List ℕ) → Row (parts_on x below) n → Piece (node_tree own n l x) (λ m. numbered m (node_tree plain 0 l x)) (nodes_in (node_tree plain 0 l x)) below (n + 1)
  node_piece n l (node.Block stats) below h = made1 (λ j x. tree.Block j l x) (list_piece stats below n h)
  node_piece n l (node.Local names exps) below h = made1 (λ j x. tree.Local j l names x) (list_piece exps below n h)
  node_piece n l (node.Assign targets exps) below h = let q = list_piece exps (list_on targets below) n h in made2 (λ j x y. tree.Assign j l x y) q (list_piece targets below q.from q.rest)
  node_piece n l (node.CallStat call) below h = made1 (λ j x. tree.CallStat j l x) (one call below n h)
  node_piece n l (node.Do block) below h = made1 (λ j x. tree.Do j l x) (one block below n h)
  node_piece n l (node.While test block) below h = let q = one block (test ∷ below) n h in made2 (λ j x y. tree.While j l x y) q (one test below q.from q.rest)
  node_piece n l (node.Repeat block test) below h = let q = one test (block ∷ below) n h in made2 (λ j x y. tree.Repeat j l x y) q (one block below q.from q.rest)
  node_piece n l (node.If tests blocks otherwise) below h = let q = maybe_piece otherwise (cases_on tests blocks below) n h in made2 (λ j x y. tree.If j l x y) q (cases_piece tests blocks below q.from q.rest)
  node_piece n l (node.NumFor name first limit step block) below h =
      let d = one block (maybe_on step (limit ∷ first ∷ below)) n h
      in let c = maybe_piece step (limit ∷ first ∷ below) d.from d.rest
      in let b = one limit (first ∷ below) c.from c.rest
      in let a = one first below b.from b.rest
      in let s = nodes_in (plain first) in let t = nodes_in (plain limit) in let u = maybe_nodes (maybe_of plain step) in let v = nodes_in (plain block)
      in let here : n ≡ a.from + s + t + u + v = omega (arith, a.ends, b.ends, c.ends, d.ends)
      in record {
        from = a.from;
        same =
            ap (λ j. tree.NumFor j l name (own first) (own limit) (maybe_of own step) (own block)) here
            ∙ ap (λ x. tree.NumFor (a.from + s + t + u + v) l name x (own limit) (maybe_of own step) (own block)) a.same
            ∙ ap (λ x. tree.NumFor (a.from + s + t + u + v) l name (numbered a.from (plain first)) x (maybe_of own step) (own block)) (b.same ∙ ap (λ m. numbered m (plain limit)) (sym a.ends))
            ∙ ap (λ x. tree.NumFor (a.from + s + t + u + v) l name (numbered a.from (plain first)) (numbered (a.from + s) (plain limit)) x (own block)) (c.same ∙ ap (λ m. maybe_numbered m (maybe_of plain step)) (omega (arith, a.ends, b.ends)))
            ∙ ap (λ x. tree.NumFor (a.from + s + t + u + v) l name (numbered a.from (plain first)) (numbered (a.from + s) (plain limit)) (maybe_numbered (a.from + s + t) (maybe_of plain step)) x) (d.same ∙ ap (λ m. numbered m (plain block)) (omega (arith, a.ends, b.ends, c.ends)));
        ends = omega (arith, a.ends, b.ends, c.ends, d.ends);
        rest = a.rest;
      }
  node_piece n l (node.GenFor names exps block) below h = let q = one block (list_on exps below) n h in made2 (λ j x y. tree.GenFor j l names x y) q (list_piece exps below q.from q.rest)
  node_piece n l (node.LocalFunction name function) below h = made1 (λ j x. tree.LocalFunction j l name x) (one function below n h)
  node_piece n l (node.Return exps) below h = made1 (λ j x. tree.Return j l x) (list_piece exps below n h)
  node_piece n l node.Break below h = made0 (λ j. tree.Break j l) below n h
  node_piece n l (node.Goto label) below h = made0 (λ j. tree.Goto j l label) below n h
  node_piece n l (node.Label label) below h = made0 (λ j. tree.Label j l label) below n h
  node_piece n l (node.Const value) below h = made0 (λ j. tree.Const j l value) below n h
  node_piece n l node.Vararg below h = made0 (λ j. tree.Vararg j l) below n h
  node_piece n l (node.Function params vararg block) below h = made1 (λ j x. tree.Function j l params vararg x) (one block below n h)
  node_piece n l (node.Name text) below h = made0 (λ j. tree.Name j l text) below n h
  node_piece n l (node.Index object key) below h = let q = one key (object ∷ below) n h in made2 (λ j x y. tree.Index j l x y) q (one object below q.from q.rest)
  node_piece n l (node.Call function args) below h = let q = list_piece args (function ∷ below) n h in made2 (λ j x y. tree.Call j l x y) q (one function below q.from q.rest)
  node_piece n l (node.Method object name args) below h = let q = list_piece args (object ∷ below) n h in made2 (λ j x y. tree.Method j l x name y) q (one object below q.from q.rest)
  node_piece n l (node.Binary op left right) below h = let q = one right (left ∷ below) n h in made2 (λ j x y. tree.Binary j l op x y) q (one left below q.from q.rest)
  node_piece n l (node.Logic op left right) below h = let q = one right (left ∷ below) n h in made2 (λ j x y. tree.Logic j l op x y) q (one left below q.from q.rest)
  node_piece n l (node.Unary op operand) below h = made1 (λ j x. tree.Unary j l op x) (one operand below n h)
  node_piece n l (node.Paren inner) below h = made1 (λ j x. tree.Paren j l x) (one inner below n h)
  node_piece n l (node.Table fields) below h = made1 (λ j x. tree.Table j l x) (fields_piece fields below n h)

-- The numbers that a front of the nodes leaves have trees in a row.
module _ (all : List LinedNode) (ok : Ordered all) where
  abbrev own : ℕ → Tree
  own = decode.tree own_number all

  abbrev plain : ℕ → Tree
  plain = decode.tree no_number all

  row_of : {nodes : List LinedNode} {numbers : List ℕ} → Leaves nodes numbers → ((j : ℕ) → j < length nodes → slice_get all j ≡ slice_get nodes j) → Row own plain numbers (length nodes)
  unfolding Row
  row_of nothing front = refl
  row_of {nodes} {numbers} (one_more before n below h e f) front =
      let k = length before
      in let count : length nodes ≡ k + 1 = ap length e ∙ length-append before (n ∷ [])
      in let deeper : Row own plain (parts_on n.node below) k = row_of h (λ j less. front j (omega (arith, count, less)) ∙ ap (λ ns. slice_get ns j) e ∙ slice_get_before before (n ∷ []) j less)
      in let there : slice_get all k ≡ Some n = front k (omega (arith, count)) ∙ ap (λ ns. slice_get ns k) e ∙ slice_get_last before n
      in let mine = tree_node own_number all ok k n there
      in let bare = tree_node no_number all ok k n there
      in let p = node_piece own plain k n.line n.node below deeper
      in let s : Spans own plain p.from k = record { tree = mine ∙ p.same ∙ ap (numbered p.from) (sym bare); last = ap (λ t. p.from + nodes_in t) bare ∙ p.ends }
      in subst (λ ns. Row own plain ns (length nodes)) (sym f) (p.from, s, count, p.rest)

-- Where the nodes leave one number, its tree is numbered from 0 on, and it is the last node.
pub is_numbered : (nodes : List LinedNode) (root : ℕ) → Ordered nodes → Leaves nodes (root ∷ []) → IsNumbered (record { nodes = nodes; root = root })
unfolding Row
is_numbered nodes root ok h =
    let r = row_of nodes ok h (λ j less. refl)
    in (r.1.tree ∙ ap (λ m. numbered m (decode.tree no_number nodes root)) r.3, r.2)

-- The same of a chunk that has these nodes and this root.
pub is_numbered_as : (inside nodes : List LinedNode) (root : ℕ) (c : ChunkNodes) → inside ≡ nodes → c.nodes ≡ inside → c.root ≡ root → Ordered inside → Leaves nodes (root ∷ []) → IsNumbered c
is_numbered_as inside nodes root c e f g ok h =
    let here = is_numbered inside root ok (subst (λ ns. Leaves ns (root ∷ [])) (sym e) h)
    in subst (λ r. (decode.tree own_number c.nodes r ≡ numbered 0 (decode.tree no_number c.nodes r)) × (length c.nodes ≡ r + 1)) (sym g)
    (subst (λ ns. (decode.tree own_number ns root ≡ numbered 0 (decode.tree no_number ns root)) × (length ns ≡ root + 1)) (sym f) here)

-- One node more takes its parts, and leaves its number.
pub leaves_push : (inside nodes more : List LinedNode) (n : LinedNode) (i : ℕ) → inside ≡ nodes → more ≡ inside ++ n ∷ [] → i ≡ length nodes → (below : List ℕ) → Leaves nodes (parts_on n.node below) → Leaves more (i ∷ below)
leaves_push inside nodes more n i same e at below h = one_more nodes n below h (e ∙ ap (λ ns. ns ++ n ∷ []) same) (ap (λ k. k ∷ below) at)
