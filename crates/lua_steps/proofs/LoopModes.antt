-- The turns of loops arrive where they mean.
use Rattle.std.proofs.Common.{◌≡◌, ℕ, zero, suc, ◌+◌, ◌<◌, ◌≤◌, ℤ, List, [], ◌∷◌, length, Bool, true, false, Option, Some, None, slice_get, option_map, refl, ap, arith}
use Rattle.std.proofs.lemmas.Bool.{true≢false}
use Rattle.std.specs.Prelude.{◌+ℤ◌, codes, if◌then◌else◌}
use Rattle.lua_ast.specs.declared.node.Node.{Node}
use Rattle.lua_ast.specs.declared.node.Node.TheVariants as node
use Rattle.lua_ast.specs.declared.node.LinedNode.{LinedNode}
use Rattle.lua_ast.specs.Tree as syntax
use Rattle.lua_ast.specs.Tree.{Tree}
use Rattle.lua_ast.specs.Decode.{list_of}
use Rattle.lua_meaning.specs.declared.value.Value.{Value}
use Rattle.lua_meaning.specs.declared.value.Value.TheVariants as value
use Rattle.lua_meaning.specs.Values.{first}
use Rattle.lua_meaning.specs.Numbers.{to_int, fits}
use Rattle.lua_meaning.specs.Store.{Store, Resumptions, Result}
use Rattle.lua_meaning.specs.Runs.{go, after, tick}
use Rattle.lua_meaning.specs.Locals.{local_count, cut as cut_in, declare, declare_all}
use Rattle.lua_meaning.specs.Jobs.{Again, Turn, Round, Count, Each}
use Rattle.lua_meaning.specs.Nodes.{eval, statements, landed, loop_ends, makes_turn, start_count, open_body}
use Rattle.lua_meaning.specs.Loops.{turn, round, count_next, count_turn, each_with}
use Rattle.lua_meaning.specs.Programs.{jobs}
use Rattle.lua_coroutines.specs.declared.frame.Frame.TheVariants as frame
use Rattle.lua_coroutines.specs.declared.frame.BodyFrame.TheVariants as body
use Rattle.lua_coroutines.specs.declared.frame.WhileFrame.TheVariants as while_loop
use Rattle.lua_coroutines.specs.declared.frame.RepeatFrame.TheVariants as repeat_loop
use Rattle.lua_coroutines.specs.declared.frame.CountFrame.TheVariants as count_loop
use Rattle.lua_coroutines.specs.declared.frame.EachFrame.TheVariants as each_loop
use Rattle.lua_steps.specs.declared.mode.Mode.TheVariants as mode
use Rattle.lua_steps.specs.Parts.{part, line_number, list_at, name_count_at, test_at, block_at}
use Rattle.lua_steps.specs.Frames.{jobs_at, runs, begin_next, goes_on, means}
use Rattle.lua_steps.specs.Starts.{IsNode}
use Rattle.lua_steps.specs.Configuration.{Configuration, with_frame, with_tick, ticking}
use Rattle.lua_steps.specs.Effects.{declared, declared_all}
use Rattle.lua_steps.specs.Machine.{declaring, is_block_node, lines_at, start_by, counted_by, each_by, step}
use Rattle.lua_steps.specs.Keeping.{AreTrees}
use Rattle.lua_steps.proofs.Lists.{statements_are}
use Rattle.lua_steps.proofs.NodeTrees.{tree_missing}
use Rattle.lua_steps.proofs.Arriving.{Setting, Passes, as_it_is, as_it_is_passes, as_store, Runs, Arrives, turned, settles, pushes, pushes_at, lowers, ticks, failed}
use Rattle.lua_steps.proofs.Storing.{declared_in, declares, says_one, says_all}

module _ {H : Type 0} where
  -- a loop around an outcome
  abbrev loop_around : ℕ → ℕ → ℕ → Result H → Result H
  loop_around outer m j o = loop_ends outer o

  loop_passes : (outer : ℕ) → Passes (loop_around outer)
  loop_passes outer = record { raises = λ m j v s r. refl; stops = λ m j st s r. refl }

abbrev is_block : Tree → Bool
is_block (syntax.Block i l stats) = true
is_block t = false

module _ {H : Type 0} (c : Setting H) where
  abbrev jobs_of : ℕ → ℕ → Again H
  jobs_of m j = jobs_at c.host c.code c.nodes m j

  abbrev test_of : ℕ → Tree
  test_of node = part c.nodes (test_at c.nodes node)

  abbrev block_of : ℕ → Tree
  block_of node = part c.nodes (block_at c.nodes node)

  pub arrives_turn : (node outer : ℕ) (x : Configuration) → Arrives c (mode.Turn node outer, x) → Arrives c (step c.nodes c.code (mode.Turn node outer) x)
  unfolding jobs
  arrives_turn node outer x h =
      ticks c x (loop_around outer) (λ m j. jobs_of m j (Turn (test_of node) (block_of node))) (λ y. (mode.Begin (test_at c.nodes node), with_frame (frame.While (while_loop.Test node outer)) y)) (loop_passes outer) h
      (λ h. pushes c (lowers c 1 h (λ m j r. loop_ends outer (turn c.code (jobs_of m j) (test_of node) (block_of node) (as_store c (with_tick x)) r)) (λ m j r. refl))
      (frame.While (while_loop.Test node outer)) (mode.Begin (test_at c.nodes node)) (with_tick x) refl (omega arith) (omega arith) (λ m j r. refl))

  pub arrives_round : (node outer : ℕ) (x : Configuration) → Arrives c (mode.Round node outer, x) → Arrives c (step c.nodes c.code (mode.Round node outer) x)
  unfolding jobs
  arrives_round node outer x h =
      ticks c x (loop_around outer) (λ m j. jobs_of m j (Round (block_of node) (test_of node))) (λ y. (mode.Open (block_at c.nodes node), with_frame (frame.Repeat (repeat_loop.Turn node outer (length y.call.locals))) y)) (loop_passes outer) h
      (λ h. pushes c (lowers c 1 h (λ m j r. loop_ends outer (round c.code (jobs_of m j) (block_of node) (test_of node) (as_store c (with_tick x)) r)) (λ m j r. refl))
      (frame.Repeat (repeat_loop.Turn node outer (length x.call.locals))) (mode.Open (block_at c.nodes node)) (with_tick x) refl (omega arith) (omega arith) (λ m j r. refl))

  open_else : (again : Again H) (t : Tree) (s : Store H) (r : Resumptions H) → is_block t ≡ false → open_body c.code again t s r ≡ eval c.code again t s r
  open_else again (syntax.Block i l stats) s r e = absurd (true≢false e)
  open_else again t s r e = refl

  -- no text has a `repeat` without a block
  open_other : (i : ℕ) (x : Configuration) → is_block (part c.nodes i) ≡ false → Arrives c (mode.Open i, x) → Arrives c (mode.Begin i, x)
  open_other i x e h = settles c h (mode.Begin i) x (omega arith) (omega arith) (λ m j r. open_else (jobs_of m j) (part c.nodes i) (as_store c x) r e)

  open_block : (i l : ℕ) (x : Configuration) → part c.nodes i ≡ syntax.Block i l (list_of (part c.nodes) (list_at c.nodes i)) → Arrives c (mode.Open i, x) →
      Arrives c (ticking (λ y. (mode.Give [], with_frame (frame.Body (body.Open i 0 (length y.call.locals))) y)) x)
  open_block i l x e h =
      ticks c x as_it_is (λ m j s r. landed c.code (jobs_of m j) (list_of (part c.nodes) (list_at c.nodes i)) (local_count s) (statements c.code (jobs_of m j) (list_of (part c.nodes) (list_at c.nodes i)) (go []) s r))
      (λ y. (mode.Give [], with_frame (frame.Body (body.Open i 0 (length y.call.locals))) y)) as_it_is_passes
      (turned c h (λ m j r. open_body c.code (jobs_of m j) (syntax.Block i l (list_of (part c.nodes) (list_at c.nodes i))) (as_store c x) r) (λ m j r. ap (λ t. open_body c.code (jobs_of m j) t (as_store c x) r) e))
      (λ h. pushes c h (frame.Body (body.Open i 0 (length x.call.locals))) (mode.Give []) (with_tick x) refl (omega arith) (omega arith)
      (λ m j r. ap (λ o. landed c.code (jobs_of m j) (list_of (part c.nodes) (list_at c.nodes i)) (length x.call.locals) o) (statements_are c.code (jobs_of m j) (part c.nodes) (list_at c.nodes i) (go []) (as_store c (with_tick x)) r)))

  open_node : (i : ℕ) (n : Node) (x : Configuration) → IsNode c.nodes i n → Arrives c (mode.Open i, x) → Arrives c (if is_block_node (Some n) then ticking (λ y. (mode.Give [], with_frame (frame.Body (body.Open i 0 (length y.call.locals))) y)) x else (mode.Begin i, x))
  open_node i (node.Block stats) x there h = open_block i (line_number c.nodes i) x (rw there.there there.tree) h
  open_node i n x there h = open_other i x (ap is_block there.tree) h

  open_at : (trees : AreTrees c.nodes) (i : ℕ) (x : Configuration) (o : Option LinedNode) → slice_get c.nodes i ≡ o → Arrives c (mode.Open i, x) →
      Arrives c (if is_block_node (option_map (λ l. l.node) o) then ticking (λ y. (mode.Give [], with_frame (frame.Body (body.Open i 0 (length y.call.locals))) y)) x else (mode.Begin i, x))
  open_at trees i x None e h = open_other i x (ap is_block (tree_missing c.nodes i e)) h
  open_at trees i x (Some l) e h = open_node i l.node x (record { line = l.line; there = e; tree = trees i l e }) h

  pub arrives_open : (trees : AreTrees c.nodes) (i : ℕ) (x : Configuration) → Arrives c (mode.Open i, x) → Arrives c (step c.nodes c.code (mode.Open i) x)
  arrives_open trees i x h = open_at trees i x (slice_get c.nodes i) refl h

  start_arrives : (node : ℕ) (x : Configuration) (a b d : Option ℤ) → Runs c 1 0 x.heap.used x.frames (λ m j r. loop_ends (length x.call.locals) (start_count c.code (jobs_of m j) (c.code.first_variable node) (block_of node) a b d (lines_at c.nodes node x.call) (as_store c x) r)) →
      Arrives c (start_by c.nodes node a b d x)
  start_arrives node x (Some a) (Some b) (Some d) h = settles c h (mode.Count node a b d (length x.call.locals)) x (omega arith) (omega arith) (λ m j r. refl)
  start_arrives node x a b d h = failed c x (loop_around (length x.call.locals)) (lines_at c.nodes node x.call) (codes "for value is not a number") (loop_passes (length x.call.locals)) h

  pub arrives_start : (node : ℕ) (a b d : Value) (x : Configuration) → Arrives c (mode.Start node a b d, x) → Arrives c (step c.nodes c.code (mode.Start node a b d) x)
  arrives_start node a b d x h = start_arrives node x (to_int a) (to_int b) (to_int d) h

  -- the block of a numeric `for`, and what follows it
  abbrev counted : ℕ → (at to by : ℤ) → (outer before : ℕ) → ℕ → ℕ → Result H → Result H
  counted node at to by outer before m j o = loop_ends outer (after o (λ d s. count_next c.code (jobs_of m j) (fits (at +ℤ by)) (c.code.first_variable node) (block_of node) (at +ℤ by) to by (cut_in before s)))

  count_by : (node : ℕ) (at to by : ℤ) (outer : ℕ) (x : Configuration) (more : Bool) → Runs c 1 0 x.heap.used x.frames (λ m j r. loop_ends outer ((if more then tick (jobs_of m j (Count (c.code.first_variable node) (block_of node) at to by)) else go []) (as_store c x) r)) →
      Arrives c (counted_by c.nodes c.code more node at to by outer x)
  unfolding jobs
  count_by node at to by outer x false h = settles c h (mode.Give []) x (omega arith) (omega arith) (λ m j r. refl)
  count_by node at to by outer x true h =
      ticks c x (loop_around outer) (λ m j. jobs_of m j (Count (c.code.first_variable node) (block_of node) at to by))
      (λ y. declaring (declared c.code (c.code.first_variable node) (value.Int at) y.heap y.call.locals) (λ z. (mode.Begin (block_at c.nodes node), with_frame (frame.Count (count_loop.Turn node at to by outer (length y.call.locals))) z)) y) (loop_passes outer) h
      (λ h. declares c (with_tick x) (declared c.code (c.code.first_variable node) (value.Int at) (with_tick x).heap x.call.locals) (declare c.code (c.code.first_variable node) (value.Int at)) (counted node at to by outer (length x.call.locals)) (λ m j. runs c.host c.code c.nodes m j (block_at c.nodes node))
      (λ z. (mode.Begin (block_at c.nodes node), with_frame (frame.Count (count_loop.Turn node at to by outer (length x.call.locals))) z))
      (record { raises = λ m j v s r. refl; stops = λ m j st s r. refl }) (says_one c (c.code.first_variable node) (value.Int at) (with_tick x))
      (lowers c 1 h (λ m j r. loop_ends outer (count_turn c.code (jobs_of m j) (c.code.first_variable node) (block_of node) at to by (as_store c (with_tick x)) r)) (λ m j r. refl))
      (λ h. pushes c h (frame.Count (count_loop.Turn node at to by outer (length x.call.locals))) (mode.Begin (block_at c.nodes node)) (declared_in (declared c.code (c.code.first_variable node) (value.Int at) (with_tick x).heap x.call.locals) (with_tick x)) refl (omega arith) (omega arith) (λ m j r. refl)))

  pub arrives_count : (node : ℕ) (at to by : ℤ) (outer : ℕ) (x : Configuration) → Arrives c (mode.Count node at to by outer, x) → Arrives c (step c.nodes c.code (mode.Count node at to by outer) x)
  arrives_count node at to by outer x h = count_by node at to by outer x (makes_turn at to by) h

  pub arrives_next : (node : ℕ) (f state control : Value) (outer : ℕ) (x : Configuration) → Arrives c (mode.Next node f state control outer, x) → Arrives c (step c.nodes c.code (mode.Next node f state control outer) x)
  unfolding jobs
  arrives_next node f state control outer x h =
      ticks c x (loop_around outer) (λ m j. jobs_of m j (Each (c.code.first_variable node) (name_count_at c.nodes node) (block_of node) f state control (line_number c.nodes node)))
      (λ y. (mode.Call f (state ∷ control ∷ []) (lines_at c.nodes node y.call) false, with_frame (frame.Each (each_loop.Next node f state outer)) y)) (loop_passes outer) h
      (λ h. pushes_at c h (frame.Each (each_loop.Next node f state outer)) (mode.Call f (state ∷ control ∷ []) (lines_at c.nodes node x.call) false) (with_tick x) refl (falls h.grows.within.instructions))
    where
      falls : x.heap.used.instructions + 1 ≤ x.heap.used.most_instructions → (m i : ℕ) (r : Resumptions H) → x.heap.used.most_instructions + 2 < x.heap.used.instructions + 1 + i → (j k : ℕ) × (x.heap.used.most_instructions + 1 < x.heap.used.instructions + 1 + j) × (x.heap.used.most_instructions + 1 < x.heap.used.instructions + 1 + k)
          × (loop_ends outer (jobs_of m i (Each (c.code.first_variable node) (name_count_at c.nodes node) (block_of node) f state control (line_number c.nodes node)) (as_store c (with_tick x)) r)
          ≡ goes_on c.host c.code c.nodes m j (frame.Each (each_loop.Next node f state outer)) (means c.host c.code c.nodes m k (mode.Call f (state ∷ control ∷ []) (lines_at c.nodes node x.call) false) (as_store c (with_tick x)) r))
      falls le m zero r lt = absurd (omega (arith, le, lt))
      falls le m (suc i) r lt = (i, suc i, omega (arith, lt), omega (arith, lt), refl)

  -- a turn of a generic `for`, whose control value isn't nil
  each_turns : (control : Value) (node : ℕ) (f state : Value) (outer : ℕ) (vs : List Value) (x : Configuration) →
      Runs c 1 0 x.heap.used x.frames (λ m j r. loop_ends outer (after (declare_all c.code (c.code.first_variable node) (name_count_at c.nodes node) vs (eval c.code (jobs_of m j) (block_of node)) (as_store c x) r) (λ d s. begin_next c.host c.code c.nodes m j node f state control (cut_in (length x.call.locals) s)))) →
      Arrives c (declaring (declared_all c.code (c.code.first_variable node) (name_count_at c.nodes node) vs x.heap x.call.locals) (λ z. (mode.Begin (block_at c.nodes node), with_frame (frame.Each (each_loop.Turn node f state control outer (length x.call.locals))) z)) x)
  each_turns control node f state outer vs x h =
      declares c x (declared_all c.code (c.code.first_variable node) (name_count_at c.nodes node) vs x.heap x.call.locals) (declare_all c.code (c.code.first_variable node) (name_count_at c.nodes node) vs)
      (λ m j o. loop_ends outer (after o (λ d s. begin_next c.host c.code c.nodes m j node f state control (cut_in (length x.call.locals) s)))) (λ m j. runs c.host c.code c.nodes m j (block_at c.nodes node))
      (λ z. (mode.Begin (block_at c.nodes node), with_frame (frame.Each (each_loop.Turn node f state control outer (length x.call.locals))) z))
      (record { raises = λ m j v s r. refl; stops = λ m j st s r. refl }) (says_all c (name_count_at c.nodes node) (c.code.first_variable node) vs x) h
      (λ h. pushes c h (frame.Each (each_loop.Turn node f state control outer (length x.call.locals))) (mode.Begin (block_at c.nodes node)) (declared_in (declared_all c.code (c.code.first_variable node) (name_count_at c.nodes node) vs x.heap x.call.locals) x) refl (omega arith) (omega arith) (λ m j r. refl))

  each_arrives : (control : Value) (node : ℕ) (f state : Value) (outer : ℕ) (vs : List Value) (x : Configuration) →
      Runs c 1 0 x.heap.used x.frames (λ m j r. loop_ends outer (each_with c.code (jobs_of m j) control (c.code.first_variable node) (name_count_at c.nodes node) (block_of node) f state (line_number c.nodes node) vs (as_store c x) r)) → Arrives c (each_by c.nodes c.code control node f state outer vs x)
  each_arrives value.Nil node f state outer vs x h = settles c h (mode.Give []) x (omega arith) (omega arith) (λ m j r. refl)
  each_arrives control node f state outer vs x h = each_turns control node f state outer vs x h

  pub arrives_each : (node : ℕ) (f state : Value) (outer : ℕ) (vs : List Value) (x : Configuration) → Arrives c (mode.Each node f state outer vs, x) → Arrives c (step c.nodes c.code (mode.Each node f state outer vs) x)
  arrives_each node f state outer vs x h = each_arrives (first vs) node f state outer vs x h
