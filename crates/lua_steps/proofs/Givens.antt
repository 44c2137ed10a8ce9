-- What each frame makes of values is what it means.
use Rattle.std.proofs.Common.{◌≡◌, ◌∙◌, ℕ, ◌+◌, ℤ, pos, List, [], ◌∷◌, ◌++◌, length, drop, Bool, true, false, Option, Some, None, refl, ap, arith}
use Rattle.std.specs.Prelude.{◌+ℤ◌, slice_get, if◌then◌else◌}
use Rattle.lua_ast.specs.declared.node.LogicOp.{LogicOp}
use Rattle.lua_ast.specs.declared.node.LogicOp.TheVariants as logic_op
use Rattle.lua_ast.specs.Decode.{maybe_of}
use Rattle.lua_meaning.specs.declared.value.Value.{Value}
use Rattle.lua_meaning.specs.declared.value.Value.TheVariants as value
use Rattle.lua_meaning.specs.declared.variable.Slot.{Slot}
use Rattle.lua_meaning.specs.declared.variable.Slot.TheVariants as slot
use Rattle.lua_meaning.specs.declared.variable.Target.{Target}
use Rattle.lua_meaning.specs.declared.variable.Target.TheVariants as target
use Rattle.lua_meaning.specs.Values.{first, truth}
use Rattle.lua_meaning.specs.Numbers.{fits}
use Rattle.lua_meaning.specs.Store.{Store, Resumptions, Result, Go, Halt}
use Rattle.lua_meaning.specs.Runs.{Run, go, after, at_line}
use Rattle.lua_meaning.specs.Locals.{slot_of}
use Rattle.lua_meaning.specs.Jobs.{Again}
use Rattle.lua_meaning.specs.Nodes.{maybe_eval, step_of, loop_ends, by_truth, logic, only_first, store_one, slot_target}
use Rattle.lua_meaning.specs.Loops.{count_next}
use Rattle.lua_coroutines.specs.declared.frame.Frame.{Frame}
use Rattle.lua_coroutines.specs.declared.frame.Frame.TheVariants as frame
use Rattle.lua_coroutines.specs.declared.frame.BodyFrame.TheVariants as body
use Rattle.lua_coroutines.specs.declared.frame.AssignFrame.TheVariants as assign
use Rattle.lua_coroutines.specs.declared.frame.CalleeFrame.TheVariants as callee
use Rattle.lua_coroutines.specs.declared.frame.WhileFrame.TheVariants as while_loop
use Rattle.lua_coroutines.specs.declared.frame.RepeatFrame.TheVariants as repeat_loop
use Rattle.lua_coroutines.specs.declared.frame.CountFrame.TheVariants as count_loop
use Rattle.lua_coroutines.specs.declared.frame.EachFrame.TheVariants as each_loop
use Rattle.lua_coroutines.specs.declared.frame.TableFrame.TheVariants as table
use Rattle.lua_coroutines.specs.declared.frame.OperandFrame.TheVariants as operand
use Rattle.lua_coroutines.specs.declared.frame.NativeFrame.TheVariants as native
use Rattle.lua_steps.specs.declared.mode.Mode.TheVariants as mode
use Rattle.lua_steps.specs.declared.given.Given.TheVariants as given
use Rattle.lua_steps.specs.Parts.{part, line_number, list_at, test_at, block_at, tests_at, blocks_at, otherwise_at, limit_at, step_at, key_at, name_there, right_at, logic_at, more, begin_all, choose_from}
use Rattle.lua_steps.specs.Frames.{told_of, jobs_at, runs, goes_on, make_call, turn_after, otherwise_for, begin_round}
use Rattle.lua_steps.specs.Starts.{otherwise_or_none}
use Rattle.lua_steps.specs.Configuration.{Configuration, cut, with_call, taken_up}
use Rattle.lua_steps.specs.Given.{statement_next, open_next, local_next, argument_next, result_next, argument_first, test_next, step_next, number_next, logic_given, if_given, each_next, value_next, frame_given}
use Rattle.lua_meaning.specs.Operators.{negated_if}
use Rattle.lua_steps.proofs.Lists.{expressions_are, more_behind}
use Rattle.lua_steps.proofs.NodeTrees.{next_there, none_there}
use Rattle.lua_steps.proofs.Arriving.{Setting, as_store, Runs, Arrives, turned, settles, pushes}

module _ {H : Type 0} (c : Setting H) where
  -- what a frame makes of values that it is given, the frame being taken off
  abbrev pub IsGiven : Frame → List Value → Configuration → Type 0
  IsGiven f vs y = Runs c 1 0 y.heap.used y.frames (λ m j r. goes_on c.host c.code c.nodes m j f (Go vs (as_store c y) r))

  abbrev jobs_of : ℕ → ℕ → Again H
  jobs_of m j = jobs_at c.host c.code c.nodes m j

  abbrev runs_of : ℕ → ℕ → ℕ → Run H
  runs_of m j i = runs c.host c.code c.nodes m j i

  statement_given : (vs : List Value) (y : Configuration) (block next outer : ℕ) (o : Option ℕ) → slice_get (list_at c.nodes block) next ≡ o → IsGiven (frame.Body (body.Statements block next outer)) vs y → Arrives c (taken_up (statement_next block next outer o) y)
  statement_given vs y block next outer None e h = settles c h (mode.Give []) (cut outer y) (omega arith) (omega arith) (λ m j r. rw (none_there (list_at c.nodes block) next e) refl)
  statement_given vs y block next outer (Some i) e h = pushes c h (frame.Body (body.Statements block (next + 1) outer)) (mode.Begin i) y refl (omega arith) (omega arith) (λ m j r. rw (next_there (list_at c.nodes block) next i e) refl)

  open_given : (vs : List Value) (y : Configuration) (block next outer : ℕ) (o : Option ℕ) → slice_get (list_at c.nodes block) next ≡ o → IsGiven (frame.Body (body.Open block next outer)) vs y → Arrives c (taken_up (open_next block next outer o) y)
  open_given vs y block next outer None e h = settles c h (mode.Give []) y (omega arith) (omega arith) (λ m j r. rw (none_there (list_at c.nodes block) next e) refl)
  open_given vs y block next outer (Some i) e h = pushes c h (frame.Body (body.Open block (next + 1) outer)) (mode.Begin i) y refl (omega arith) (omega arith) (λ m j r. rw (next_there (list_at c.nodes block) next i e) refl)

  local_given : (ws vs : List Value) (y : Configuration) (node next : ℕ) (o : Option ℕ) → slice_get (list_at c.nodes node) next ≡ o → IsGiven (frame.Locals node next vs) ws y → Arrives c (taken_up (local_next node next vs ws o) y)
  local_given ws vs y node next None e h = settles c h (mode.Declare node (vs ++ ws)) y (omega arith) (omega arith) (λ m j r. rw (none_there (list_at c.nodes node) next e) refl)
  local_given ws vs y node next (Some i) e h = pushes c h (frame.Locals node (next + 1) (vs ++ first ws ∷ [])) (mode.Begin i) y refl (omega arith) (omega arith) (λ m j r. rw (next_there (list_at c.nodes node) next i e) refl)

  argument_given : (ws vs : List Value) (y : Configuration) (node next : ℕ) (f : Value) (o : Option ℕ) → slice_get (list_at c.nodes node) next ≡ o → IsGiven (frame.Args node next f vs) ws y → Arrives c (taken_up (argument_next node next f vs ws o) y)
  argument_given ws vs y node next f None e h = settles c h (mode.Apply node f (vs ++ ws)) y (omega arith) (omega arith) (λ m j r. rw (none_there (list_at c.nodes node) next e) refl)
  argument_given ws vs y node next f (Some i) e h = pushes c h (frame.Args node (next + 1) f (vs ++ first ws ∷ [])) (mode.Begin i) y refl (omega arith) (omega arith) (λ m j r. rw (next_there (list_at c.nodes node) next i e) refl)

  result_given : (ws vs : List Value) (y : Configuration) (node next : ℕ) (o : Option ℕ) → slice_get (list_at c.nodes node) next ≡ o → IsGiven (frame.Return node next vs) ws y → Arrives c (taken_up (result_next node next vs ws o) y)
  result_given ws vs y node next None e h = settles c h (mode.Return node (vs ++ ws)) y (omega arith) (omega arith) (λ m j r. rw (none_there (list_at c.nodes node) next e) refl)
  result_given ws vs y node next (Some i) e h = pushes c h (frame.Return node (next + 1) (vs ++ first ws ∷ [])) (mode.Begin i) y refl (omega arith) (omega arith) (λ m j r. rw (next_there (list_at c.nodes node) next i e) refl)

  value_given : (ws vs : List Value) (y : Configuration) (node next : ℕ) (ts : List Target) (o : Option ℕ) → slice_get (list_at c.nodes node) next ≡ o → IsGiven (frame.Assign (assign.Values node next ts vs)) ws y → Arrives c (taken_up (value_next node next ts vs ws o) y)
  value_given ws vs y node next ts None e h = settles c h (mode.Stores node ts (vs ++ ws)) y (omega arith) (omega arith) (λ m j r. rw (none_there (list_at c.nodes node) next e) refl)
  value_given ws vs y node next ts (Some i) e h = pushes c h (frame.Assign (assign.Values node (next + 1) ts (vs ++ first ws ∷ []))) (mode.Begin i) y refl (omega arith) (omega arith) (λ m j r. rw (next_there (list_at c.nodes node) next i e) refl)

  each_given : (ws vs : List Value) (y : Configuration) (node next : ℕ) (o : Option ℕ) → slice_get (list_at c.nodes node) next ≡ o → IsGiven (frame.Each (each_loop.Values node next vs)) ws y → Arrives c (taken_up (each_next node next (length y.call.locals) vs ws o) y)
  each_given ws vs y node next None e h = settles c h (mode.Next node (first (vs ++ ws)) (first (drop 1 (vs ++ ws))) (first (drop 2 (vs ++ ws))) (length y.call.locals)) y (omega arith) (omega arith) (λ m j r. rw (none_there (list_at c.nodes node) next e) refl)
  each_given ws vs y node next (Some i) e h = pushes c h (frame.Each (each_loop.Values node (next + 1) (vs ++ first ws ∷ []))) (mode.Begin i) y refl (omega arith) (omega arith) (λ m j r. rw (next_there (list_at c.nodes node) next i e) refl)

  -- the arguments of a call begin
  function_given : (vs : List Value) (y : Configuration) (node : ℕ) (o : Option ℕ) → slice_get (list_at c.nodes node) 0 ≡ o → IsGiven (frame.Callee (callee.Function node)) vs y → Arrives c (taken_up (argument_first node (first vs) [] o) y)
  function_given vs y node None e h = pushes c h (frame.Args node 0 (first vs) []) (mode.Give []) y refl (omega arith) (omega arith)
      (λ m j r. expressions_are c.code (jobs_of m j) (part c.nodes) (list_at c.nodes node) (λ ws. make_call c.host c.code c.nodes m j node (first vs) ([] ++ ws)) (as_store c y) r ∙ (let none : list_at c.nodes node ≡ [] = none_there (list_at c.nodes node) 0 e in rw none refl))
  function_given vs y node (Some i) e h = pushes c h (frame.Args node 1 (first vs) []) (mode.Begin i) y refl (omega arith) (omega arith)
      (λ m j r. expressions_are c.code (jobs_of m j) (part c.nodes) (list_at c.nodes node) (λ ws. make_call c.host c.code c.nodes m j node (first vs) ([] ++ ws)) (as_store c y) r
      ∙ ap (λ is. begin_all c.code (jobs_of m j) (part c.nodes) [] is (λ ws. make_call c.host c.code c.nodes m j node (first vs) ([] ++ ws)) (as_store c y) r) (next_there (list_at c.nodes node) 0 i e))

  after_receiver : (again : Again H) (receiver : Value) (js : List ℕ) (k : List Value → Run H) (o : Result H) → after o (more c.code again (part c.nodes) [] js (λ ws. k (receiver ∷ ws))) ≡ after o (more c.code again (part c.nodes) (receiver ∷ []) js k)
  after_receiver again receiver js k (Go ws s r) = more_behind c.code again (part c.nodes) receiver [] js k ws s r
  after_receiver again receiver js k (Halt x s r) = refl

  method_given : (vs : List Value) (y : Configuration) (node : ℕ) (receiver : Value) (o : Option ℕ) → slice_get (list_at c.nodes node) 0 ≡ o → IsGiven (frame.Callee (callee.Method node receiver)) vs y → Arrives c (taken_up (argument_first node (first vs) (receiver ∷ []) o) y)
  method_given vs y node receiver None e h = pushes c h (frame.Args node 0 (first vs) (receiver ∷ [])) (mode.Give []) y refl (omega arith) (omega arith)
      (λ m j r. expressions_are c.code (jobs_of m j) (part c.nodes) (list_at c.nodes node) (λ ws. make_call c.host c.code c.nodes m j node (first vs) ((receiver ∷ []) ++ ws)) (as_store c y) r ∙ (let none : list_at c.nodes node ≡ [] = none_there (list_at c.nodes node) 0 e in rw none refl))
  method_given vs y node receiver (Some i) e h = pushes c h (frame.Args node 1 (first vs) (receiver ∷ [])) (mode.Begin i) y refl (omega arith) (omega arith)
      (λ m j r. expressions_are c.code (jobs_of m j) (part c.nodes) (list_at c.nodes node) (λ ws. make_call c.host c.code c.nodes m j node (first vs) ((receiver ∷ []) ++ ws)) (as_store c y) r
      ∙ ap (λ is. begin_all c.code (jobs_of m j) (part c.nodes) [] is (λ ws. make_call c.host c.code c.nodes m j node (first vs) ((receiver ∷ []) ++ ws)) (as_store c y) r) (next_there (list_at c.nodes node) 0 i e)
      ∙ after_receiver (jobs_of m j) receiver (drop 1 (list_at c.nodes node)) (make_call c.host c.code c.nodes m j node (first vs)) (runs_of m j i (as_store c y) r))

  -- what an `if` does without a test that holds
  pub otherwise_arrives : {p : ℕ} (y : Configuration) (o : Option ℕ) → Runs c 1 p y.heap.used y.frames (λ m j r. maybe_eval c.code (jobs_of m j) (maybe_of (part c.nodes) o) (as_store c y) r) → Arrives c (otherwise_or_none o, y)
  unfolding maybe_eval
  otherwise_arrives y None h = settles c h (mode.Give []) y (omega arith) (omega arith) (λ m j r. refl)
  otherwise_arrives y (Some i) h = settles c h (mode.Begin i) y (omega arith) (omega arith) (λ m j r. refl)

  next_test : (y : Configuration) (node k : ℕ) (t b : Option ℕ) → slice_get (tests_at c.nodes node) (k + 1) ≡ t → slice_get (blocks_at c.nodes node) (k + 1) ≡ b →
      Runs c 1 0 y.heap.used y.frames (λ m j r. choose_from c.code (jobs_of m j) (part c.nodes) (drop (k + 1) (tests_at c.nodes node)) (drop (k + 1) (blocks_at c.nodes node)) (otherwise_for c.host c.code c.nodes m j node) (as_store c y) r) →
      Arrives c (taken_up (test_next node k (otherwise_at c.nodes node) t b) y)
  next_test y node k (Some t) (Some b) e f h = pushes c h (frame.If node (k + 1)) (mode.Begin t) y refl (omega arith) (omega arith)
      (λ m j r. rw (next_there (tests_at c.nodes node) (k + 1) t e) (rw (next_there (blocks_at c.nodes node) (k + 1) b f) refl))
  next_test y node k (Some t) None e f h = otherwise_arrives y (otherwise_at c.nodes node) (turned c h (λ m j r. otherwise_for c.host c.code c.nodes m j node (as_store c y) r) (λ m j r. rw (next_there (tests_at c.nodes node) (k + 1) t e) (rw (none_there (blocks_at c.nodes node) (k + 1) f) refl)))
  next_test y node k None (Some b) e f h = otherwise_arrives y (otherwise_at c.nodes node) (turned c h (λ m j r. otherwise_for c.host c.code c.nodes m j node (as_store c y) r) (λ m j r. rw (none_there (tests_at c.nodes node) (k + 1) e) refl))
  next_test y node k None None e f h = otherwise_arrives y (otherwise_at c.nodes node) (turned c h (λ m j r. otherwise_for c.host c.code c.nodes m j node (as_store c y) r) (λ m j r. rw (none_there (tests_at c.nodes node) (k + 1) e) refl))

  test_by : (y : Configuration) (node k b : ℕ) (holds : Bool) →
      Runs c 1 0 y.heap.used y.frames (λ m j r. (if holds then runs_of m j b else choose_from c.code (jobs_of m j) (part c.nodes) (drop (k + 1) (tests_at c.nodes node)) (drop (k + 1) (blocks_at c.nodes node)) (otherwise_for c.host c.code c.nodes m j node)) (as_store c y) r) →
      Arrives c (taken_up (if holds then given.Goes (mode.Begin b) else test_next node k (otherwise_at c.nodes node) (slice_get (tests_at c.nodes node) (k + 1)) (slice_get (blocks_at c.nodes node) (k + 1))) y)
  test_by y node k b true h = settles c h (mode.Begin b) y (omega arith) (omega arith) (λ m j r. refl)
  test_by y node k b false h = next_test y node k (slice_get (tests_at c.nodes node) (k + 1)) (slice_get (blocks_at c.nodes node) (k + 1)) refl refl h

  test_given : (vs : List Value) (y : Configuration) (node k : ℕ) (b : Option ℕ) → slice_get (blocks_at c.nodes node) k ≡ b → IsGiven (frame.If node k) vs y → Arrives c (taken_up (if_given c.nodes node k b vs) y)
  test_given vs y node k None e h = otherwise_arrives y (otherwise_at c.nodes node) (turned c h (λ m j r. otherwise_for c.host c.code c.nodes m j node (as_store c y) r) (λ m j r. rw (none_there (blocks_at c.nodes node) k e) refl))
  test_given vs y node k (Some b) e h = test_by y node k b (truth (first vs))
      (turned c h (λ m j r. by_truth (first vs) (runs_of m j b) (choose_from c.code (jobs_of m j) (part c.nodes) (drop (k + 1) (tests_at c.nodes node)) (drop (k + 1) (blocks_at c.nodes node)) (otherwise_for c.host c.code c.nodes m j node)) (as_store c y) r) (λ m j r. rw (next_there (blocks_at c.nodes node) k b e) refl))

  while_by : (y : Configuration) (node outer : ℕ) (holds : Bool) →
      Runs c 1 0 y.heap.used y.frames (λ m j r. loop_ends outer ((if holds then (λ s r. after (runs_of m j (block_at c.nodes node) s r) (λ d. turn_after c.host c.code c.nodes m j node)) else go []) (as_store c y) r)) →
      Arrives c (taken_up (if holds then given.Enters (frame.While (while_loop.Turn node outer)) (mode.Begin (block_at c.nodes node)) else given.Goes (mode.Give [])) y)
  while_by y node outer true h = pushes c h (frame.While (while_loop.Turn node outer)) (mode.Begin (block_at c.nodes node)) y refl (omega arith) (omega arith) (λ m j r. refl)
  while_by y node outer false h = settles c h (mode.Give []) y (omega arith) (omega arith) (λ m j r. refl)

  repeat_by : (y : Configuration) (node outer before : ℕ) (holds : Bool) →
      Runs c 1 0 y.heap.used y.frames (λ m j r. loop_ends outer ((if holds then go [] else begin_round c.host c.code c.nodes m j node) (as_store c (cut before y)) r)) →
      Arrives c (taken_up (given.Cuts before (if holds then mode.Give [] else mode.Round node outer)) y)
  repeat_by y node outer before true h = settles c h (mode.Give []) (cut before y) (omega arith) (omega arith) (λ m j r. refl)
  repeat_by y node outer before false h = settles c h (mode.Round node outer) (cut before y) (omega arith) (omega arith) (λ m j r. refl)

  count_by_number : (y : Configuration) (node : ℕ) (at to step : ℤ) (outer before : ℕ) (more : Bool) →
      Runs c 1 0 y.heap.used y.frames (λ m j r. loop_ends outer (count_next c.code (jobs_of m j) more (c.code.first_variable node) (part c.nodes (block_at c.nodes node)) at to step (as_store c (cut before y)) r)) →
      Arrives c (taken_up (given.Cuts before (number_next more node at to step outer)) y)
  count_by_number y node at to step outer before true h = settles c h (mode.Count node at to step outer) (cut before y) (omega arith) (omega arith) (λ m j r. refl)
  count_by_number y node at to step outer before false h = settles c h (mode.Give []) (cut before y) (omega arith) (omega arith) (λ m j r. refl)

  step_given : (vs : List Value) (y : Configuration) (node : ℕ) (a : Value) (o : Option ℕ) → step_at c.nodes node ≡ o → IsGiven (frame.Count (count_loop.Limit node a)) vs y → Arrives c (taken_up (step_next node a (first vs) o) y)
  unfolding step_of
  step_given vs y node a None e h = pushes c h (frame.Count (count_loop.Step node a (first vs))) (mode.Give (value.Int (pos 1) ∷ [])) y refl (omega arith) (omega arith) (λ m j r. rw e refl)
  step_given vs y node a (Some i) e h = pushes c h (frame.Count (count_loop.Step node a (first vs))) (mode.Begin i) y refl (omega arith) (omega arith) (λ m j r. rw e refl)

  and_given : (vs : List Value) (y : Configuration) (node right : ℕ) (holds : Bool) →
      Runs c 1 0 y.heap.used y.frames (λ m j r. (if holds then only_first (runs_of m j right) else go (first vs ∷ [])) (as_store c y) r) → Arrives c (taken_up (logic_given logic_op.And holds node right (first vs)) y)
  and_given vs y node right true h = pushes c h (frame.Operand operand.Only) (mode.Begin right) y refl (omega arith) (omega arith) (λ m j r. refl)
  and_given vs y node right false h = settles c h (mode.Give (first vs ∷ [])) y (omega arith) (omega arith) (λ m j r. refl)

  or_given : (vs : List Value) (y : Configuration) (node right : ℕ) (holds : Bool) →
      Runs c 1 0 y.heap.used y.frames (λ m j r. (if holds then go (first vs ∷ []) else only_first (runs_of m j right)) (as_store c y) r) → Arrives c (taken_up (logic_given logic_op.Or holds node right (first vs)) y)
  or_given vs y node right true h = settles c h (mode.Give (first vs ∷ [])) y (omega arith) (omega arith) (λ m j r. refl)
  or_given vs y node right false h = pushes c h (frame.Operand operand.Only) (mode.Begin right) y refl (omega arith) (omega arith) (λ m j r. refl)

  logic_given_by : (vs : List Value) (y : Configuration) (node right : ℕ) (op : LogicOp) →
      Runs c 1 0 y.heap.used y.frames (λ m j r. logic op (first vs) (runs_of m j right) (as_store c y) r) → Arrives c (taken_up (logic_given op (truth (first vs)) node right (first vs)) y)
  logic_given_by vs y node right logic_op.And h = and_given vs y node right (truth (first vs)) h
  logic_given_by vs y node right logic_op.Or h = or_given vs y node right (truth (first vs)) h

  -- the function of a `local function` is stored as a list of one value is
  stored_alone : (m j : ℕ) (v : ℕ) (o : Option Slot) (a : Value) (lines : List ℕ) (s : Store H) (r : Resumptions H) → store_one c.code (jobs_of m j) (slot_target v o) a lines s r ≡ after (store_one c.code (jobs_of m j) (slot_target v o) a lines s r) (λ d. go [])
  stored_alone m j v None a lines s r = refl
  stored_alone m j v (Some (slot.Held x)) a lines s r = refl
  stored_alone m j v (Some (slot.Cell i)) a lines s r = refl

  pub arrives_given : (f : Frame) (vs : List Value) (y : Configuration) → IsGiven f vs y → Arrives c (taken_up (frame_given c.nodes c.code y.call.locals f vs) y)
  arrives_given (frame.Body (body.Statements block next outer)) vs y h = statement_given vs y block next outer (slice_get (list_at c.nodes block) next) refl h
  arrives_given (frame.Body (body.Open block next outer)) vs y h = open_given vs y block next outer (slice_get (list_at c.nodes block) next) refl h
  arrives_given (frame.Body (body.Caller call)) vs y h = settles c h (mode.Give []) (with_call call y) (omega arith) (omega arith) (λ m j r. refl)
  arrives_given (frame.Locals node next ws) vs y h = local_given vs ws y node next (slice_get (list_at c.nodes node) next) refl h
  arrives_given (frame.Assign (assign.Object node next index ts)) vs y h = pushes c h (frame.Assign (assign.Key node next ts (first vs))) (mode.Begin (key_at c.nodes index)) y refl (omega arith) (omega arith) (λ m j r. refl)
  arrives_given (frame.Assign (assign.Key node next ts object)) vs y h = settles c h (mode.Targets node next (ts ++ target.Entry object (first vs) ∷ [])) y (omega arith) (omega arith) (λ m j r. refl)
  arrives_given (frame.Assign (assign.Values node next ts ws)) vs y h = value_given vs ws y node next ts (slice_get (list_at c.nodes node) next) refl h
  arrives_given (frame.Assign (assign.Stores node ts ws)) vs y h = settles c h (mode.Stores node ts ws) y (omega arith) (omega arith) (λ m j r. refl)
  arrives_given (frame.Assign (assign.Function node)) vs y h = settles c h (mode.Stores node (slot_target (c.code.first_variable node) (slot_of y.call.locals (c.code.first_variable node)) ∷ []) (first vs ∷ [])) y (omega arith) (omega arith)
      (λ m j r. stored_alone m j (c.code.first_variable node) (slot_of y.call.locals (c.code.first_variable node)) (first vs) (at_line (line_number c.nodes node) (as_store c y)) (as_store c y) r)
  arrives_given (frame.Callee (callee.Function node)) vs y h = function_given vs y node (slice_get (list_at c.nodes node) 0) refl h
  arrives_given (frame.Callee (callee.Receiver node)) vs y h = pushes c h (frame.Callee (callee.Method node (first vs))) (mode.Look node (first vs) (value.Text (name_there c.nodes node))) y refl (omega arith) (omega arith) (λ m j r. refl)
  arrives_given (frame.Callee (callee.Method node receiver)) vs y h = method_given vs y node receiver (slice_get (list_at c.nodes node) 0) refl h
  arrives_given (frame.Args node next f ws) vs y h = argument_given vs ws y node next f (slice_get (list_at c.nodes node) next) refl h
  arrives_given (frame.If node k) vs y h = test_given vs y node k (slice_get (blocks_at c.nodes node) k) refl h
  arrives_given (frame.While (while_loop.Test node outer)) vs y h = while_by y node outer (truth (first vs)) h
  arrives_given (frame.While (while_loop.Turn node outer)) vs y h = settles c h (mode.Turn node outer) y (omega arith) (omega arith) (λ m j r. refl)
  arrives_given (frame.Repeat (repeat_loop.Turn node outer before)) vs y h = pushes c h (frame.Repeat (repeat_loop.Test node outer before)) (mode.Begin (test_at c.nodes node)) y refl (omega arith) (omega arith) (λ m j r. refl)
  arrives_given (frame.Repeat (repeat_loop.Test node outer before)) vs y h = repeat_by y node outer before (truth (first vs)) h
  arrives_given (frame.Count (count_loop.First node)) vs y h = pushes c h (frame.Count (count_loop.Limit node (first vs))) (mode.Begin (limit_at c.nodes node)) y refl (omega arith) (omega arith) (λ m j r. refl)
  arrives_given (frame.Count (count_loop.Limit node a)) vs y h = step_given vs y node a (step_at c.nodes node) refl h
  arrives_given (frame.Count (count_loop.Step node a b)) vs y h = settles c h (mode.Start node a b (first vs)) y (omega arith) (omega arith) (λ m j r. refl)
  arrives_given (frame.Count (count_loop.Turn node at to step outer before)) vs y h = count_by_number y node (at +ℤ step) to step outer before (fits (at +ℤ step)) h
  arrives_given (frame.Each (each_loop.Values node next ws)) vs y h = each_given vs ws y node next (slice_get (list_at c.nodes node) next) refl h
  arrives_given (frame.Each (each_loop.Next node f state outer)) vs y h = settles c h (mode.Each node f state outer vs) y (omega arith) (omega arith) (λ m j r. refl)
  arrives_given (frame.Each (each_loop.Turn node f state control outer before)) vs y h = settles c h (mode.Next node f state control outer) (cut before y) (omega arith) (omega arith) (λ m j r. refl)
  arrives_given (frame.Table (table.Item node next t count)) vs y h = settles c h (mode.Items node next t count vs) y (omega arith) (omega arith) (λ m j r. refl)
  arrives_given (frame.Table (table.Key node next t count v)) vs y h = pushes c h (frame.Table (table.Entry node next t count (first vs))) (mode.Begin v) y refl (omega arith) (omega arith) (λ m j r. refl)
  arrives_given (frame.Table (table.Entry node next t count key)) vs y h = settles c h (mode.Entry node next t count key (first vs)) y (omega arith) (omega arith) (λ m j r. refl)
  arrives_given (frame.Operand (operand.Left node)) vs y h = pushes c h (frame.Operand (operand.Right node (first vs))) (mode.Begin (right_at c.nodes node)) y refl (omega arith) (omega arith) (λ m j r. refl)
  arrives_given (frame.Operand (operand.Right node a)) vs y h = settles c h (mode.Binary node a (first vs)) y (omega arith) (omega arith) (λ m j r. refl)
  arrives_given (frame.Operand (operand.Logic node)) vs y h = logic_given_by vs y node (right_at c.nodes node) (logic_at c.nodes node) h
  arrives_given (frame.Operand (operand.One node)) vs y h = settles c h (mode.Unary node (first vs)) y (omega arith) (omega arith) (λ m j r. refl)
  arrives_given (frame.Operand operand.Only) vs y h = settles c h (mode.Give (first vs ∷ [])) y (omega arith) (omega arith) (λ m j r. refl)
  arrives_given (frame.Operand (operand.Object node)) vs y h = pushes c h (frame.Operand (operand.Key node (first vs))) (mode.Begin (key_at c.nodes node)) y refl (omega arith) (omega arith) (λ m j r. refl)
  arrives_given (frame.Operand (operand.Key node object)) vs y h = settles c h (mode.Look node object (first vs)) y (omega arith) (omega arith) (λ m j r. refl)
  arrives_given (frame.Operand (operand.Metamethod op negated)) vs y h = settles c h (mode.Give (told_of op (negated_if negated (first vs)) ∷ [])) y (omega arith) (omega arith) (λ m j r. refl)
  arrives_given (frame.Return node next ws) vs y h = result_given vs ws y node next (slice_get (list_at c.nodes node) next) refl h
  arrives_given (frame.Native (native.Waits a lines call)) vs y h = settles c h (mode.Made a lines vs) (with_call call y) (omega arith) (omega arith) (λ m j r. refl)
  arrives_given (frame.Native (native.Yields lines call)) vs y h = settles c h (mode.Results lines vs) (with_call call y) (omega arith) (omega arith) (λ m j r. refl)
  arrives_given (frame.Native (native.Resumes wrapped lines call under)) vs y h = settles c h (mode.Give vs) y (omega arith) (omega arith) (λ m j r. refl)
