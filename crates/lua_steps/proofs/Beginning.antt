-- Each node begins as it means.
use Rattle.std.proofs.Common.{◌≡◌, ◌∙◌, ℕ, List, [], ◌∷◌, length, drop, Bool, true, false, Option, Some, None, slice_get, option_map, refl, sym, ap, arith}
use Rattle.zc_budget.specs.Used.{is_over}
use Rattle.zc_budget.specs.declared.budget.Stop.TheVariants as stop
use Rattle.lua_ast.specs.declared.node.Node.{Node}
use Rattle.lua_ast.specs.declared.node.Node.TheVariants as node
use Rattle.lua_ast.specs.declared.node.BinOp.{BinOp}
use Rattle.lua_ast.specs.declared.node.Field.{Field}
use Rattle.lua_ast.specs.declared.node.LinedNode.{LinedNode}
use Rattle.lua_ast.specs.Tree.{Tree}
use Rattle.lua_ast.specs.Decode.{node_tree, list_of, cases_of, maybe_of, fields_of}
use Rattle.lua_meaning.specs.declared.value.Value.{Value}
use Rattle.lua_meaning.specs.declared.value.Value.TheVariants as value
use Rattle.lua_meaning.specs.declared.variable.Slot.{Slot}
use Rattle.lua_meaning.specs.declared.variable.Slot.TheVariants as slot
use Rattle.lua_meaning.specs.Values.{first, of_literal}
use Rattle.lua_meaning.specs.Numbers.{to_int}
use Rattle.lua_meaning.specs.Heap.{ClosureOf, table_bytes, with_table, closure_bytes, with_closure}
use Rattle.lua_meaning.specs.Store.{Store, Resumptions, Breaks, Jumps, Returns, call_of, heap_of, with_heap as with_heap_in}
use Rattle.lua_meaning.specs.Runs.{Run, go, halt, after, tick, charge_by, at_line, if_few, new_table}
use Rattle.lua_meaning.specs.Locals.{locals_of, slot_of, cells_in, local_count, named, slot_value as slot_value_in, declare, declare_all}
use Rattle.lua_meaning.specs.Jobs.{Again, Turn, Round, Each}
use Rattle.lua_meaning.specs.Operators.{binary, unary}
use Rattle.lua_meaning.specs.Indexing.{look}
use Rattle.lua_meaning.specs.Nodes.{eval, statements, expressions, targets_of, choose, maybe_eval, step_of, all_fields, closed, landed, loop_ends, logic, store_one, store_all, slot_target, start_count, closure_of, call}
use Rattle.lua_values.specs.Charges.{paid}
use Rattle.lua_coroutines.specs.declared.frame.Frame.TheVariants as frame
use Rattle.lua_coroutines.specs.declared.frame.BodyFrame.TheVariants as body
use Rattle.lua_coroutines.specs.declared.frame.AssignFrame.TheVariants as assign
use Rattle.lua_coroutines.specs.declared.frame.CalleeFrame.TheVariants as callee
use Rattle.lua_coroutines.specs.declared.frame.WhileFrame.TheVariants as while_loop
use Rattle.lua_coroutines.specs.declared.frame.CountFrame.TheVariants as count_loop
use Rattle.lua_coroutines.specs.declared.frame.EachFrame.TheVariants as each_loop
use Rattle.lua_coroutines.specs.declared.frame.OperandFrame.TheVariants as operand
use Rattle.lua_steps.specs.declared.mode.Mode.TheVariants as mode
use Rattle.lua_steps.specs.Parts.{part, line_number, list_at, name_count_at, targets_at, block_at, limit_at, step_at, key_at, name_there, right_at, binary_at, more, begin_all, targets_from}
use Rattle.lua_steps.specs.Frames.{jobs_at, runs, goes_on, values_for, targets_then, begin_each}
use Rattle.lua_steps.specs.Starts.{IsNode}
use Rattle.lua_steps.specs.Configuration.{Configuration, with_heap, with_tick, with_frame}
use Rattle.lua_steps.specs.Effects.{declared}
use Rattle.lua_steps.specs.Machine.{slot_value, name_value, table_by, closure_by, function_made, if_begun, node_begun, begun, step}
use Rattle.lua_steps.specs.Keeping.{AreTrees}
use Rattle.lua_steps.proofs.Lists.{statements_are, expressions_are, targets_are, cases_are, fields_are}
use Rattle.lua_steps.proofs.NodeTrees.{tree_missing}
use Rattle.lua_steps.proofs.Arriving.{Setting, as_it_is, as_it_is_passes, as_store, Runs, Arrives, turned, settles, pushes, pays, ticks}
use Rattle.lua_steps.proofs.Storing.{declared_in, declares, says_one}
use Rattle.lua_steps.proofs.Givens.{otherwise_arrives}

module _ {H : Type 0} (c : Setting H) where
  abbrev jobs_of : ℕ → ℕ → Again H
  jobs_of m j = jobs_at c.host c.code c.nodes m j

  abbrev tree_of : ℕ → Tree
  tree_of i = part c.nodes i

  abbrev runs_of : ℕ → ℕ → ℕ → Run H
  runs_of m j i = runs c.host c.code c.nodes m j i

  -- what a node does after its instruction
  abbrev inside : (i l m j : ℕ) → Node → Run H
  inside i l m j (node.Block stats) = λ s r. closed (local_count s) (landed c.code (jobs_of m j) (list_of tree_of stats) (local_count s) (statements c.code (jobs_of m j) (list_of tree_of stats) (go []) s r))
  inside i l m j (node.Local names exps) = expressions c.code (jobs_of m j) (list_of tree_of exps) (λ vs. declare_all c.code (c.code.first_variable i) (length names) vs (go []))
  inside i l m j (node.Assign targets exps) = targets_of c.code (jobs_of m j) (list_of tree_of targets) (λ ts. expressions c.code (jobs_of m j) (list_of tree_of exps) (λ vs. store_all c.code (jobs_of m j) ts vs l))
  inside i l m j (node.CallStat inner) = runs_of m j inner
  inside i l m j (node.Do block) = runs_of m j block
  inside i l m j (node.While test block) = λ s r. loop_ends (local_count s) (tick (jobs_of m j (Turn (tree_of test) (tree_of block))) s r)
  inside i l m j (node.Repeat block test) = λ s r. loop_ends (local_count s) (tick (jobs_of m j (Round (tree_of block) (tree_of test))) s r)
  inside i l m j (node.If tests blocks otherwise) = choose c.code (jobs_of m j) (cases_of tree_of tests blocks) (maybe_eval c.code (jobs_of m j) (maybe_of tree_of otherwise))
  inside i l m j (node.NumFor name begin limit by block) = λ s r. after (runs_of m j begin s r) (λ a s r. after (runs_of m j limit s r) (λ b s r. after (step_of c.code (jobs_of m j) (maybe_of tree_of by) s r) (λ d s r.
      loop_ends (local_count s) (start_count c.code (jobs_of m j) (c.code.first_variable i) (tree_of block) (to_int (first a)) (to_int (first b)) (to_int (first d)) (at_line l s) s r))))
  inside i l m j (node.GenFor names exps block) = expressions c.code (jobs_of m j) (list_of tree_of exps) (λ vs s r.
      loop_ends (local_count s) (tick (jobs_of m j (Each (c.code.first_variable i) (length names) (tree_of block) (first vs) (first (drop 1 vs)) (first (drop 2 vs)) l)) s r))
  inside i l m j (node.LocalFunction name function) = declare c.code (c.code.first_variable i) value.Nil (λ s r. after (runs_of m j function s r) (λ vs s r.
      store_one c.code (jobs_of m j) (slot_target (c.code.first_variable i) (slot_of (locals_of s) (c.code.first_variable i))) (first vs) (at_line l s) s r))
  inside i l m j (node.Return exps) = expressions c.code (jobs_of m j) (list_of tree_of exps) (λ vs s. if_few (at_line l s) vs (halt (Returns vs)) s)
  inside i l m j node.Break = halt Breaks
  inside i l m j (node.Goto label) = halt (Jumps label)
  inside i l m j (node.Label label) = go []
  inside i l m j (node.Const v) = go (of_literal v ∷ [])
  inside i l m j node.Vararg = λ s. go (call_of s).varargs s
  inside i l m j (node.Function params vararg block) = λ s. closure_of i (cells_in (locals_of s) (c.code.captured i)) s
  inside i l m j (node.Name name) = λ s. go (named (c.code.variable i) name s ∷ []) s
  inside i l m j (node.Index object key) = λ s r. after (runs_of m j object s r) (λ o s r. after (runs_of m j key s r) (λ k s. look (jobs_of m j) (first o) (first k) (at_line l s) s))
  inside i l m j (node.Call function args) = λ s r. after (runs_of m j function s r) (λ f. expressions c.code (jobs_of m j) (list_of tree_of args) (λ vs s. call c.code (jobs_of m j) (first f) vs (at_line l s) s))
  inside i l m j (node.Method object name args) = λ s r. after (runs_of m j object s r) (λ o s r. after (look (jobs_of m j) (first o) (value.Text name) (at_line l s) s r) (λ f.
      expressions c.code (jobs_of m j) (list_of tree_of args) (λ vs s. call c.code (jobs_of m j) (first f) (first o ∷ vs) (at_line l s) s)))
  inside i l m j (node.Binary op left right) = λ s r. after (runs_of m j left s r) (λ a s r. after (runs_of m j right s r) (λ b s. binary (jobs_of m j) op (first a) (first b) (at_line l s) s))
  inside i l m j (node.Logic op left right) = λ s r. after (runs_of m j left s r) (λ a. logic op (first a) (runs_of m j right))
  inside i l m j (node.Unary op one) = λ s r. after (runs_of m j one s r) (λ a s. unary (jobs_of m j) op (first a) (at_line l s) s)
  inside i l m j (node.Paren inner) = λ s r. after (runs_of m j inner s r) (λ vs. go (first vs ∷ []))
  inside i l m j (node.Table fields) = new_table (λ t. all_fields c.code (jobs_of m j) (fields_of tree_of fields) t l (go (value.Table t ∷ [])))

  is_ticked : (i l m j : ℕ) (n : Node) (s : Store H) (r : Resumptions H) → eval c.code (jobs_of m j) (node_tree tree_of i l n) s r ≡ tick (inside i l m j n) s r
  unfolding eval
  is_ticked i l m j node.Break s r = refl
  is_ticked i l m j n s r = refl

  -- what is left after the instruction of a node
  abbrev Ticked : (i l : ℕ) → Node → Configuration → Type 0
  Ticked i l n y = Runs c 1 1 y.heap.used y.frames (λ m j r. inside i l m j n (as_store c y) r)

  slot_is : (o : Option Slot) (x : Configuration) → slot_value_in o (as_store c x) ≡ slot_value o x.heap
  slot_is None x = refl
  slot_is (Some (slot.Held v)) x = refl
  slot_is (Some (slot.Cell i)) x = refl

  name_is : (v : Option ℕ) (name : List ℕ) (x : Configuration) → named v name (as_store c x) ≡ name_value v name x
  name_is None name x = refl
  name_is (Some v) name x = slot_is (slot_of x.call.locals v) x

  closure_begins : (cl : ClosureOf) (y : Configuration) (over : Bool) → is_over (closure_bytes (length cl.cells)) y.heap.used ≡ over →
      Runs c 1 1 y.heap.used y.frames (λ m j r. charge_by over (closure_bytes (length cl.cells)) (λ s. go (value.Closure (length (heap_of s).closures) ∷ []) (with_heap_in (with_closure (heap_of s) cl) s)) (as_store c y) r) → Arrives c (closure_by over cl y)
  closure_begins cl y true e h = settles c h (mode.Stopped stop.Memory) y (omega arith) (omega arith) (λ m j r. refl)
  closure_begins cl y false e h = settles c (pays c h (closure_bytes (length cl.cells)) e) (mode.Give (value.Closure (length y.heap.closures) ∷ [])) (with_heap (with_closure (paid (closure_bytes (length cl.cells)) y.heap) cl) y) (omega arith) (omega arith) (λ m j r. refl)

  function_begins : (i : ℕ) (cells : Option (List ℕ)) (y : Configuration) → Runs c 1 1 y.heap.used y.frames (λ m j r. closure_of i cells (as_store c y) r) → Arrives c (function_made i cells y)
  function_begins i None y h = settles c h (mode.Give (value.Nil ∷ [])) y (omega arith) (omega arith) (λ m j r. refl)
  function_begins i (Some cells) y h = closure_begins (record { function = i; cells = cells }) y (is_over (closure_bytes (length cells)) y.heap.used) refl h

  table_begins : (i l : ℕ) (fs : List Field) (y : Configuration) (there : IsNode c.nodes i (node.Table fs)) → there.line ≡ l → (over : Bool) → is_over table_bytes y.heap.used ≡ over →
      Runs c 1 1 y.heap.used y.frames (λ m j r. charge_by over table_bytes (λ s. all_fields c.code (jobs_of m j) (fields_of tree_of fs) (length (heap_of s).tables) l (go (value.Table (length (heap_of s).tables) ∷ [])) (with_heap_in (with_table (heap_of s)) s)) (as_store c y) r) → Arrives c (table_by over i y)
  table_begins i l fs y there e true over h = settles c h (mode.Stopped stop.Memory) y (omega arith) (omega arith) (λ m j r. refl)
  table_begins i l fs y there e false over h = settles c (pays c h table_bytes over) (mode.Fields i 0 (length y.heap.tables) 1) (with_heap (with_table (paid table_bytes y.heap)) y) (omega arith) (omega arith)
      (λ m j r. fields_are c.code (jobs_of m j) tree_of fs (length y.heap.tables) l (go (value.Table (length y.heap.tables) ∷ [])) (as_store c (with_heap (with_table (paid table_bytes y.heap)) y)) r ∙ rw there.there (rw e refl))

  if_begins : (i : ℕ) (tests blocks : List ℕ) (otherwise : Option ℕ) (y : Configuration) → (there : IsNode c.nodes i (node.If tests blocks otherwise)) → Ticked i there.line (node.If tests blocks otherwise) y → Arrives c (if_begun i (slice_get tests 0) (slice_get blocks 0) otherwise y)
  if_begins i [] blocks otherwise y there h = otherwise_arrives c y otherwise (turned c h (λ m j r. maybe_eval c.code (jobs_of m j) (maybe_of tree_of otherwise) (as_store c y) r) (λ m j r. cases_are c.code (jobs_of m j) tree_of [] blocks (maybe_eval c.code (jobs_of m j) (maybe_of tree_of otherwise)) (as_store c y) r))
  if_begins i (t ∷ ts) [] otherwise y there h = otherwise_arrives c y otherwise (turned c h (λ m j r. maybe_eval c.code (jobs_of m j) (maybe_of tree_of otherwise) (as_store c y) r) (λ m j r. cases_are c.code (jobs_of m j) tree_of (t ∷ ts) [] (maybe_eval c.code (jobs_of m j) (maybe_of tree_of otherwise)) (as_store c y) r))
  if_begins i (t ∷ ts) (b ∷ bs) otherwise y there h = pushes c h (frame.If i 0) (mode.Begin t) y refl (omega arith) (omega arith)
      (λ m j r. cases_are c.code (jobs_of m j) tree_of (t ∷ ts) (b ∷ bs) (maybe_eval c.code (jobs_of m j) (maybe_of tree_of otherwise)) (as_store c y) r ∙ rw there.there refl)

  assigns : (i : ℕ) (targets exps : List ℕ) (y : Configuration) (there : IsNode c.nodes i (node.Assign targets exps)) (m j : ℕ) (r : Resumptions H) →
      inside i there.line m j (node.Assign targets exps) (as_store c y) r ≡ targets_then c.host c.code c.nodes m j i 0 [] (as_store c y) r
  assigns i targets exps y there m j r =
      let targets_are_these : targets_at c.nodes i ≡ targets = rw there.there refl in
      let values_are_these : list_at c.nodes i ≡ exps = rw there.there refl in
      let line_is : line_number c.nodes i ≡ there.line = rw there.there refl in
      targets_are c.code (jobs_of m j) tree_of targets (λ ts. expressions c.code (jobs_of m j) (list_of tree_of exps) (λ vs. store_all c.code (jobs_of m j) ts vs there.line)) (as_store c y) r
      ∙ ap (λ es. targets_from c.code (jobs_of m j) tree_of [] targets (λ ts. expressions c.code (jobs_of m j) (list_of tree_of es) (λ vs. store_all c.code (jobs_of m j) ts vs there.line)) (as_store c y) r) (sym values_are_these)
      ∙ ap (λ l. targets_from c.code (jobs_of m j) tree_of [] targets (λ ts. expressions c.code (jobs_of m j) (list_of tree_of (list_at c.nodes i)) (λ vs. store_all c.code (jobs_of m j) ts vs l)) (as_store c y) r) (sym line_is)
      ∙ ap (λ is. targets_from c.code (jobs_of m j) tree_of [] is (values_for c.host c.code c.nodes m j i) (as_store c y) r) (sym targets_are_these)

  -- the three numbers of a loop, and then its turns
  abbrev count_with : (i begin limit : ℕ) (by : Option ℕ) (block l m j : ℕ) → Run H
  count_with i begin limit by block l m j s r = after (runs_of m j begin s r) (λ a s r. after (runs_of m j limit s r) (λ b s r. after (step_of c.code (jobs_of m j) (maybe_of tree_of by) s r) (λ d s r.
      loop_ends (local_count s) (start_count c.code (jobs_of m j) (c.code.first_variable i) (tree_of block) (to_int (first a)) (to_int (first b)) (to_int (first d)) (at_line l s) s r))))

  counts_from : (i : ℕ) (name : List ℕ) (begin limit : ℕ) (by : Option ℕ) (block : ℕ) (y : Configuration) (there : IsNode c.nodes i (node.NumFor name begin limit by block)) (m j : ℕ) (r : Resumptions H) →
      inside i there.line m j (node.NumFor name begin limit by block) (as_store c y) r ≡ goes_on c.host c.code c.nodes m j (frame.Count (count_loop.First i)) (runs_of m j begin (as_store c y) r)
  counts_from i name begin limit by block y there m j r =
      let limit_is : limit_at c.nodes i ≡ limit = rw there.there refl in
      let step_is : step_at c.nodes i ≡ by = rw there.there refl in
      let block_is : block_at c.nodes i ≡ block = rw there.there refl in
      let line_is : line_number c.nodes i ≡ there.line = rw there.there refl in
      ap (λ z. count_with i begin z by block there.line m j (as_store c y) r) (sym limit_is)
      ∙ ap (λ z. count_with i begin (limit_at c.nodes i) z block there.line m j (as_store c y) r) (sym step_is)
      ∙ ap (λ z. count_with i begin (limit_at c.nodes i) (step_at c.nodes i) z there.line m j (as_store c y) r) (sym block_is)
      ∙ ap (λ z. count_with i begin (limit_at c.nodes i) (step_at c.nodes i) (block_at c.nodes i) z m j (as_store c y) r) (sym line_is)

  -- the values of `in`, and then the turns
  abbrev each_in : (i count block l m j : ℕ) → List Value → Run H
  each_in i count block l m j vs s r = loop_ends (local_count s) (tick (jobs_of m j (Each (c.code.first_variable i) count (tree_of block) (first vs) (first (drop 1 vs)) (first (drop 2 vs)) l)) s r)

  eaches : (i : ℕ) (names : List (List ℕ)) (block : ℕ) (exps : List ℕ) (there : IsNode c.nodes i (node.GenFor names exps block)) (m j : ℕ) (s : Store H) (r : Resumptions H) →
      inside i there.line m j (node.GenFor names exps block) s r ≡ begin_all c.code (jobs_of m j) tree_of [] exps (begin_each c.host c.code c.nodes m j i) s r
  eaches i names block exps there m j s r =
      let count_is : name_count_at c.nodes i ≡ length names = rw there.there refl in
      let block_is : block_at c.nodes i ≡ block = rw there.there refl in
      let line_is : line_number c.nodes i ≡ there.line = rw there.there refl in
      ap (λ z. expressions c.code (jobs_of m j) (list_of tree_of exps) (each_in i z block there.line m j) s r) (sym count_is)
      ∙ ap (λ z. expressions c.code (jobs_of m j) (list_of tree_of exps) (each_in i (name_count_at c.nodes i) z there.line m j) s r) (sym block_is)
      ∙ ap (λ z. expressions c.code (jobs_of m j) (list_of tree_of exps) (each_in i (name_count_at c.nodes i) (block_at c.nodes i) z m j) s r) (sym line_is)
      ∙ expressions_are c.code (jobs_of m j) tree_of exps (begin_each c.host c.code c.nodes m j i) s r

  each_begins : (i : ℕ) (names : List (List ℕ)) (block : ℕ) (exps : List ℕ) (y : Configuration) → (there : IsNode c.nodes i (node.GenFor names exps block)) → Ticked i there.line (node.GenFor names exps block) y → Arrives c (node_begun c.nodes c.code i (node.GenFor names exps block) y)
  each_begins i names block [] y there h = pushes c h (frame.Each (each_loop.Values i 0 [])) (mode.Give []) y refl (omega arith) (omega arith)
      (λ m j r. (let list_is : list_at c.nodes i ≡ [] = rw there.there refl in eaches i names block [] there m j (as_store c y) r ∙ ap (λ is. more c.code (jobs_of m j) tree_of [] is (begin_each c.host c.code c.nodes m j i) [] (as_store c y) r) (sym list_is)))
  each_begins i names block (e ∷ es) y there h = pushes c h (frame.Each (each_loop.Values i 1 [])) (mode.Begin e) y refl (omega arith) (omega arith)
      (λ m j r. (let list_is : list_at c.nodes i ≡ e ∷ es = rw there.there refl in eaches i names block (e ∷ es) there m j (as_store c y) r ∙ ap (λ is. after (runs_of m j e (as_store c y) r) (more c.code (jobs_of m j) tree_of [] (drop 1 is) (begin_each c.host c.code c.nodes m j i))) (sym list_is)))

  abbrev index_with : (object key l m j : ℕ) → Run H
  index_with object key l m j s r = after (runs_of m j object s r) (λ o s r. after (runs_of m j key s r) (λ k s. look (jobs_of m j) (first o) (first k) (at_line l s) s))

  abbrev call_of_args : (function : ℕ) (args : List ℕ) (l m j : ℕ) → Run H
  call_of_args function args l m j s r = after (runs_of m j function s r) (λ f. expressions c.code (jobs_of m j) (list_of tree_of args) (λ vs s. call c.code (jobs_of m j) (first f) vs (at_line l s) s))

  abbrev method_of_args : (object : ℕ) (name args : List ℕ) (l m j : ℕ) → Run H
  method_of_args object name args l m j s r = after (runs_of m j object s r) (λ o s r. after (look (jobs_of m j) (first o) (value.Text name) (at_line l s) s r) (λ f.
      expressions c.code (jobs_of m j) (list_of tree_of args) (λ vs s. call c.code (jobs_of m j) (first f) (first o ∷ vs) (at_line l s) s)))

  abbrev binary_with : (op : BinOp) (left right l m j : ℕ) → Run H
  binary_with op left right l m j s r = after (runs_of m j left s r) (λ a s r. after (runs_of m j right s r) (λ b s. binary (jobs_of m j) op (first a) (first b) (at_line l s) s))

  node_begins : (i : ℕ) (n : Node) (y : Configuration) → (there : IsNode c.nodes i n) → Ticked i there.line n y → Arrives c (node_begun c.nodes c.code i n y)
  node_begins i (node.Block stats) y there h = pushes c h (frame.Body (body.Statements i 0 (length y.call.locals))) (mode.Give []) y refl (omega arith) (omega arith)
      (λ m j r. rw there.there (ap (λ o. closed (length y.call.locals) (landed c.code (jobs_of m j) (list_of tree_of stats) (length y.call.locals) o)) (statements_are c.code (jobs_of m j) tree_of stats (go []) (as_store c y) r)))
  node_begins i (node.Local names []) y there h = pushes c h (frame.Locals i 0 []) (mode.Give []) y refl (omega arith) (omega arith) (λ m j r. expressions_are c.code (jobs_of m j) tree_of [] (λ vs. declare_all c.code (c.code.first_variable i) (length names) vs (go [])) (as_store c y) r ∙ rw there.there refl)
  node_begins i (node.Local names (e ∷ es)) y there h = pushes c h (frame.Locals i 1 []) (mode.Begin e) y refl (omega arith) (omega arith) (λ m j r. expressions_are c.code (jobs_of m j) tree_of (e ∷ es) (λ vs. declare_all c.code (c.code.first_variable i) (length names) vs (go [])) (as_store c y) r ∙ rw there.there refl)
  node_begins i (node.Assign targets exps) y there h = settles c h (mode.Targets i 0 []) y (omega arith) (omega arith) (λ m j r. assigns i targets exps y there m j r)
  node_begins i (node.CallStat inner) y there h = settles c h (mode.Begin inner) y (omega arith) (omega arith) (λ m j r. refl)
  node_begins i (node.Do block) y there h = settles c h (mode.Begin block) y (omega arith) (omega arith) (λ m j r. refl)
  node_begins i (node.While test block) y there h = pushes c h (frame.While (while_loop.Turn i (length y.call.locals))) (mode.Give []) y refl (omega arith) (omega arith) (λ m j r. rw there.there refl)
  node_begins i (node.Repeat block test) y there h = settles c h (mode.Round i (length y.call.locals)) y (omega arith) (omega arith) (λ m j r. rw there.there refl)
  node_begins i (node.If tests blocks otherwise) y there h = if_begins i tests blocks otherwise y there h
  node_begins i (node.NumFor name begin limit by block) y there h = pushes c h (frame.Count (count_loop.First i)) (mode.Begin begin) y refl (omega arith) (omega arith) (λ m j r. counts_from i name begin limit by block y there m j r)
  node_begins i (node.GenFor names exps block) y there h = each_begins i names block exps y there h
  node_begins i (node.LocalFunction name function) y there h =
      declares c y (declared c.code (c.code.first_variable i) value.Nil y.heap y.call.locals) (declare c.code (c.code.first_variable i) value.Nil) as_it_is
      (λ m j s r. after (runs_of m j function s r) (λ vs s r. store_one c.code (jobs_of m j) (slot_target (c.code.first_variable i) (slot_of (locals_of s) (c.code.first_variable i))) (first vs) (at_line there.line s) s r))
      (λ z. (mode.Begin function, with_frame (frame.Assign (assign.Function i)) z)) as_it_is_passes (says_one c (c.code.first_variable i) value.Nil y) h
      (λ h. pushes c h (frame.Assign (assign.Function i)) (mode.Begin function) (declared_in (declared c.code (c.code.first_variable i) value.Nil y.heap y.call.locals) y) refl (omega arith) (omega arith)
      (λ m j r. (let line_is : line_number c.nodes i ≡ there.line = rw there.there refl in
      ap (λ l. after (runs_of m j function (as_store c (declared_in (declared c.code (c.code.first_variable i) value.Nil y.heap y.call.locals) y)) r) (λ vs s r. store_one c.code (jobs_of m j) (slot_target (c.code.first_variable i) (slot_of (locals_of s) (c.code.first_variable i))) (first vs) (at_line l s) s r)) (sym line_is))))
  node_begins i (node.Return []) y there h = pushes c h (frame.Return i 0 []) (mode.Give []) y refl (omega arith) (omega arith) (λ m j r. expressions_are c.code (jobs_of m j) tree_of [] (λ vs s. if_few (at_line there.line s) vs (halt (Returns vs)) s) (as_store c y) r ∙ rw there.there refl)
  node_begins i (node.Return (e ∷ es)) y there h = pushes c h (frame.Return i 1 []) (mode.Begin e) y refl (omega arith) (omega arith) (λ m j r. expressions_are c.code (jobs_of m j) tree_of (e ∷ es) (λ vs s. if_few (at_line there.line s) vs (halt (Returns vs)) s) (as_store c y) r ∙ rw there.there refl)
  node_begins i node.Break y there h = settles c h mode.Break y (omega arith) (omega arith) (λ m j r. refl)
  node_begins i (node.Goto label) y there h = settles c h (mode.Jump i) y (omega arith) (omega arith) (λ m j r. rw there.there refl)
  node_begins i (node.Label label) y there h = settles c h (mode.Give []) y (omega arith) (omega arith) (λ m j r. refl)
  node_begins i (node.Const v) y there h = settles c h (mode.Give (of_literal v ∷ [])) y (omega arith) (omega arith) (λ m j r. refl)
  node_begins i node.Vararg y there h = settles c h (mode.Give y.call.varargs) y (omega arith) (omega arith) (λ m j r. refl)
  node_begins i (node.Function params vararg block) y there h = function_begins i (cells_in y.call.locals (c.code.captured i)) y h
  node_begins i (node.Name name) y there h = settles c h (mode.Give (name_value (c.code.variable i) name y ∷ [])) y (omega arith) (omega arith) (λ m j r. ap (λ v. go (v ∷ []) (as_store c y) r) (name_is (c.code.variable i) name y))
  node_begins i (node.Index object key) y there h = pushes c h (frame.Operand (operand.Object i)) (mode.Begin object) y refl (omega arith) (omega arith)
      (λ m j r. (let key_is : key_at c.nodes i ≡ key = rw there.there refl in let line_is : line_number c.nodes i ≡ there.line = rw there.there refl in
      ap (λ k. index_with object k there.line m j (as_store c y) r) (sym key_is) ∙ ap (λ l. index_with object (key_at c.nodes i) l m j (as_store c y) r) (sym line_is)))
  node_begins i (node.Call function args) y there h = pushes c h (frame.Callee (callee.Function i)) (mode.Begin function) y refl (omega arith) (omega arith)
      (λ m j r. (let args_are : list_at c.nodes i ≡ args = rw there.there refl in let line_is : line_number c.nodes i ≡ there.line = rw there.there refl in
      ap (λ is. call_of_args function is there.line m j (as_store c y) r) (sym args_are) ∙ ap (λ l. call_of_args function (list_at c.nodes i) l m j (as_store c y) r) (sym line_is)))
  node_begins i (node.Method object name args) y there h = pushes c h (frame.Callee (callee.Receiver i)) (mode.Begin object) y refl (omega arith) (omega arith)
      (λ m j r. (let name_is : name_there c.nodes i ≡ name = rw there.there refl in let args_are : list_at c.nodes i ≡ args = rw there.there refl in let line_is : line_number c.nodes i ≡ there.line = rw there.there refl in
      ap (λ x. method_of_args object x args there.line m j (as_store c y) r) (sym name_is) ∙ ap (λ is. method_of_args object (name_there c.nodes i) is there.line m j (as_store c y) r) (sym args_are)
      ∙ ap (λ l. method_of_args object (name_there c.nodes i) (list_at c.nodes i) l m j (as_store c y) r) (sym line_is)))
  node_begins i (node.Binary op left right) y there h = pushes c h (frame.Operand (operand.Left i)) (mode.Begin left) y refl (omega arith) (omega arith)
      (λ m j r. (let op_is : binary_at c.nodes i ≡ op = rw there.there refl in let right_is : right_at c.nodes i ≡ right = rw there.there refl in let line_is : line_number c.nodes i ≡ there.line = rw there.there refl in
      ap (λ o. binary_with o left right there.line m j (as_store c y) r) (sym op_is) ∙ ap (λ k. binary_with (binary_at c.nodes i) left k there.line m j (as_store c y) r) (sym right_is)
      ∙ ap (λ l. binary_with (binary_at c.nodes i) left (right_at c.nodes i) l m j (as_store c y) r) (sym line_is)))
  node_begins i (node.Logic op left right) y there h = pushes c h (frame.Operand (operand.Logic i)) (mode.Begin left) y refl (omega arith) (omega arith) (λ m j r. rw there.there refl)
  node_begins i (node.Unary op one) y there h = pushes c h (frame.Operand (operand.One i)) (mode.Begin one) y refl (omega arith) (omega arith) (λ m j r. rw there.there refl)
  node_begins i (node.Paren inner) y there h = pushes c h (frame.Operand operand.Only) (mode.Begin inner) y refl (omega arith) (omega arith) (λ m j r. refl)
  node_begins i (node.Table fields) y there h = table_begins i there.line fields y there refl (is_over table_bytes y.heap.used) refl h

  begins_at : (trees : AreTrees c.nodes) (i : ℕ) (x : Configuration) (o : Option LinedNode) → slice_get c.nodes i ≡ o → Arrives c (mode.Begin i, x) → Arrives c (begun c.nodes c.code i (option_map (λ l. l.node) o) x)
  unfolding eval
  begins_at trees i x None e h = settles c h (mode.Give []) x (omega arith) (omega arith) (λ m j r. ap (λ t. eval c.code (jobs_of m j) t (as_store c x) r) (tree_missing c.nodes i e))
  begins_at trees i x (Some l) e h =
      ticks c x as_it_is (λ m j. inside i l.line m j l.node) (node_begun c.nodes c.code i l.node) as_it_is_passes
      (turned c h (λ m j r. tick (inside i l.line m j l.node) (as_store c x) r) (λ m j r. ap (λ t. eval c.code (jobs_of m j) t (as_store c x) r) (trees i l e) ∙ is_ticked i l.line m j l.node (as_store c x) r))
      (λ h. node_begins i l.node (with_tick x) (record { line = l.line; there = e; tree = trees i l e }) h)

  pub arrives_begin : (trees : AreTrees c.nodes) (i : ℕ) (x : Configuration) → Arrives c (mode.Begin i, x) → Arrives c (step c.nodes c.code (mode.Begin i) x)
  arrives_begin trees i x h = begins_at trees i x (slice_get c.nodes i) refl h
