-- After each step a machine holds numbers of its heap alone.
use Rattle.std.proofs.Common.{◌≡◌, ◌∙◌, ℕ, ◌+◌, ◌<◌, ℤ, List, [], ◌∷◌, ◌++◌, length, drop, Bool, true, false, Option, Some, None, slice_get, position, ◌==◌, refl, sym, subst, arith, All, length-append, length-set}
use Rattle.std.proofs.lemmas.List.Elements.{All-nil, All-cons, All-head, All-tail, All-push, All-set}
use Rattle.std.specs.Prelude.{⊤, nat_le, codes, if◌then◌else◌}
use Rattle.zc_budget.specs.Used.{is_over}
use Rattle.lua_ast.specs.declared.node.BinOp.{BinOp}
use Rattle.lua_ast.specs.declared.node.Literal.{Literal}
use Rattle.lua_ast.specs.declared.node.Literal.TheVariants as literal
use Rattle.lua_ast.specs.declared.node.Node.{Node}
use Rattle.lua_ast.specs.declared.node.Node.TheVariants as node
use Rattle.lua_ast.specs.declared.node.Field.{Field}
use Rattle.lua_ast.specs.declared.node.Field.TheVariants as field
use Rattle.lua_ast.specs.declared.node.LinedNode.{LinedNode}
use Rattle.lua_ast.specs.Decode.{node_at}
use Rattle.lua_meaning.specs.declared.value.Value.{Value}
use Rattle.lua_meaning.specs.declared.value.Value.TheVariants as value
use Rattle.lua_meaning.specs.declared.variable.Slot.{Slot}
use Rattle.lua_meaning.specs.declared.variable.Slot.TheVariants as slot
use Rattle.lua_meaning.specs.declared.variable.Target.{Target}
use Rattle.lua_meaning.specs.declared.variable.Target.TheVariants as target
use Rattle.lua_meaning.specs.declared.status.After.{After}
use Rattle.lua_meaning.specs.declared.status.After.TheVariants.{FirstThree, OneText}
use Rattle.lua_meaning.specs.Values.{first, is_function, of_literal, or_nil}
use Rattle.lua_meaning.specs.Numbers.{to_int}
use Rattle.lua_meaning.specs.Heap.{HeapOf, ClosureOf, cell_at, entry, metamethod, set_cell, table_bytes, no_table, with_table, closure_bytes, with_closure}
use Rattle.lua_meaning.specs.Code.{Code}
use Rattle.lua_meaning.specs.Runs.{attempt_text}
use Rattle.lua_meaning.specs.Locals.{Locals, slot_of, held_at, cell_in, with_front, cells_in, captured_locals}
use Rattle.lua_meaning.specs.Operators.{OpAnswer, Done, Meta, Raise, Stopped, binary_op, unary_op}
use Rattle.lua_meaning.specs.Indexing.{string_table}
use Rattle.lua_meaning.specs.Nodes.{makes_turn}
use Rattle.lua_meaning.specs.Calls.{varargs_of, body_call}
use Rattle.lua_values.specs.Charges.{paid}
use Rattle.lua_values.specs.Ids.{Ids, ids_of, AreLater, IsOf, IsOwnClosure, AreOwn}
use Rattle.lua_values.proofs.Own.{value_later, own_used}
use Rattle.lua_values.proofs.OwnTables.{at_some, own_entry}
use Rattle.lua_coroutines.specs.declared.frame.Frame.{Frame}
use Rattle.lua_coroutines.specs.declared.frame.Frame.TheVariants as frame
use Rattle.lua_coroutines.specs.declared.frame.BodyFrame.TheVariants as body
use Rattle.lua_coroutines.specs.declared.frame.AssignFrame.TheVariants as assign
use Rattle.lua_coroutines.specs.declared.frame.WhileFrame.TheVariants as while_loop
use Rattle.lua_coroutines.specs.declared.frame.RepeatFrame.TheVariants as repeat_loop
use Rattle.lua_coroutines.specs.declared.frame.CountFrame.TheVariants as count_loop
use Rattle.lua_coroutines.specs.declared.frame.EachFrame.TheVariants as each_loop
use Rattle.lua_coroutines.specs.declared.frame.TableFrame.TheVariants as table
use Rattle.lua_coroutines.specs.declared.frame.OperandFrame.TheVariants as operand
use Rattle.lua_steps.specs.declared.mode.Mode.{Mode}
use Rattle.lua_steps.specs.declared.mode.Mode.TheVariants as mode
use Rattle.lua_steps.specs.Parts.{list_at, name_count_at, targets_at, test_at, block_at, binary_at, unary_at, fields_at, no_field_left}
use Rattle.lua_steps.specs.Frames.{inner_of, told_of}
use Rattle.lua_steps.specs.Configuration.{Configuration, with_heap, with_call, with_frames, with_frame, with_tick, ticking}
use Rattle.lua_steps.specs.Given.{frame_given}
use Rattle.lua_steps.specs.Passed.{returned, broken, jumped}
use Rattle.lua_steps.specs.Effects.{declared, declared_all, put_in, put_all, if_few, operated, operating}
use Rattle.lua_steps.specs.Machine.{declaring, slot_value, name_value, name_target, table_by, closure_by, function_made, if_begun, if_room, is_block_node, looked_in, put_where, lines_at, index_by, found_by, looking, put_plain, new_index_by, put_by_found, put_where_found, storing, values_begun, field_begun, items_of, start_by, made_by, call_by, target_begun, target_next, counted_by, each_by, entered_node, entered, called, node_begun, begun, given_top, left_top, broken_top, jumped_top, step}
use Rattle.lua_steps.specs.Own.{AreOf, IsOwnLocal, IsOwnTarget, IsOwnFrame, IsOwnMode, AreOfHeap, IsOwnNext}
use Rattle.lua_steps.proofs.Later.{values_later, call_later, targets_later}
use Rattle.lua_steps.proofs.OwnGiven.{first_own, none_own, one_own, drop_own, otherwise_own, told_own, IsOwnFound, found_own, slot_own, given_own, returned_own, broken_own, jumped_own}
use Rattle.lua_steps.proofs.OwnOperators.{IsOwnAnswer, two_own, metamethod_own, binary_own, unary_own, binary_makes_none, unary_makes_none}
use Rattle.lua_steps.proofs.OwnEffects.{same_later, declared_own, all_declared_own, put_own, puts_own, IsHeld, frame_more, held_on, ticks_own, failing_own, few_own, declares_own, putting_own, taken_own}

literal_own : (ids : Ids) (v : Literal) → IsOf ids (of_literal v)
literal_own ids literal.Nil = tt
literal_own ids v = tt

module _ (h : HeapOf) (own : AreOwn h) where
  cell_own : (i : ℕ) → IsOf (ids_of h) (cell_at h i)
  cell_own i = by (slice_get h.cells i) refl
    where
      by : (o : Option Value) → slice_get h.cells i ≡ o → IsOf (ids_of h) (or_nil o)
      by None e = tt
      by (Some v) e = at_some (IsOf (ids_of h)) h.cells i v own.cells e

  slot_value_own : (o : Option Slot) → IsOwnFound (ids_of h) o → IsOf (ids_of h) (slot_value o h)
  slot_value_own None p = tt
  slot_value_own (Some (slot.Held v)) p = p
  slot_value_own (Some (slot.Cell i)) p = cell_own i

  closure_own : (i : ℕ) (o : Option ClosureOf) → slice_get h.closures i ≡ o → (cl : ClosureOf) → o ≡ Some cl → IsOwnClosure (ids_of h) cl
  closure_own i o e cl f = at_some (IsOwnClosure (ids_of h)) h.closures i cl own.closures (e ∙ f)

-- the shared variables that a function captures
abbrev IsOwnCells : Ids → Option (List ℕ) → Type 0
IsOwnCells ids None = ⊤
IsOwnCells ids (Some is) = All (λ i. i < ids.cells) is

front_own : (ids : Ids) (o : Option Slot) (p : Option (List ℕ)) → IsOwnFound ids o → IsOwnCells ids p → IsOwnCells ids (with_front (cell_in o) p)
front_own ids (Some (slot.Cell i)) (Some is) q r = All-cons (λ i. i < ids.cells) i is q r
front_own ids (Some (slot.Cell i)) None q r = tt
front_own ids (Some (slot.Held v)) p q r = tt
front_own ids None p q r = tt

cells_own : (ids : Ids) (ls : Locals) (vs : List ℕ) → All (IsOwnLocal ids) ls → IsOwnCells ids (cells_in ls vs)
cells_own ids ls [] own = All-nil (λ i. i < ids.cells)
cells_own ids ls (v ∷ vs) own = front_own ids (slot_of ls v) (cells_in ls vs) (found_own ids ls v own) (cells_own ids ls vs own)

captured_own : (ids : Ids) (vs is : List ℕ) → All (λ i. i < ids.cells) is → All (IsOwnLocal ids) (captured_locals vs is)
captured_own ids [] is own = All-nil (IsOwnLocal ids)
captured_own ids (v ∷ vs) [] own = All-nil (IsOwnLocal ids)
captured_own ids (v ∷ vs) (i ∷ is) own = All-cons (IsOwnLocal ids) (v, slot.Cell i) (captured_locals vs is) (All-head (λ i. i < ids.cells) i is own) (captured_own ids vs is (All-tail (λ i. i < ids.cells) i is own))

varargs_own : (ids : Ids) (vararg : Bool) (n : ℕ) (args : List Value) → AreOf ids args → AreOf ids (varargs_of vararg n args)
varargs_own ids true n args own = drop_own ids n args own
varargs_own ids false n args own = none_own ids

held_set : (ids : Ids) (o : Option ℕ) (ls : Locals) (v : ℕ) (a : Value) → IsOf ids a → All (IsOwnLocal ids) ls → All (IsOwnLocal ids) (held_at o ls v a)
held_set ids None ls v a p own = own
held_set ids (Some i) ls v a p own = All-set (IsOwnLocal ids) ls i (v, slot.Held a) p own

module _ (before : Ids) (nodes : List LinedNode) (code : Code) where
  push : (f : Frame) (b : Mode) (x : Configuration) → IsHeld before x → IsOwnFrame (ids_of x.heap) f → IsOwnMode (ids_of x.heap) b → IsOwnNext before (b, with_frame f x)
  push f b x held p q = (held.0, q, frame_more before (ids_of x.heap) x.call x.frames f held.1 p)

  name_own : (v : Option ℕ) (name : List ℕ) (x : Configuration) → AreOwn x.heap → IsHeld before x → IsOf (ids_of x.heap) (name_value v name x)
  name_own None name x own held = own_entry x.heap own 0 (value.Text name)
  name_own (Some v) name x own held = slot_value_own x.heap own (slot_of x.call.locals v) (found_own (ids_of x.heap) x.call.locals v held.1.call.locals)

  table_made : (over : Bool) (i : ℕ) (x : Configuration) → IsHeld before x → IsOwnNext before (table_by over i x)
  table_made true i x held = (held.0, tt, held.1)
  table_made false i x held =
      let grown = length-append x.heap.tables (no_table ∷ []) in
      let later : AreLater (ids_of x.heap) (ids_of (with_table (paid table_bytes x.heap))) = record { tables = omega (arith, grown); cells = omega arith; closures = omega arith; iters = omega arith; threads = omega arith } in
      let there = held_on before x (with_table (paid table_bytes x.heap)) later held in
      (there.0, omega (arith, grown), there.1)

  closure_made : (over : Bool) (cl : ClosureOf) (x : Configuration) → IsHeld before x → IsOwnNext before (closure_by over cl x)
  closure_made true cl x held = (held.0, tt, held.1)
  closure_made false cl x held =
      let grown = length-append x.heap.closures (cl ∷ []) in
      let k : HeapOf = with_closure (paid (closure_bytes (length cl.cells)) x.heap) cl in
      let later : AreLater (ids_of x.heap) (ids_of k) = record { tables = omega arith; cells = omega arith; closures = omega (arith, grown); iters = omega arith; threads = omega arith } in
      let there = held_on before x k later held in
      (there.0, one_own (ids_of k) (value.Closure (length x.heap.closures)) (omega (arith, grown)), there.1)

  function_own : (i : ℕ) (cells : Option (List ℕ)) (x : Configuration) → IsHeld before x → IsOwnNext before (function_made i cells x)
  function_own i None x held = (held.0, one_own (ids_of x.heap) value.Nil tt, held.1)
  function_own i (Some cells) x held = closure_made (is_over (closure_bytes (length cells)) x.heap.used) (record { function = i; cells = cells }) x held

  if_own : (i : ℕ) (t b otherwise : Option ℕ) (x : Configuration) → IsHeld before x → IsOwnNext before (if_begun i t b otherwise x)
  if_own i (Some t) (Some b) otherwise x held = push (frame.If i 0) (mode.Begin t) x held tt tt
  if_own i (Some t) None otherwise x held = (held.0, otherwise_own (ids_of x.heap) otherwise, held.1)
  if_own i None (Some b) otherwise x held = (held.0, otherwise_own (ids_of x.heap) otherwise, held.1)
  if_own i None None otherwise x held = (held.0, otherwise_own (ids_of x.heap) otherwise, held.1)

  node_own : (i : ℕ) (n : Node) (x : Configuration) → AreOwn x.heap → IsHeld before x → IsOwnNext before (node_begun nodes code i n x)
  node_own i (node.Const v) x own held = (held.0, one_own (ids_of x.heap) (of_literal v) (literal_own (ids_of x.heap) v), held.1)
  node_own i node.Vararg x own held = (held.0, held.1.call.varargs, held.1)
  node_own i (node.Name name) x own held = (held.0, one_own (ids_of x.heap) (name_value (code.variable i) name x) (name_own (code.variable i) name x own held), held.1)
  node_own i (node.Function params vararg block) x own held = function_own i (cells_in x.call.locals (code.captured i)) x held
  node_own i (node.Table fields) x own held = table_made (is_over table_bytes x.heap.used) i x held
  node_own i (node.Block stats) x own held = push (frame.Body (body.Statements i 0 (length x.call.locals))) (mode.Give []) x held tt (none_own (ids_of x.heap))
  node_own i (node.While test block) x own held = push (frame.While (while_loop.Turn i (length x.call.locals))) (mode.Give []) x held tt (none_own (ids_of x.heap))
  node_own i (node.If tests blocks otherwise) x own held = if_own i (slice_get tests 0) (slice_get blocks 0) otherwise x held
  node_own i (node.LocalFunction name function) x own held = declares_own before (declared code (code.first_variable i) value.Nil x.heap x.call.locals) (λ z. (mode.Begin function, with_frame (frame.Assign (assign.Function i)) z)) x held
      (declared_own code (code.first_variable i) value.Nil x.heap x.call.locals tt held.1.call.locals) (λ there. (there.0, tt, frame_more before _ _ _ (frame.Assign (assign.Function i)) there.1 tt))
  node_own i (node.Local names []) x own held = push (frame.Locals i 0 []) (mode.Give []) x held (none_own (ids_of x.heap)) (none_own (ids_of x.heap))
  node_own i (node.Local names (e ∷ es)) x own held = push (frame.Locals i 1 []) (mode.Begin e) x held (none_own (ids_of x.heap)) tt
  node_own i (node.Return []) x own held = push (frame.Return i 0 []) (mode.Give []) x held (none_own (ids_of x.heap)) (none_own (ids_of x.heap))
  node_own i (node.Return (e ∷ es)) x own held = push (frame.Return i 1 []) (mode.Begin e) x held (none_own (ids_of x.heap)) tt
  node_own i (node.GenFor names [] block) x own held = push (frame.Each (each_loop.Values i 0 [])) (mode.Give []) x held (none_own (ids_of x.heap)) (none_own (ids_of x.heap))
  node_own i (node.GenFor names (e ∷ es) block) x own held = push (frame.Each (each_loop.Values i 1 [])) (mode.Begin e) x held (none_own (ids_of x.heap)) tt
  node_own i (node.Label label) x own held = (held.0, none_own (ids_of x.heap), held.1)
  node_own i (node.Assign targets exps) x own held = (held.0, All-nil (IsOwnTarget (ids_of x.heap)), held.1)
  node_own i (node.CallStat inner) x own held = (held.0, tt, held.1)
  node_own i (node.Do block) x own held = (held.0, tt, held.1)
  node_own i node.Break x own held = (held.0, tt, held.1)
  node_own i (node.Goto label) x own held = (held.0, tt, held.1)
  node_own i (node.Repeat block test) x own held = (held.0, tt, held.1)
  node_own i n x own held = (held.0, tt, frame_more before (ids_of x.heap) x.call x.frames _ held.1 tt)

  begun_own : (i : ℕ) (o : Option Node) (x : Configuration) → AreOwn x.heap → IsHeld before x → IsOwnNext before (begun nodes code i o x)
  begun_own i None x own held = (held.0, none_own (ids_of x.heap), held.1)
  begun_own i (Some n) x own held = ticks_own before (node_begun nodes code i n) x held (node_own i n (with_tick x) (own_used x.heap (with_tick x).heap.used own) held)

  popped : (f : Frame) (fs : List Frame) (x : Configuration) → IsHeld before (with_frames (f ∷ fs) x) → IsHeld before (with_frames fs x)
  popped f fs x held = (held.0, record { call = held.1.call; frames = All-tail (IsOwnFrame (ids_of x.heap)) f fs held.1.frames })

  top : (f : Frame) (fs : List Frame) (x : Configuration) → IsHeld before (with_frames (f ∷ fs) x) → IsOwnFrame (ids_of x.heap) f
  top f fs x held = All-head (IsOwnFrame (ids_of x.heap)) f fs held.1.frames

  gives_own : (fs : List Frame) (vs : List Value) (x : Configuration) → IsHeld before (with_frames fs x) → AreOf (ids_of x.heap) vs → IsOwnNext before (given_top nodes code fs vs (with_frames fs x))
  gives_own [] vs x held own = (held.0, own, held.1)
  gives_own (f ∷ fs) vs x held own = taken_own before (frame_given nodes code x.call.locals f vs) (with_frames fs x) (popped f fs x held) (given_own (ids_of x.heap) nodes code x.call.locals f vs held.1.call.locals (top f fs x held) own)

  leaves_own : (fs : List Frame) (vs : List Value) (x : Configuration) → IsHeld before (with_frames fs x) → AreOf (ids_of x.heap) vs → IsOwnNext before (left_top nodes code fs vs (with_frames fs x))
  leaves_own [] vs x held own = (held.0, own, held.1)
  leaves_own (f ∷ fs) vs x held own = taken_own before (returned vs f) (with_frames fs x) (popped f fs x held) (returned_own (ids_of x.heap) vs f own (top f fs x held))

  breaks_own : (fs : List Frame) (x : Configuration) → IsHeld before (with_frames fs x) → IsOwnNext before (broken_top nodes code fs (with_frames fs x))
  breaks_own [] x held = (held.0, tt, held.1)
  breaks_own (f ∷ fs) x held = taken_own before (broken f) (with_frames fs x) (popped f fs x held) (broken_own (ids_of x.heap) f (top f fs x held))

  jumps_own : (i : ℕ) (fs : List Frame) (x : Configuration) → IsHeld before (with_frames fs x) → IsOwnNext before (jumped_top nodes code i fs (with_frames fs x))
  jumps_own i [] x held = (held.0, tt, held.1)
  jumps_own i (f ∷ fs) x held = taken_own before (jumped nodes i f) (with_frames fs x) (popped f fs x held) (jumped_own (ids_of x.heap) nodes i f (top f fs x held))

  declare_own : (statement : ℕ) (vs : List Value) (x : Configuration) → IsHeld before x → AreOf (ids_of x.heap) vs → IsOwnNext before (step nodes code (mode.Declare statement vs) x)
  declare_own statement vs x held own = declares_own before (declared_all code (code.first_variable statement) (name_count_at nodes statement) vs x.heap x.call.locals) (λ z. (mode.Give [], z)) x held
      (all_declared_own code (name_count_at nodes statement) (code.first_variable statement) vs x.heap x.call.locals own held.1.call.locals) (λ there. (there.0, none_own (ids_of (declared_all code (code.first_variable statement) (name_count_at nodes statement) vs x.heap x.call.locals).heap), there.1))

  values_own : (statement : ℕ) (ts : List Target) (o : Option ℕ) (x : Configuration) → IsHeld before x → All (IsOwnTarget (ids_of x.heap)) ts → IsOwnNext before (values_begun nodes statement ts o x)
  values_own statement ts None x held own = push (frame.Assign (assign.Values statement 0 ts [])) (mode.Give []) x held (own, none_own (ids_of x.heap)) (none_own (ids_of x.heap))
  values_own statement ts (Some i) x held own = push (frame.Assign (assign.Values statement 1 ts [])) (mode.Begin i) x held (own, none_own (ids_of x.heap)) tt

  name_target_own : (v : Option ℕ) (name : List ℕ) (x : Configuration) → IsHeld before x → IsOwnTarget (ids_of x.heap) (name_target v name x.call.locals)
  name_target_own None name x held = tt
  name_target_own (Some v) name x held = slot_own (ids_of x.heap) v (slot_of x.call.locals v) (found_own (ids_of x.heap) x.call.locals v held.1.call.locals)

  target_own : (statement next i : ℕ) (ts : List Target) (o : Option Node) (x : Configuration) → IsHeld before x → All (IsOwnTarget (ids_of x.heap)) ts → IsOwnNext before (target_begun nodes code statement next i ts o x)
  target_own statement next i ts (Some (node.Name name)) x held own = ticks_own before (λ y. (mode.Targets statement (next + 1) (ts ++ name_target (code.variable i) name y.call.locals ∷ []), y)) x held
      (held.0, All-push (IsOwnTarget (ids_of x.heap)) ts (name_target (code.variable i) name x.call.locals) own (name_target_own (code.variable i) name x held), held.1)
  target_own statement next i ts (Some (node.Index object key)) x held own = ticks_own before (λ y. (mode.Begin object, with_frame (frame.Assign (assign.Object statement (next + 1) i ts)) y)) x held (push (frame.Assign (assign.Object statement (next + 1) i ts)) (mode.Begin object) (with_tick x) held own tt)
  target_own statement next i ts o x held own = (held.0, All-push (IsOwnTarget (ids_of x.heap)) ts target.Nowhere own tt, held.1)

  targets_own : (statement next : ℕ) (ts : List Target) (o : Option ℕ) (x : Configuration) → IsHeld before x → All (IsOwnTarget (ids_of x.heap)) ts → IsOwnNext before (target_next nodes code statement next ts o x)
  targets_own statement next ts None x held own = values_own statement ts (slice_get (list_at nodes statement) 0) x held own
  targets_own statement next ts (Some i) x held own = target_own statement next i ts (node_at nodes i) x held own

  stores_own : (statement : ℕ) (ts : List Target) (xs : List Value) (x : Configuration) → IsHeld before x → All (IsOwnTarget (ids_of x.heap)) ts → AreOf (ids_of x.heap) xs → IsOwnNext before (storing nodes statement ts xs x)
  stores_own statement [] xs x held own all = (held.0, none_own (ids_of x.heap), held.1)
  stores_own statement (target.Local v ∷ ts) xs x held own all = (
    held.0,
    (All-tail (IsOwnTarget (ids_of x.heap)) (target.Local v) ts own, drop_own (ids_of x.heap) 1 xs all),
    record { call = record { locals = held_set (ids_of x.heap) (position (λ l. l.0 == v) x.call.locals) x.call.locals v (first xs) (first_own (ids_of x.heap) xs all) held.1.call.locals; varargs = held.1.call.varargs }; frames = held.1.frames },
  )
  stores_own statement (target.Cell i ∷ ts) xs x held own all =
      let k : HeapOf = set_cell x.heap i (first xs) in
      let later : AreLater (ids_of x.heap) (ids_of k) = record { tables = omega arith; cells = omega (arith, length-set x.heap.cells i (first xs)); closures = omega arith; iters = omega arith; threads = omega arith } in
      let there = held_on before x k later held in
      (there.0, (targets_later (ids_of x.heap) (ids_of k) later ts (All-tail (IsOwnTarget (ids_of x.heap)) (target.Cell i) ts own), values_later (ids_of x.heap) (ids_of k) later (drop 1 xs) (drop_own (ids_of x.heap) 1 xs all)), there.1)
  stores_own statement (target.Global name ∷ ts) xs x held own all =
      let p = put_in (lines_at nodes statement x.call) 0 (value.Text name) (first xs) x.heap in
      putting_own before p (mode.Stores statement ts (drop 1 xs)) x held (put_own (lines_at nodes statement x.call) 0 (value.Text name) (first xs) x.heap)
      (λ later. (targets_later (ids_of x.heap) (ids_of p.1) later ts (All-tail (IsOwnTarget (ids_of x.heap)) (target.Global name) ts own), values_later (ids_of x.heap) (ids_of p.1) later (drop 1 xs) (drop_own (ids_of x.heap) 1 xs all)))
  stores_own statement (target.Entry o key ∷ ts) xs x held own all =
      let here = All-head (IsOwnTarget (ids_of x.heap)) (target.Entry o key) ts own in
      push (frame.Assign (assign.Stores statement ts (drop 1 xs))) (mode.Put statement o key (first xs)) x held (All-tail (IsOwnTarget (ids_of x.heap)) (target.Entry o key) ts own, drop_own (ids_of x.heap) 1 xs all) (here.0, here.1, first_own (ids_of x.heap) xs all)
  stores_own statement (target.Nowhere ∷ ts) xs x held own all = (held.0, (All-tail (IsOwnTarget (ids_of x.heap)) target.Nowhere ts own, drop_own (ids_of x.heap) 1 xs all), held.1)

  field_own : (constructor next t count : ℕ) (o : Option Field) (x : Configuration) → IsHeld before x → t < length x.heap.tables → IsOwnNext before (field_begun nodes constructor next t count o x)
  field_own constructor next t count None x held own = (held.0, one_own (ids_of x.heap) (value.Table t) own, held.1)
  field_own constructor next t count (Some (field.Item v)) x held own = push (frame.Table (table.Item constructor (next + 1) t count)) (mode.Begin v) x held own tt
  field_own constructor next t count (Some (field.Named name v)) x held own = push (frame.Table (table.Entry constructor (next + 1) t count (value.Text name))) (mode.Begin v) x held (own, tt) tt
  field_own constructor next t count (Some (field.Keyed key v)) x held own = push (frame.Table (table.Key constructor (next + 1) t count v)) (mode.Begin key) x held own tt

  items_own : (constructor next t count : ℕ) (vs : List Value) (x : Configuration) → IsHeld before x → t < length x.heap.tables → IsOwnNext before (step nodes code (mode.Items constructor next t count vs) x)
  items_own constructor next t count vs x held own =
      let all = items_of nodes (no_field_left (drop next (fields_at nodes constructor))) vs in
      let p = put_all (lines_at nodes constructor x.call) t count all x.heap in
      let put = puts_own (lines_at nodes constructor x.call) all t count x.heap in
      let there = held_on before x p.heap put.0 held in
      (there.0, put.1 (mode.Fields constructor next t p.count) (omega (arith, own, put.0.tables)), there.1)

  entry_own : (constructor next t count : ℕ) (key v : Value) (x : Configuration) → IsHeld before x → t < length x.heap.tables → IsOwnNext before (step nodes code (mode.Entry constructor next t count key v) x)
  entry_own constructor next t count key v x held own = putting_own before (put_in (lines_at nodes constructor x.call) t key v x.heap) (mode.Fields constructor next t count) x held (put_own (lines_at nodes constructor x.call) t key v x.heap) (λ later. omega (arith, own, later.tables))

  answer_own : (op : Option BinOp) (lines : List ℕ) (answer : OpAnswer) (x : Configuration) → IsHeld before x → IsOwnAnswer (ids_of x.heap) answer → IsOwnNext before (operated op lines answer x)
  answer_own op lines (Done v) x held own = (held.0, one_own (ids_of x.heap) (told_of op v) (told_own (ids_of x.heap) op v own), held.1)
  answer_own op lines (Meta f args negated) x held own = ticks_own before (λ y. (mode.Call f args lines false, with_frame (frame.Operand (operand.Metamethod op negated)) y)) x held (push (frame.Operand (operand.Metamethod op negated)) (mode.Call f args lines false) (with_tick x) held tt own)
  answer_own op lines (Raise v) x held own = (held.0, own, held.1)
  answer_own op lines (Stopped st) x held own = (held.0, tt, held.1)

  operator_own : (op : Option BinOp) (lines : List ℕ) (out : OpAnswer × HeapOf) (x : Configuration) → IsHeld before x → ids_of out.1 ≡ ids_of x.heap → IsOwnAnswer (ids_of x.heap) out.0 → IsOwnNext before (operating op lines out x)
  operator_own op lines out x held e own = answer_own op lines out.0 (with_heap out.1 x) (held_on before x out.1 (subst (λ ids. AreLater (ids_of x.heap) ids) (sym e) (same_later (ids_of x.heap))) held) (subst (λ ids. IsOwnAnswer ids out.0) (sym e) own)

  index_calls : (f : Value) (at t : ℕ) (key : Value) (x : Configuration) → IsHeld before x → IsOf (ids_of x.heap) f → t < length x.heap.tables → IsOf (ids_of x.heap) key → IsOwnNext before (ticking (λ y. (mode.Call f (value.Table t ∷ key ∷ []) (lines_at nodes at y.call) false, with_frame (frame.Operand operand.Only) y)) x)
  index_calls f at t key x held p q r = ticks_own before (λ y. (mode.Call f (value.Table t ∷ key ∷ []) (lines_at nodes at y.call) false, with_frame (frame.Operand operand.Only) y)) x held
      (push (frame.Operand operand.Only) (mode.Call f (value.Table t ∷ key ∷ []) (lines_at nodes at x.call) false) (with_tick x) held tt (p, two_own (ids_of x.heap) (value.Table t) key q r))

  index_own : (f : Value) (at t : ℕ) (key : Value) (x : Configuration) → IsHeld before x → IsOf (ids_of x.heap) f → t < length x.heap.tables → IsOf (ids_of x.heap) key → IsOwnNext before (index_by nodes f (is_function f) at t key x)
  index_own value.Nil at t key x held p q r = (held.0, one_own (ids_of x.heap) value.Nil tt, held.1)
  index_own (value.Closure i) at t key x held p q r = index_calls (value.Closure i) at t key x held p q r
  index_own (value.Builtin i) at t key x held p q r = index_calls (value.Builtin i) at t key x held p q r
  index_own (value.Iter i) at t key x held p q r = index_calls (value.Iter i) at t key x held p q r
  index_own f at t key x held p q r = ticks_own before (λ y. (mode.Look at f key, y)) x held (held.0, (p, r), held.1)

  found_in : (found : Value) (at t : ℕ) (key : Value) (x : Configuration) → AreOwn x.heap → IsHeld before x → IsOf (ids_of x.heap) found → t < length x.heap.tables → IsOf (ids_of x.heap) key → IsOwnNext before (found_by nodes found at t key x)
  found_in value.Nil at t key x own held p q r = index_own (metamethod x.heap (value.Table t) (codes "__index")) at t key x held (metamethod_own x.heap own (value.Table t) (codes "__index")) q r
  found_in v at t key x own held p q r = (held.0, one_own (ids_of x.heap) v p, held.1)

  look_own : (at : ℕ) (o key : Value) (x : Configuration) → AreOwn x.heap → IsHeld before x → IsOf (ids_of x.heap) o → IsOf (ids_of x.heap) key → IsOwnNext before (looking nodes (looked_in o) at o key x)
  look_own at (value.Table t) key x own held p q = found_in (entry x.heap t key) at t key x own held (own_entry x.heap own t key) p q
  look_own at (value.Text s) key x own held p q = found_in (entry x.heap string_table key) at string_table key x own held (own_entry x.heap own string_table key) (omega (arith, own.start)) q
  look_own at o key x own held p q = failing_own before (lines_at nodes at x.call) (attempt_text (codes "index") o) x held

  plain_own : (at t : ℕ) (key v : Value) (x : Configuration) → IsHeld before x → IsOwnNext before (put_plain nodes at t key v x)
  plain_own at t key v x held = putting_own before (put_in (lines_at nodes at x.call) t key v x.heap) (mode.Give []) x held (put_own (lines_at nodes at x.call) t key v x.heap) (λ later. none_own (ids_of (put_in (lines_at nodes at x.call) t key v x.heap).1))

  put_calls : (f : Value) (at t : ℕ) (key v : Value) (x : Configuration) → IsHeld before x → IsOf (ids_of x.heap) f → t < length x.heap.tables → IsOf (ids_of x.heap) key → IsOf (ids_of x.heap) v →
      IsOwnNext before (ticking (λ y. (mode.Call f (value.Table t ∷ key ∷ v ∷ []) (lines_at nodes at y.call) false, with_frame (frame.Assign (assign.Stores at [] [])) y)) x)
  put_calls f at t key v x held p q r w = ticks_own before (λ y. (mode.Call f (value.Table t ∷ key ∷ v ∷ []) (lines_at nodes at y.call) false, with_frame (frame.Assign (assign.Stores at [] [])) y)) x held
      (push (frame.Assign (assign.Stores at [] [])) (mode.Call f (value.Table t ∷ key ∷ v ∷ []) (lines_at nodes at x.call) false) (with_tick x) held (All-nil (IsOwnTarget (ids_of x.heap)), none_own (ids_of x.heap)) (p, All-cons (IsOf (ids_of x.heap)) (value.Table t) (key ∷ v ∷ []) q (two_own (ids_of x.heap) key v r w)))

  new_index_own : (f : Value) (at t : ℕ) (key v : Value) (x : Configuration) → IsHeld before x → IsOf (ids_of x.heap) f → t < length x.heap.tables → IsOf (ids_of x.heap) key → IsOf (ids_of x.heap) v → IsOwnNext before (new_index_by nodes f (is_function f) at t key v x)
  new_index_own value.Nil at t key v x held p q r w = plain_own at t key v x held
  new_index_own (value.Closure i) at t key v x held p q r w = put_calls (value.Closure i) at t key v x held p q r w
  new_index_own (value.Builtin i) at t key v x held p q r w = put_calls (value.Builtin i) at t key v x held p q r w
  new_index_own (value.Iter i) at t key v x held p q r w = put_calls (value.Iter i) at t key v x held p q r w
  new_index_own f at t key v x held p q r w = ticks_own before (λ y. (mode.Put at f key v, y)) x held (held.0, (p, r, w), held.1)

  over_own : (found : Value) (at t : ℕ) (key v : Value) (x : Configuration) → AreOwn x.heap → IsHeld before x → t < length x.heap.tables → IsOf (ids_of x.heap) key → IsOf (ids_of x.heap) v → IsOwnNext before (put_by_found nodes found at t key v x)
  over_own value.Nil at t key v x own held q r w = new_index_own (metamethod x.heap (value.Table t) (codes "__newindex")) at t key v x held (metamethod_own x.heap own (value.Table t) (codes "__newindex")) q r w
  over_own found at t key v x own held q r w = plain_own at t key v x held

  put_at_own : (at : ℕ) (o key v : Value) (x : Configuration) → AreOwn x.heap → IsHeld before x → IsOf (ids_of x.heap) o → IsOf (ids_of x.heap) key → IsOf (ids_of x.heap) v → IsOwnNext before (put_where_found nodes (put_where o) at o key v x)
  put_at_own at (value.Table t) key v x own held p q r = over_own (entry x.heap t key) at t key v x own held p q r
  put_at_own at o key v x own held p q r = failing_own before (lines_at nodes at x.call) (attempt_text (codes "index") o) x held

  open_own : (block : Bool) (i : ℕ) (x : Configuration) → IsHeld before x → IsOwnNext before (if block then ticking (λ y. (mode.Give [], with_frame (frame.Body (body.Open i 0 (length y.call.locals))) y)) x else (mode.Begin i, x))
  open_own true i x held = ticks_own before (λ y. (mode.Give [], with_frame (frame.Body (body.Open i 0 (length y.call.locals))) y)) x held (push (frame.Body (body.Open i 0 (length x.call.locals))) (mode.Give []) (with_tick x) held tt (none_own (ids_of x.heap)))
  open_own false i x held = (held.0, tt, held.1)

  start_own : (at : ℕ) (a b d : Option ℤ) (x : Configuration) → IsHeld before x → IsOwnNext before (start_by nodes at a b d x)
  start_own at (Some a) (Some b) (Some d) x held = (held.0, tt, held.1)
  start_own at a b d x held = failing_own before (lines_at nodes at x.call) (codes "for value is not a number") x held

  count_own : (more : Bool) (at : ℕ) (n to by : ℤ) (outer : ℕ) (x : Configuration) → IsHeld before x → IsOwnNext before (counted_by nodes code more at n to by outer x)
  count_own false at n to by outer x held = (held.0, none_own (ids_of x.heap), held.1)
  count_own true at n to by outer x held =
      ticks_own before (λ y. declaring (declared code (code.first_variable at) (value.Int n) y.heap y.call.locals) (λ z. (mode.Begin (block_at nodes at), with_frame (frame.Count (count_loop.Turn at n to by outer (length y.call.locals))) z)) y) x held
      (declares_own before (declared code (code.first_variable at) (value.Int n) (with_tick x).heap x.call.locals) (λ z. (mode.Begin (block_at nodes at), with_frame (frame.Count (count_loop.Turn at n to by outer (length x.call.locals))) z)) (with_tick x) held
      (declared_own code (code.first_variable at) (value.Int n) (with_tick x).heap x.call.locals tt held.1.call.locals) (λ there. (there.0, tt, frame_more before _ _ _ (frame.Count (count_loop.Turn at n to by outer (length x.call.locals))) there.1 tt)))

  next_own : (at : ℕ) (f state control : Value) (outer : ℕ) (x : Configuration) → IsHeld before x → IsOf (ids_of x.heap) f → IsOf (ids_of x.heap) state → IsOf (ids_of x.heap) control → IsOwnNext before (step nodes code (mode.Next at f state control outer) x)
  next_own at f state control outer x held p q r = ticks_own before (λ y. (mode.Call f (state ∷ control ∷ []) (lines_at nodes at y.call) false, with_frame (frame.Each (each_loop.Next at f state outer)) y)) x held
      (push (frame.Each (each_loop.Next at f state outer)) (mode.Call f (state ∷ control ∷ []) (lines_at nodes at x.call) false) (with_tick x) held (p, q) (p, two_own (ids_of x.heap) state control q r))

  each_turns_own : (control : Value) (at : ℕ) (f state : Value) (outer : ℕ) (vs : List Value) (x : Configuration) → IsHeld before x → IsOf (ids_of x.heap) f → IsOf (ids_of x.heap) state → IsOf (ids_of x.heap) control → AreOf (ids_of x.heap) vs →
      IsOwnNext before (declaring (declared_all code (code.first_variable at) (name_count_at nodes at) vs x.heap x.call.locals) (λ z. (mode.Begin (block_at nodes at), with_frame (frame.Each (each_loop.Turn at f state control outer (length x.call.locals))) z)) x)
  each_turns_own control at f state outer vs x held p q r all =
      let d = declared_all code (code.first_variable at) (name_count_at nodes at) vs x.heap x.call.locals in
      let own = all_declared_own code (name_count_at nodes at) (code.first_variable at) vs x.heap x.call.locals all held.1.call.locals in
      declares_own before d (λ z. (mode.Begin (block_at nodes at), with_frame (frame.Each (each_loop.Turn at f state control outer (length x.call.locals))) z)) x held own
      (λ there. (
        there.0,
        tt,
        frame_more before _ _ _ (frame.Each (each_loop.Turn at f state control outer (length x.call.locals))) there.1
            (value_later (ids_of x.heap) (ids_of d.heap) own.later f p, value_later (ids_of x.heap) (ids_of d.heap) own.later state q, value_later (ids_of x.heap) (ids_of d.heap) own.later control r),
      ))

  each_own : (control : Value) (at : ℕ) (f state : Value) (outer : ℕ) (vs : List Value) (x : Configuration) → IsHeld before x → IsOf (ids_of x.heap) f → IsOf (ids_of x.heap) state → IsOf (ids_of x.heap) control → AreOf (ids_of x.heap) vs → IsOwnNext before (each_by nodes code control at f state outer vs x)
  each_own value.Nil at f state outer vs x held p q r all = (held.0, none_own (ids_of x.heap), held.1)
  each_own control at f state outer vs x held p q r all = each_turns_own control at f state outer vs x held p q r all

  made_own : (after : After) (lines : List ℕ) (vs : List Value) (x : Configuration) → IsHeld before x → AreOf (ids_of x.heap) vs → IsOwnNext before (made_by nodes after lines vs x)
  made_own FirstThree lines vs x held own = (
    held.0,
    All-cons (IsOf (ids_of x.heap)) (first vs) (first (drop 1 vs) ∷ first (drop 2 vs) ∷ []) (first_own (ids_of x.heap) vs own)
        (two_own (ids_of x.heap) (first (drop 1 vs)) (first (drop 2 vs)) (first_own (ids_of x.heap) (drop 1 vs) (drop_own (ids_of x.heap) 1 vs own)) (first_own (ids_of x.heap) (drop 2 vs) (drop_own (ids_of x.heap) 2 vs own))),
    held.1,
  )
  made_own OneText lines (value.Text s ∷ vs) x held own = (held.0, one_own (ids_of x.heap) (value.Text s) tt, held.1)
  made_own OneText lines vs x held own = failing_own before lines (codes "bad argument 1 to tostring") x held

  entered_own : (o : Option Node) (cl : ClosureOf) (args : List Value) (inner : List ℕ) (x : Configuration) → IsHeld before x → IsOwnClosure (ids_of x.heap) cl → AreOf (ids_of x.heap) args → IsOwnNext before (entered_node nodes code o cl args inner x)
  entered_own (Some (node.Function params vararg block)) cl args inner x held own all =
      let y : Configuration = with_call (body_call (captured_locals (code.captured cl.function) cl.cells) (varargs_of vararg (length params) args) inner x.call.across) x in
      let ls = captured_own (ids_of x.heap) (code.captured cl.function) cl.cells own in
      let d = declared_all code (code.first_variable cl.function) (length params) args y.heap y.call.locals in
      let made = all_declared_own code (length params) (code.first_variable cl.function) args y.heap y.call.locals all ls in
      declares_own before d (λ z. (mode.Begin block, with_frame (frame.Body (body.Caller x.call)) z)) y (held.0, record { call = record { locals = ls; varargs = varargs_own (ids_of x.heap) vararg (length params) args all }; frames = held.1.frames }) made
      (λ there. (there.0, tt, frame_more before _ _ _ (frame.Body (body.Caller x.call)) there.1 (call_later (ids_of x.heap) (ids_of d.heap) made.later x.call held.1.call)))
  entered_own o cl args inner x held own all = (held.0, none_own (ids_of x.heap), held.1)

  closure_enters : (i : ℕ) (o : Option ClosureOf) → (args : List Value) (inner : List ℕ) (x : Configuration) → AreOwn x.heap → slice_get x.heap.closures i ≡ o → IsHeld before x → AreOf (ids_of x.heap) args → IsOwnNext before (entered nodes code o args inner x)
  closure_enters i None args inner x own e held all = (held.0, none_own (ids_of x.heap), held.1)
  closure_enters i (Some cl) args inner x own e held all = entered_own (node_at nodes cl.function) cl args inner x held (closure_own x.heap own i (Some cl) e cl refl) all

  room_own : (full : Bool) (i : ℕ) (args : List Value) (lines inner : List ℕ) (x : Configuration) → AreOwn x.heap → IsHeld before x → AreOf (ids_of x.heap) args → IsOwnNext before (if_room full lines (entered nodes code (slice_get x.heap.closures i) args inner) x)
  room_own true i args lines inner x own held all = failing_own before lines (codes "stack overflow") x held
  room_own false i args lines inner x own held all = closure_enters i (slice_get x.heap.closures i) args inner x own refl held all

  handler_own : (handler f : Value) (args : List Value) (lines : List ℕ) (own : Bool) (x : Configuration) → IsHeld before x → IsOf (ids_of x.heap) handler → IsOf (ids_of x.heap) f → AreOf (ids_of x.heap) args → IsOwnNext before (call_by nodes handler f args lines own x)
  handler_own value.Nil f args lines own x held p q all = failing_own before lines (attempt_text (codes "call") f) x held
  handler_own handler f args lines own x held p q all = ticks_own before (if_few lines (f ∷ args) (mode.Call handler (f ∷ args) lines own)) x held
      (few_own before lines (f ∷ args) (mode.Call handler (f ∷ args) lines own) (with_tick x) held (p, All-cons (IsOf (ids_of x.heap)) f args q all))

  called_own : (f : Value) (args : List Value) (lines : List ℕ) (alone : Bool) (x : Configuration) → AreOwn x.heap → IsHeld before x → IsOf (ids_of x.heap) f → AreOf (ids_of x.heap) args → IsOwnNext before (called nodes code f args lines alone x)
  called_own (value.Closure i) args lines alone x own held p all = room_own (nat_le 200 (x.below + length (inner_of alone lines))) i args lines (inner_of alone lines) x own held all
  called_own (value.Builtin b) args lines alone x own held p all = (held.0, (p, all), held.1)
  called_own (value.Iter i) args lines alone x own held p all = (held.0, (p, all), held.1)
  called_own f args lines alone x own held p all = handler_own (metamethod x.heap f (codes "__call")) f args lines alone x held (metamethod_own x.heap own f (codes "__call")) p all

  each_step : (a : Mode) (x : Configuration) → AreOwn x.heap → IsHeld before x → IsOwnMode (ids_of x.heap) a → IsOwnNext before (step nodes code a x)
  each_step (mode.Begin i) x own held p = begun_own i (node_at nodes i) x own held
  each_step (mode.Give vs) x own held p = gives_own x.frames vs x held p
  each_step (mode.Leave vs) x own held p = leaves_own x.frames vs x held p
  each_step mode.Break x own held p = breaks_own x.frames x held
  each_step (mode.Jump i) x own held p = jumps_own i x.frames x held
  each_step (mode.Raise v) x own held p = (held.0, p, held.1)
  each_step (mode.Stopped st) x own held p = (held.0, tt, held.1)
  each_step (mode.Declare at vs) x own held p = declare_own at vs x held p
  each_step (mode.Targets at next ts) x own held p = targets_own at next ts (slice_get (targets_at nodes at) next) x held p
  each_step (mode.Stores at ts xs) x own held p = stores_own at ts xs x held p.0 p.1
  each_step (mode.Fields at next t count) x own held p = field_own at next t count (slice_get (fields_at nodes at) next) x held p
  each_step (mode.Items at next t count vs) x own held p = items_own at next t count vs x held p.0
  each_step (mode.Entry at next t count key v) x own held p = entry_own at next t count key v x held p.0
  each_step (mode.Binary at a b) x own held p = operator_own (Some (binary_at nodes at)) (lines_at nodes at x.call) (binary_op (binary_at nodes at) a b (lines_at nodes at x.call) x.heap) x held (binary_makes_none (binary_at nodes at) a b (lines_at nodes at x.call) x.heap) (binary_own x.heap own (binary_at nodes at) a b (lines_at nodes at x.call) p.0 p.1)
  each_step (mode.Unary at a) x own held p = operator_own None (lines_at nodes at x.call) (unary_op (unary_at nodes at) a (lines_at nodes at x.call) x.heap) x held (unary_makes_none (unary_at nodes at) a (lines_at nodes at x.call) x.heap) (unary_own x.heap own (unary_at nodes at) a (lines_at nodes at x.call) p)
  each_step (mode.Look at o key) x own held p = look_own at o key x own held p.0 p.1
  each_step (mode.Put at o key v) x own held p = put_at_own at o key v x own held p.0 p.1 p.2
  each_step (mode.Turn at outer) x own held p = ticks_own before (λ y. (mode.Begin (test_at nodes at), with_frame (frame.While (while_loop.Test at outer)) y)) x held (push (frame.While (while_loop.Test at outer)) (mode.Begin (test_at nodes at)) (with_tick x) held tt tt)
  each_step (mode.Round at outer) x own held p = ticks_own before (λ y. (mode.Open (block_at nodes at), with_frame (frame.Repeat (repeat_loop.Turn at outer (length y.call.locals))) y)) x held (push (frame.Repeat (repeat_loop.Turn at outer (length x.call.locals))) (mode.Open (block_at nodes at)) (with_tick x) held tt tt)
  each_step (mode.Open i) x own held p = open_own (is_block_node (node_at nodes i)) i x held
  each_step (mode.Start at a b d) x own held p = start_own at (to_int a) (to_int b) (to_int d) x held
  each_step (mode.Count at n to by outer) x own held p = count_own (makes_turn n to by) at n to by outer x held
  each_step (mode.Next at f state control outer) x own held p = next_own at f state control outer x held p.0 p.1 p.2
  each_step (mode.Each at f state outer vs) x own held p = each_own (first vs) at f state outer vs x held p.0 p.1 (first_own (ids_of x.heap) vs p.2) p.2
  each_step (mode.Return at vs) x own held p = few_own before (lines_at nodes at x.call) vs (mode.Leave vs) x held p
  each_step (mode.Apply at f args) x own held p = few_own before (lines_at nodes at x.call) args (mode.Call f args (lines_at nodes at x.call) false) x held p
  each_step (mode.Call f args lines alone) x own held p = called_own f args lines alone x own held p.0 p.1
  each_step (mode.Results lines vs) x own held p = few_own before lines vs (mode.Give vs) x held p
  each_step (mode.Made after lines vs) x own held p = made_own after lines vs x held p

-- A step of the abstract machine leaves numbers of its heap alone, in what comes next, in the call in progress and in the frames.
pub step_own : (code : Code) (nodes : List LinedNode) (x : Configuration) (a : Mode) → AreOwn x.heap → IsOwnMode (ids_of x.heap) a → AreOfHeap (ids_of x.heap) x.call x.frames → IsOwnNext (ids_of x.heap) (step nodes code a x)
step_own code nodes x a own p held = each_step (ids_of x.heap) nodes code a x own (same_later (ids_of x.heap), held) p
