-- What a machine does in each mode: one step of it, but for calls of built-ins and iterator functions, which its host serves.
use Rattle.std.specs.Prelude.{ℕ, ◌+◌, ℤ, Bool, true, false, List, [], ◌∷◌, ◌++◌, length, drop, nat_le, codes, if◌then◌else◌, Option, Some, None, slice_get}
use Rattle.zc_budget.specs.Used.{is_over}
use Rattle.zc_budget.specs.declared.budget.Stop.TheVariants as stop
use Rattle.lua_ast.specs.declared.node.Node.{Node}
use Rattle.lua_ast.specs.declared.node.Node.TheVariants as ast
use Rattle.lua_ast.specs.declared.node.Field.{Field}
use Rattle.lua_ast.specs.declared.node.Field.TheVariants as field
use Rattle.lua_ast.specs.declared.node.LinedNode.{LinedNode}
use Rattle.lua_ast.specs.Decode.{node_at}
use Rattle.lua_meaning.specs.declared.value.Value.{Value}
use Rattle.lua_meaning.specs.declared.value.Value.TheVariants as value
use Rattle.lua_meaning.specs.declared.status.After.{After}
use Rattle.lua_meaning.specs.declared.status.After.TheVariants.{FirstThree, OneText}
use Rattle.lua_meaning.specs.declared.variable.Slot.{Slot}
use Rattle.lua_meaning.specs.declared.variable.Slot.TheVariants as slot
use Rattle.lua_meaning.specs.declared.variable.Target.{Target}
use Rattle.lua_meaning.specs.declared.variable.Target.TheVariants as target
use Rattle.lua_meaning.specs.Values.{first, is_function, of_literal}
use Rattle.lua_meaning.specs.Numbers.{to_int}
use Rattle.lua_meaning.specs.Heap.{HeapOf, ClosureOf, cell_at, entry, metamethod, set_cell, table_bytes, with_table, closure_bytes, with_closure}
use Rattle.lua_meaning.specs.Store.{CallOf}
use Rattle.lua_meaning.specs.Code.{Code}
use Rattle.lua_meaning.specs.Runs.{attempt_text}
use Rattle.lua_meaning.specs.Locals.{Locals, slot_of, with_held, cells_in, captured_locals}
use Rattle.lua_meaning.specs.Operators.{binary_op, unary_op}
use Rattle.lua_meaning.specs.Indexing.{string_table}
use Rattle.lua_meaning.specs.Nodes.{slot_target, makes_turn}
use Rattle.lua_meaning.specs.Calls.{varargs_of, body_call}
use Rattle.lua_values.specs.Charges.{paid}
use Rattle.lua_coroutines.specs.declared.frame.Frame.{Frame}
use Rattle.lua_coroutines.specs.declared.frame.Frame.TheVariants as frame
use Rattle.lua_coroutines.specs.declared.frame.BodyFrame.TheVariants as body
use Rattle.lua_coroutines.specs.declared.frame.AssignFrame.TheVariants as assign
use Rattle.lua_coroutines.specs.declared.frame.WhileFrame.TheVariants as while_loop
use Rattle.lua_coroutines.specs.declared.frame.RepeatFrame.TheVariants as repeat_loop
use Rattle.lua_coroutines.specs.declared.frame.CountFrame.TheVariants as count_loop
use Rattle.lua_coroutines.specs.declared.frame.EachFrame.TheVariants as each_loop
use Rattle.lua_coroutines.specs.declared.frame.TableFrame.TheVariants as table
use Rattle.lua_coroutines.specs.declared.frame.OperandFrame.TheVariants as operand
use Rattle.lua_steps.specs.declared.mode.Mode.{Mode}
use Rattle.lua_steps.specs.declared.mode.Mode.TheVariants as mode
use Rattle.lua_steps.specs.Parts.{line_number, list_at, name_count_at, targets_at, test_at, block_at, binary_at, unary_at, fields_at, no_field_left}
use Rattle.lua_steps.specs.Frames.{inner_of}
use Rattle.lua_steps.specs.Starts.{operand_start, list_start, plain_start, otherwise_or_none}
use Rattle.lua_steps.specs.Configuration.{Configuration, Next, with_heap, with_call, with_frames, with_locals, with_frame, ticking, taken_up}
use Rattle.lua_steps.specs.Given.{frame_given}
use Rattle.lua_steps.specs.Passed.{returned, broken, jumped}
use Rattle.lua_steps.specs.Effects.{failing, if_few, operating, Declared, declared, declared_all, put_in, putting, PutAll, put_all, or_else}

-- the value of a local
abbrev pub slot_value : Option Slot → HeapOf → Value
slot_value (Some (slot.Held v)) h = v
slot_value (Some (slot.Cell i)) h = cell_at h i
slot_value None h = value.Nil

-- what a name stands for: a local, or a field of the globals
abbrev pub name_value : Option ℕ → List ℕ → Configuration → Value
name_value None name x = entry x.heap 0 (value.Text name)
name_value (Some v) name x = slot_value (slot_of x.call.locals v) x.heap

abbrev pub name_target : Option ℕ → List ℕ → Locals → Target
name_target None name locals = target.Global name
name_target (Some v) name locals = slot_target v (slot_of locals v)

-- after locals were declared, or where they found no memory
abbrev pub declaring : Declared → (Configuration → Next) → Configuration → Next
declaring d k x = if d.done then k (with_heap d.heap (with_locals d.locals x)) else (mode.Stopped stop.Memory, with_heap d.heap (with_locals d.locals x))

abbrev pub table_by : (over : Bool) → (node : ℕ) → Configuration → Next
table_by true node x = (mode.Stopped stop.Memory, x)
table_by false node x = (mode.Fields node 0 (length x.heap.tables) 1, with_heap (with_table (paid table_bytes x.heap)) x)

abbrev pub closure_by : (over : Bool) → ClosureOf → Configuration → Next
closure_by true c x = (mode.Stopped stop.Memory, x)
closure_by false c x = (mode.Give (value.Closure (length x.heap.closures) ∷ []), with_heap (with_closure (paid (closure_bytes (length c.cells)) x.heap) c) x)

-- a function captures variables that are shared; one that captures another is nil
abbrev pub function_made : (node : ℕ) → Option (List ℕ) → Configuration → Next
function_made i None x = (mode.Give (value.Nil ∷ []), x)
function_made i (Some cells) x = closure_by (is_over (closure_bytes (length cells)) x.heap.used) (record { function = i; cells = cells }) x

abbrev pub if_begun : (node : ℕ) → (test block otherwise : Option ℕ) → Configuration → Next
if_begun i (Some t) (Some b) otherwise x = (mode.Begin t, with_frame (frame.If i 0) x)
if_begun i _ _ otherwise x = (otherwise_or_none otherwise, x)

-- a node that makes nothing: with an operand, with a list of parts, or with no frame
abbrev pub started : (operand : Option (Frame × ℕ)) → (parts : Option (Frame × Mode)) → (plain : Option Mode) → Configuration → Next
started (Some s) l p x = (mode.Begin s.1, with_frame s.0 x)
started None (Some s) p x = (s.1, with_frame s.0 x)
started None None (Some b) x = (b, x)
started None None None x = (mode.Give [], x)

-- how many calls may be in progress
abbrev pub if_room : Bool → (lines : List ℕ) → (Configuration → Next) → Configuration → Next
if_room true lines k x = failing lines (codes "stack overflow") x
if_room false lines k x = k x

-- the table where the keys of a value are looked up
abbrev pub looked_in : Value → Option ℕ
looked_in (value.Table t) = Some t
looked_in (value.Text s) = Some string_table
looked_in v = None

-- the table in which a value is put
abbrev pub put_where : Value → Option ℕ
put_where (value.Table t) = Some t
put_where v = None

abbrev pub is_block_node : Option Node → Bool
is_block_node (Some (ast.Block stats)) = true
is_block_node n = false

module _ (nodes : List LinedNode) where
  abbrev pub lines_at : (node : ℕ) → CallOf → List ℕ
  lines_at node call = line_number nodes node ∷ call.lines

  -- `__index` of a table without the key
  abbrev pub index_by : (handler : Value) → (is_a_function : Bool) → (node t : ℕ) → (key : Value) → Configuration → Next
  index_by value.Nil f node t key x = (mode.Give (value.Nil ∷ []), x)
  index_by handler true node t key x = ticking (λ y. (mode.Call handler (value.Table t ∷ key ∷ []) (lines_at node y.call) false, with_frame (frame.Operand operand.Only) y)) x
  index_by handler false node t key x = ticking (λ y. (mode.Look node handler key, y)) x

  abbrev pub found_by : (found : Value) → (node t : ℕ) → (key : Value) → Configuration → Next
  found_by value.Nil node t key x = (let handler = metamethod x.heap (value.Table t) (codes "__index") in index_by handler (is_function handler) node t key x)
  found_by v node t key x = (mode.Give (v ∷ []), x)

  abbrev pub looking : Option ℕ → (node : ℕ) → (object key : Value) → Configuration → Next
  looking None node o key x = failing (lines_at node x.call) (attempt_text (codes "index") o) x
  looking (Some t) node o key x = found_by (entry x.heap t key) node t key x

  abbrev pub put_plain : (node t : ℕ) → (key v : Value) → Configuration → Next
  put_plain node t key v x = putting (put_in (lines_at node x.call) t key v x.heap) (mode.Give []) x

  -- `__newindex` of a table without the key
  abbrev pub new_index_by : (handler : Value) → (is_a_function : Bool) → (node t : ℕ) → (key v : Value) → Configuration → Next
  new_index_by value.Nil f node t key v x = put_plain node t key v x
  new_index_by handler true node t key v x = ticking (λ y. (mode.Call handler (value.Table t ∷ key ∷ v ∷ []) (lines_at node y.call) false, with_frame (frame.Assign (assign.Stores node [] [])) y)) x
  new_index_by handler false node t key v x = ticking (λ y. (mode.Put node handler key v, y)) x

  abbrev pub put_by_found : (found : Value) → (node t : ℕ) → (key v : Value) → Configuration → Next
  put_by_found value.Nil node t key v x = (let handler = metamethod x.heap (value.Table t) (codes "__newindex") in new_index_by handler (is_function handler) node t key v x)
  put_by_found found node t key v x = put_plain node t key v x

  abbrev pub put_where_found : Option ℕ → (node : ℕ) → (object key v : Value) → Configuration → Next
  put_where_found None node o key v x = failing (lines_at node x.call) (attempt_text (codes "index") o) x
  put_where_found (Some t) node o key v x = put_by_found (entry x.heap t key) node t key v x

  abbrev pub storing : (node : ℕ) → List Target → List Value → Configuration → Next
  storing node [] xs x = (mode.Give [], x)
  storing node (target.Local v ∷ ts) xs x = (mode.Stores node ts (drop 1 xs), with_locals (with_held x.call.locals v (first xs)) x)
  storing node (target.Cell i ∷ ts) xs x = (mode.Stores node ts (drop 1 xs), with_heap (set_cell x.heap i (first xs)) x)
  storing node (target.Global name ∷ ts) xs x = putting (put_in (lines_at node x.call) 0 (value.Text name) (first xs) x.heap) (mode.Stores node ts (drop 1 xs)) x
  storing node (target.Entry o key ∷ ts) xs x = (mode.Put node o key (first xs), with_frame (frame.Assign (assign.Stores node ts (drop 1 xs))) x)
  storing node (target.Nowhere ∷ ts) xs x = (mode.Stores node ts (drop 1 xs), x)

  -- the first value of an assignment
  abbrev pub values_begun : (node : ℕ) → List Target → Option ℕ → Configuration → Next
  values_begun node ts None x = (mode.Give [], with_frame (frame.Assign (assign.Values node 0 ts [])) x)
  values_begun node ts (Some i) x = (mode.Begin i, with_frame (frame.Assign (assign.Values node 1 ts [])) x)

  abbrev pub field_begun : (node next t count : ℕ) → Option Field → Configuration → Next
  field_begun node next t count None x = (mode.Give (value.Table t ∷ []), x)
  field_begun node next t count (Some (field.Item v)) x = (mode.Begin v, with_frame (frame.Table (table.Item node (next + 1) t count)) x)
  field_begun node next t count (Some (field.Named name v)) x = (mode.Begin v, with_frame (frame.Table (table.Entry node (next + 1) t count (value.Text name))) x)
  field_begun node next t count (Some (field.Keyed key v)) x = (mode.Begin key, with_frame (frame.Table (table.Key node (next + 1) t count v)) x)

  -- all values of the last field, the first one of another
  abbrev pub items_of : (is_last : Bool) → List Value → List Value
  items_of true vs = vs
  items_of false vs = first vs ∷ []

  abbrev pub items_put : PutAll → (node next t : ℕ) → Configuration → Next
  items_put p node next t x = (or_else p.fault (mode.Fields node next t p.count), with_heap p.heap x)

  abbrev pub start_by : (node : ℕ) → (first limit step : Option ℤ) → Configuration → Next
  start_by node (Some a) (Some b) (Some c) x = (mode.Count node a b c (length x.call.locals), x)
  start_by node a b c x = failing (lines_at node x.call) (codes "for value is not a number") x

  abbrev pub made_by : After → (lines : List ℕ) → List Value → Configuration → Next
  made_by FirstThree lines vs x = (mode.Give (first vs ∷ first (drop 1 vs) ∷ first (drop 2 vs) ∷ []), x)
  made_by OneText lines (value.Text s ∷ vs) x = (mode.Give (value.Text s ∷ []), x)
  made_by OneText lines vs x = failing lines (codes "bad argument 1 to tostring") x

  -- `__call`
  abbrev pub call_by : (handler : Value) → (f : Value) → (args : List Value) → (lines : List ℕ) → (own : Bool) → Configuration → Next
  call_by value.Nil f args lines own x = failing lines (attempt_text (codes "call") f) x
  call_by handler f args lines own x = ticking (if_few lines (f ∷ args) (mode.Call handler (f ∷ args) lines own)) x

  module _ (code : Code) where
    abbrev pub target_begun : (node next place : ℕ) → List Target → Option Node → Configuration → Next
    target_begun node next i ts (Some (ast.Name name)) x = ticking (λ y. (mode.Targets node (next + 1) (ts ++ name_target (code.variable i) name y.call.locals ∷ []), y)) x
    target_begun node next i ts (Some (ast.Index object key)) x = ticking (λ y. (mode.Begin object, with_frame (frame.Assign (assign.Object node (next + 1) i ts)) y)) x
    target_begun node next i ts n x = (mode.Targets node (next + 1) (ts ++ target.Nowhere ∷ []), x)

    abbrev pub target_next : (node next : ℕ) → List Target → Option ℕ → Configuration → Next
    target_next node next ts None x = values_begun node ts (slice_get (list_at nodes node) 0) x
    target_next node next ts (Some i) x = target_begun node next i ts (node_at nodes i) x

    -- a turn of a numeric `for`, with a local of its own
    abbrev pub counted_by : Bool → (node : ℕ) → (at limit step : ℤ) → (outer : ℕ) → Configuration → Next
    counted_by false node at limit step outer x = (mode.Give [], x)
    counted_by true node at limit step outer x = ticking (λ y. declaring (declared code (code.first_variable node) (value.Int at) y.heap y.call.locals)
        (λ z. (mode.Begin (block_at nodes node), with_frame (frame.Count (count_loop.Turn node at limit step outer (length y.call.locals))) z)) y) x

    -- a turn of a generic `for`, with locals of its own
    abbrev pub each_by : (control : Value) → (node : ℕ) → (function state : Value) → (outer : ℕ) → List Value → Configuration → Next
    each_by value.Nil node f state outer vs x = (mode.Give [], x)
    each_by control node f state outer vs x = declaring (declared_all code (code.first_variable node) (name_count_at nodes node) vs x.heap x.call.locals)
        (λ z. (mode.Begin (block_at nodes node), with_frame (frame.Each (each_loop.Turn node f state control outer (length x.call.locals))) z)) x

    -- the body of a closure, with its parameters
    abbrev pub entered_node : Option Node → ClosureOf → (args : List Value) → (inner : List ℕ) → Configuration → Next
    entered_node (Some (ast.Function params vararg block)) c args inner x =
        (let y = with_call (body_call (captured_locals (code.captured c.function) c.cells) (varargs_of vararg (length params) args) inner x.call.across) x in
        declaring (declared_all code (code.first_variable c.function) (length params) args y.heap y.call.locals)
        (λ z. (mode.Begin block, with_frame (frame.Body (body.Caller x.call)) z)) y)
    entered_node n c args inner x = (mode.Give [], x)

    abbrev pub entered : Option ClosureOf → (args : List Value) → (inner : List ℕ) → Configuration → Next
    entered None args inner x = (mode.Give [], x)
    entered (Some c) args inner x = entered_node (node_at nodes c.function) c args inner x

    -- Calls of built-ins and iterator functions are no steps of this machine.
    abbrev pub called : (function : Value) → (args : List Value) → (lines : List ℕ) → (own : Bool) → Configuration → Next
    called (value.Closure i) args lines own x = if_room (nat_le 200 (x.below + length (inner_of own lines))) lines (entered (slice_get x.heap.closures i) args (inner_of own lines)) x
    called (value.Builtin b) args lines own x = (mode.Call (value.Builtin b) args lines own, x)
    called (value.Iter i) args lines own x = (mode.Call (value.Iter i) args lines own, x)
    called f args lines own x = call_by (metamethod x.heap f (codes "__call")) f args lines own x

    -- a node that makes something, or reads what was made
    abbrev pub node_begun : (i : ℕ) → Node → Configuration → Next
    node_begun i (ast.Const v) x = (mode.Give (of_literal v ∷ []), x)
    node_begun i ast.Vararg x = (mode.Give x.call.varargs, x)
    node_begun i (ast.Name name) x = (mode.Give (name_value (code.variable i) name x ∷ []), x)
    node_begun i (ast.Function params vararg block) x = function_made i (cells_in x.call.locals (code.captured i)) x
    node_begun i (ast.Table fields) x = table_by (is_over table_bytes x.heap.used) i x
    node_begun i (ast.Block stats) x = (mode.Give [], with_frame (frame.Body (body.Statements i 0 (length x.call.locals))) x)
    node_begun i (ast.While test block) x = (mode.Give [], with_frame (frame.While (while_loop.Turn i (length x.call.locals))) x)
    node_begun i (ast.If tests blocks otherwise) x = if_begun i (slice_get tests 0) (slice_get blocks 0) otherwise x
    node_begun i (ast.LocalFunction name function) x = declaring (declared code (code.first_variable i) value.Nil x.heap x.call.locals) (λ z. (mode.Begin function, with_frame (frame.Assign (assign.Function i)) z)) x
    node_begun i n x = started (operand_start i n) (list_start i n) (plain_start i (length x.call.locals) n) x

    abbrev pub begun : (i : ℕ) → Option Node → Configuration → Next
    begun i None x = (mode.Give [], x)
    begun i (Some n) x = ticking (node_begun i n) x

    -- the frame on top goes on
    abbrev pub given_top : List Frame → List Value → Configuration → Next
    given_top [] vs x = (mode.Give vs, x)
    given_top (f ∷ fs) vs x = taken_up (frame_given nodes code x.call.locals f vs) (with_frames fs x)

    abbrev pub left_top : List Frame → List Value → Configuration → Next
    left_top [] vs x = (mode.Leave vs, x)
    left_top (f ∷ fs) vs x = taken_up (returned vs f) (with_frames fs x)

    abbrev pub broken_top : List Frame → Configuration → Next
    broken_top [] x = (mode.Break, x)
    broken_top (f ∷ fs) x = taken_up (broken f) (with_frames fs x)

    abbrev pub jumped_top : (goto : ℕ) → List Frame → Configuration → Next
    jumped_top i [] x = (mode.Jump i, x)
    jumped_top i (f ∷ fs) x = taken_up (jumped nodes i f) (with_frames fs x)

    abbrev pub step : Mode → Configuration → Next
    step (mode.Begin i) x = begun i (node_at nodes i) x
    step (mode.Give vs) x = given_top x.frames vs x
    step (mode.Leave vs) x = left_top x.frames vs x
    step mode.Break x = broken_top x.frames x
    step (mode.Jump i) x = jumped_top i x.frames x
    step (mode.Raise v) x = (mode.Raise v, x)
    step (mode.Stopped st) x = (mode.Stopped st, x)
    step (mode.Declare node vs) x = declaring (declared_all code (code.first_variable node) (name_count_at nodes node) vs x.heap x.call.locals) (λ z. (mode.Give [], z)) x
    step (mode.Targets node next ts) x = target_next node next ts (slice_get (targets_at nodes node) next) x
    step (mode.Stores node ts xs) x = storing node ts xs x
    step (mode.Fields node next t count) x = field_begun node next t count (slice_get (fields_at nodes node) next) x
    step (mode.Items node next t count vs) x = items_put (put_all (lines_at node x.call) t count (items_of (no_field_left (drop next (fields_at nodes node))) vs) x.heap) node next t x
    step (mode.Entry node next t count key v) x = putting (put_in (lines_at node x.call) t key v x.heap) (mode.Fields node next t count) x
    step (mode.Binary node a b) x = operating (Some (binary_at nodes node)) (lines_at node x.call) (binary_op (binary_at nodes node) a b (lines_at node x.call) x.heap) x
    step (mode.Unary node a) x = operating None (lines_at node x.call) (unary_op (unary_at nodes node) a (lines_at node x.call) x.heap) x
    step (mode.Look node o key) x = looking (looked_in o) node o key x
    step (mode.Put node o key v) x = put_where_found (put_where o) node o key v x
    step (mode.Turn node outer) x = ticking (λ y. (mode.Begin (test_at nodes node), with_frame (frame.While (while_loop.Test node outer)) y)) x
    step (mode.Round node outer) x = ticking (λ y. (mode.Open (block_at nodes node), with_frame (frame.Repeat (repeat_loop.Turn node outer (length y.call.locals))) y)) x
    step (mode.Open i) x = (if is_block_node (node_at nodes i) then ticking (λ y. (mode.Give [], with_frame (frame.Body (body.Open i 0 (length y.call.locals))) y)) x else (mode.Begin i, x))
    step (mode.Start node a b c) x = start_by node (to_int a) (to_int b) (to_int c) x
    step (mode.Count node at limit by outer) x = counted_by (makes_turn at limit by) node at limit by outer x
    step (mode.Next node f state control outer) x = ticking (λ y. (mode.Call f (state ∷ control ∷ []) (lines_at node y.call) false, with_frame (frame.Each (each_loop.Next node f state outer)) y)) x
    step (mode.Each node f state outer vs) x = each_by (first vs) node f state outer vs x
    step (mode.Return node vs) x = if_few (lines_at node x.call) vs (mode.Leave vs) x
    step (mode.Apply node f args) x = if_few (lines_at node x.call) args (mode.Call f args (lines_at node x.call) false) x
    step (mode.Call f args lines own) x = called f args lines own x
    step (mode.Results lines vs) x = if_few lines vs (mode.Give vs) x
    step (mode.Made after lines vs) x = made_by after lines vs x
