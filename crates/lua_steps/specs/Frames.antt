-- What a frame makes of the outcome of what stands above it, and what each mode of a machine means. `n` is the fuel for what lowers it, and `m` that for resumptions.
use Rattle.std.specs.Prelude.{ℕ, ◌+◌, ℤ, ◌+ℤ◌, Bool, true, false, List, [], ◌∷◌, ◌++◌, drop, Option, Some, None}
use Rattle.lua_ast.specs.declared.node.BinOp.{BinOp}
use Rattle.lua_ast.specs.declared.node.LinedNode.{LinedNode}
use Rattle.lua_ast.specs.Decode.{list_of, maybe_of}
use Rattle.lua_meaning.specs.declared.value.Value.{Value}
use Rattle.lua_meaning.specs.declared.value.Value.TheVariants as value
use Rattle.lua_meaning.specs.declared.variable.Target.{Target}
use Rattle.lua_meaning.specs.declared.variable.Target.TheVariants as target
use Rattle.lua_meaning.specs.Values.{first}
use Rattle.lua_meaning.specs.Numbers.{to_int, fits}
use Rattle.lua_meaning.specs.Store.{Result, Breaks, Jumps, Returns, Raises, Stops, with_call}
use Rattle.lua_meaning.specs.Code.{Code}
use Rattle.lua_meaning.specs.Runs.{Run, go, halt, after, tick, at_line, if_few, put}
use Rattle.lua_meaning.specs.Locals.{declare_all, cut, locals_of, slot_of, local_count}
use Rattle.lua_meaning.specs.Jobs.{Again, HostOf, Apply, Turn, Round, Each}
use Rattle.lua_meaning.specs.Operators.{binary, unary, told, negated_if}
use Rattle.lua_meaning.specs.Indexing.{look, put_at}
use Rattle.lua_meaning.specs.Nodes.{eval, expressions, closed, landed, loop_ends, by_truth, call, logic, maybe_eval, step_of, store_one, store_all, slot_target, count, start_count, open_body}
use Rattle.lua_meaning.specs.Loops.{each_with, count_next, round_ends}
use Rattle.lua_meaning.specs.Calls.{body_ends, then_made, made_of}
use Rattle.lua_meaning.specs.Programs.{jobs, resume}
use Rattle.lua_coroutines.specs.declared.frame.Frame.{Frame}
use Rattle.lua_coroutines.specs.declared.frame.Frame.TheVariants as frame
use Rattle.lua_coroutines.specs.declared.frame.BodyFrame.TheVariants as body
use Rattle.lua_coroutines.specs.declared.frame.AssignFrame.TheVariants as assign
use Rattle.lua_coroutines.specs.declared.frame.CalleeFrame.TheVariants as callee
use Rattle.lua_coroutines.specs.declared.frame.WhileFrame.TheVariants as while_loop
use Rattle.lua_coroutines.specs.declared.frame.RepeatFrame.TheVariants as repeat_loop
use Rattle.lua_coroutines.specs.declared.frame.CountFrame.TheVariants as count_loop
use Rattle.lua_coroutines.specs.declared.frame.EachFrame.TheVariants as each_loop
use Rattle.lua_coroutines.specs.declared.frame.TableFrame.TheVariants as table
use Rattle.lua_coroutines.specs.declared.frame.OperandFrame.TheVariants as operand
use Rattle.lua_coroutines.specs.declared.frame.NativeFrame.TheVariants as native
use Rattle.lua_steps.specs.declared.mode.Mode.{Mode}
use Rattle.lua_steps.specs.declared.mode.Mode.TheVariants as mode
use Rattle.lua_steps.specs.Parts.{part, line_number, list_at, name_count_at, targets_at, test_at, block_at, tests_at, blocks_at, otherwise_at, limit_at, step_at, key_at, name_there, right_at, binary_at, logic_at, unary_at, fields_at, run_all, more, targets_from, chose, fields_from, items_then}

-- the lines of the calls in progress at a call: none at a coroutine's own function
abbrev pub inner_of : (is_own : Bool) → List ℕ → List ℕ
inner_of true lines = []
inner_of false lines = lines

-- what an operator's metamethod gives
abbrev pub told_of : Option BinOp → Value → Value
told_of None v = v
told_of (Some op) v = told op v

module _ {H : Type 0} (host : HostOf H) (code : Code) (nodes : List LinedNode) (m : ℕ) where
  -- what lowers the fuel
  abbrev pub jobs_at : ℕ → Again H
  jobs_at n = jobs host code (resume host code m) n

  abbrev pub runs : ℕ → ℕ → Run H
  runs n i = eval code (jobs_at n) (part nodes i)

  abbrev pub make_call : ℕ → (node : ℕ) → Value → List Value → Run H
  make_call n node f vs s = call code (jobs_at n) f vs (at_line (line_number nodes node) s) s

  -- the arguments of a call, behind those that are there
  abbrev pub call_with : ℕ → (node : ℕ) → List Value → Value → Run H
  call_with n node vs f = expressions code (jobs_at n) (list_of (part nodes) (list_at nodes node)) (λ ws. make_call n node f (vs ++ ws))

  abbrev pub store_at : ℕ → (node : ℕ) → List Target → List Value → Run H
  store_at n node ts vs = store_all code (jobs_at n) ts vs (line_number nodes node)

  -- the values of an assignment
  abbrev pub values_for : ℕ → (node : ℕ) → List Target → Run H
  values_for n node ts = expressions code (jobs_at n) (list_of (part nodes) (list_at nodes node)) (store_at n node ts)

  abbrev pub targets_then : ℕ → (node next : ℕ) → List Target → Run H
  targets_then n node next ts = targets_from code (jobs_at n) (part nodes) ts (drop next (targets_at nodes node)) (values_for n node)

  abbrev pub function_stored : ℕ → (node : ℕ) → Value → Run H
  function_stored n node v s = store_one code (jobs_at n) (slot_target (code.first_variable node) (slot_of (locals_of s) (code.first_variable node))) v (at_line (line_number nodes node) s) s

  abbrev pub otherwise_for : ℕ → (node : ℕ) → Run H
  otherwise_for n node = maybe_eval code (jobs_at n) (maybe_of (part nodes) (otherwise_at nodes node))

  abbrev pub turn_after : ℕ → (node : ℕ) → Run H
  turn_after n node = tick (jobs_at n (Turn (part nodes (test_at nodes node)) (part nodes (block_at nodes node))))

  abbrev pub round_after : ℕ → (node before : ℕ) → List Value → Run H
  round_after n node before vs = round_ends code (jobs_at n) before (part nodes (block_at nodes node)) (part nodes (test_at nodes node)) (first vs)

  abbrev pub begin_round : ℕ → (node : ℕ) → Run H
  begin_round n node = tick (jobs_at n (Round (part nodes (block_at nodes node)) (part nodes (test_at nodes node))))

  abbrev pub count_from : ℕ → (node : ℕ) → (at limit step : ℤ) → Run H
  count_from n node at limit step = count code (jobs_at n) (code.first_variable node) (part nodes (block_at nodes node)) at limit step

  -- a numeric loop begins
  abbrev pub counts : ℕ → (node : ℕ) → (first limit step : Value) → Run H
  counts n node a b c s r = loop_ends (local_count s) (start_count code (jobs_at n) (code.first_variable node) (part nodes (block_at nodes node)) (to_int a) (to_int b) (to_int c) (at_line (line_number nodes node) s) s r)

  abbrev pub begin_next : ℕ → (node : ℕ) → (function state control : Value) → Run H
  begin_next n node f state control = tick (jobs_at n (Each (code.first_variable node) (name_count_at nodes node) (part nodes (block_at nodes node)) f state control (line_number nodes node)))

  -- a generic loop begins
  abbrev pub begin_each : ℕ → (node : ℕ) → List Value → Run H
  begin_each n node vs s r = loop_ends (local_count s) (begin_next n node (first vs) (first (drop 1 vs)) (first (drop 2 vs)) s r)

  abbrev pub each_result : ℕ → (node : ℕ) → (function state : Value) → List Value → Run H
  each_result n node f state xs = each_with code (jobs_at n) (first xs) (code.first_variable node) (name_count_at nodes node) (part nodes (block_at nodes node)) f state (line_number nodes node) xs

  abbrev pub fields_then : ℕ → (node next t c : ℕ) → Run H
  fields_then n node next t c = fields_from code (jobs_at n) (part nodes) (drop next (fields_at nodes node)) t c (line_number nodes node) (go (value.Table t ∷ []))

  -- the value of a field at its key
  abbrev pub entry_then : ℕ → (node next t c : ℕ) → Value → List Value → Run H
  entry_then n node next t c key ws s = put (at_line (line_number nodes node) s) t key (first ws) (fields_then n node next t c) s

  abbrev pub operate_at : ℕ → (node : ℕ) → (left : Value) → List Value → Run H
  operate_at n node a b s = binary (jobs_at n) (binary_at nodes node) a (first b) (at_line (line_number nodes node) s) s

  abbrev pub look_at : ℕ → (node : ℕ) → (object key : Value) → Run H
  look_at n node o k s = look (jobs_at n) o k (at_line (line_number nodes node) s) s

  -- what a frame makes of the outcome of what stands above it
  abbrev pub goes_on : ℕ → Frame → Result H → Result H
  goes_on n (frame.Body (body.Statements block next outer)) o = closed outer (landed code (jobs_at n) (list_of (part nodes) (list_at nodes block)) outer (after o (λ vs. run_all code (jobs_at n) (part nodes) (drop next (list_at nodes block)) (go []))))
  goes_on n (frame.Body (body.Open block next outer)) o = landed code (jobs_at n) (list_of (part nodes) (list_at nodes block)) outer (after o (λ vs. run_all code (jobs_at n) (part nodes) (drop next (list_at nodes block)) (go [])))
  goes_on n (frame.Body (body.Caller call)) o = body_ends call o
  goes_on n (frame.Locals node next vs) o = after o (more code (jobs_at n) (part nodes) vs (drop next (list_at nodes node)) (λ ws. declare_all code (code.first_variable node) (name_count_at nodes node) ws (go [])))
  goes_on n (frame.Assign (assign.Object node next index ts)) o = after o (λ os s r. after (runs n (key_at nodes index) s r) (λ ks. targets_then n node next (ts ++ target.Entry (first os) (first ks) ∷ [])))
  goes_on n (frame.Assign (assign.Key node next ts object)) o = after o (λ ks. targets_then n node next (ts ++ target.Entry object (first ks) ∷ []))
  goes_on n (frame.Assign (assign.Values node next ts vs)) o = after o (more code (jobs_at n) (part nodes) vs (drop next (list_at nodes node)) (store_at n node ts))
  goes_on n (frame.Assign (assign.Stores node ts xs)) o = after o (λ d. store_at n node ts xs)
  goes_on n (frame.Assign (assign.Function node)) o = after o (λ vs. function_stored n node (first vs))
  goes_on n (frame.Callee (callee.Function node)) o = after o (λ f. call_with n node [] (first f))
  goes_on n (frame.Callee (callee.Receiver node)) o = after o (λ os s r. after (look_at n node (first os) (value.Text (name_there nodes node)) s r) (λ f. call_with n node (first os ∷ []) (first f)))
  goes_on n (frame.Callee (callee.Method node receiver)) o = after o (λ f. call_with n node (receiver ∷ []) (first f))
  goes_on n (frame.Args node next f vs) o = after o (more code (jobs_at n) (part nodes) vs (drop next (list_at nodes node)) (make_call n node f))
  goes_on n (frame.If node k) o = after o (chose code (jobs_at n) (part nodes) (drop (k + 1) (tests_at nodes node)) (drop k (blocks_at nodes node)) (otherwise_for n node))
  goes_on n (frame.While (while_loop.Test node outer)) o = loop_ends outer (after o (λ vs. by_truth (first vs) (λ s r. after (runs n (block_at nodes node) s r) (λ d. turn_after n node)) (go [])))
  goes_on n (frame.While (while_loop.Turn node outer)) o = loop_ends outer (after o (λ d. turn_after n node))
  goes_on n (frame.Repeat (repeat_loop.Turn node outer before)) o = loop_ends outer (after o (λ d s r. after (runs n (test_at nodes node) s r) (round_after n node before)))
  goes_on n (frame.Repeat (repeat_loop.Test node outer before)) o = loop_ends outer (after o (round_after n node before))
  goes_on n (frame.Count (count_loop.First node)) o = after o (λ a s r. after (runs n (limit_at nodes node) s r) (λ b s r. after (step_of code (jobs_at n) (maybe_of (part nodes) (step_at nodes node)) s r) (λ c. counts n node (first a) (first b) (first c))))
  goes_on n (frame.Count (count_loop.Limit node a)) o = after o (λ b s r. after (step_of code (jobs_at n) (maybe_of (part nodes) (step_at nodes node)) s r) (λ c. counts n node a (first b) (first c)))
  goes_on n (frame.Count (count_loop.Step node a b)) o = after o (λ c. counts n node a b (first c))
  goes_on n (frame.Count (count_loop.Turn node at limit step outer before)) o = loop_ends outer (after o (λ d s. count_next code (jobs_at n) (fits (at +ℤ step)) (code.first_variable node) (part nodes (block_at nodes node)) (at +ℤ step) limit step (cut before s)))
  goes_on n (frame.Each (each_loop.Values node next vs)) o = after o (more code (jobs_at n) (part nodes) vs (drop next (list_at nodes node)) (begin_each n node))
  goes_on n (frame.Each (each_loop.Next node f state outer)) o = loop_ends outer (after o (each_result n node f state))
  goes_on n (frame.Each (each_loop.Turn node f state control outer before)) o = loop_ends outer (after o (λ d s. begin_next n node f state control (cut before s)))
  goes_on n (frame.Table (table.Item node next t c)) o = after o (items_then code (jobs_at n) (part nodes) (drop next (fields_at nodes node)) t c (line_number nodes node) (go (value.Table t ∷ [])))
  goes_on n (frame.Table (table.Key node next t c v)) o = after o (λ i s r. after (runs n v s r) (entry_then n node next t c (first i)))
  goes_on n (frame.Table (table.Entry node next t c key)) o = after o (entry_then n node next t c key)
  goes_on n (frame.Operand (operand.Left node)) o = after o (λ a s r. after (runs n (right_at nodes node) s r) (operate_at n node (first a)))
  goes_on n (frame.Operand (operand.Right node a)) o = after o (operate_at n node a)
  goes_on n (frame.Operand (operand.Logic node)) o = after o (λ a. logic (logic_at nodes node) (first a) (runs n (right_at nodes node)))
  goes_on n (frame.Operand (operand.One node)) o = after o (λ a s. unary (jobs_at n) (unary_at nodes node) (first a) (at_line (line_number nodes node) s) s)
  goes_on n (frame.Operand operand.Only) o = after o (λ vs. go (first vs ∷ []))
  goes_on n (frame.Operand (operand.Object node)) o = after o (λ os s r. after (runs n (key_at nodes node) s r) (λ ks. look_at n node (first os) (first ks)))
  goes_on n (frame.Operand (operand.Key node object)) o = after o (λ ks. look_at n node object (first ks))
  goes_on n (frame.Operand (operand.Metamethod op negated)) o = after o (λ vs. go (told_of op (negated_if negated (first vs)) ∷ []))
  goes_on n (frame.Return node next vs) o = after o (more code (jobs_at n) (part nodes) vs (drop next (list_at nodes node)) (λ ws s. if_few (at_line (line_number nodes node) s) ws (halt (Returns ws)) s))
  goes_on n (frame.Native (native.Waits a lines call)) o = then_made a lines call o
  goes_on n (frame.Native (native.Yields lines call)) o = after o (λ vs s. if_few lines vs (go vs) (with_call call s))
  -- the frames below a resumption go on when its coroutine has ended or yielded
  goes_on n (frame.Native (native.Resumes wrapped lines call under)) o = o

  -- what is to be done in a mode
  abbrev pub means : ℕ → Mode → Run H
  means n (mode.Begin i) = runs n i
  means n (mode.Give vs) = go vs
  means n (mode.Leave vs) = halt (Returns vs)
  means n mode.Break = halt Breaks
  means n (mode.Jump i) = halt (Jumps (name_there nodes i))
  means n (mode.Raise v) = halt (Raises v)
  means n (mode.Stopped st) = halt (Stops st)
  means n (mode.Targets node next ts) = targets_then n node next ts
  means n (mode.Stores node ts xs) = store_at n node ts xs
  means n (mode.Fields node next t c) = fields_then n node next t c
  means n (mode.Look node o key) = look_at n node o key
  means n (mode.Put node o key x) = λ s. put_at (jobs_at n) o key x (at_line (line_number nodes node) s) s
  means n (mode.Count node at limit step outer) = λ s r. loop_ends outer (count_from n node at limit step s r)
  means n (mode.Round node outer) = λ s r. loop_ends outer (begin_round n node s r)
  means n (mode.Open i) = open_body code (jobs_at n) (part nodes i)
  means n (mode.Next node f state control outer) = λ s r. loop_ends outer (begin_next n node f state control s r)
  means n (mode.Call f args lines own) = jobs_at n (Apply f args lines (inner_of own lines))
  means n (mode.Declare node vs) = declare_all code (code.first_variable node) (name_count_at nodes node) vs (go [])
  means n (mode.Items node next t c vs) = items_then code (jobs_at n) (part nodes) (drop next (fields_at nodes node)) t c (line_number nodes node) (go (value.Table t ∷ [])) vs
  means n (mode.Entry node next t c key v) = entry_then n node next t c key (v ∷ [])
  means n (mode.Binary node a b) = operate_at n node a (b ∷ [])
  means n (mode.Unary node a) = λ s. unary (jobs_at n) (unary_at nodes node) a (at_line (line_number nodes node) s) s
  means n (mode.Turn node outer) = λ s r. loop_ends outer (turn_after n node s r)
  means n (mode.Start node a b c) = counts n node a b c
  means n (mode.Each node f state outer vs) = λ s r. loop_ends outer (each_result n node f state vs s r)
  means n (mode.Return node vs) = λ s. if_few (at_line (line_number nodes node) s) vs (halt (Returns vs)) s
  means n (mode.Apply node f vs) = make_call n node f vs
  means n (mode.Results lines vs) = if_few lines vs (go vs)
  means n (mode.Made a lines vs) = made_of a vs lines
