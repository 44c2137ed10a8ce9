-- Each step of the machine leaves less weight, or uses an instruction.
use Rattle.std.proofs.Common.{◌≡◌, ℕ, ◌+◌, ◌*◌, ◌<◌, ℤ, List, [], ◌∷◌, ◌++◌, length, drop, Bool, true, false, Option, Some, None, slice_get, refl, sym, ap, arith, length-append, inl, inr}
use Rattle.std.specs.Prelude.{nat_le, codes, if◌then◌else◌}
use Rattle.zc_budget.specs.Used.{IsWithin, is_over}
use Rattle.lua_ast.specs.declared.node.BinOp.{BinOp}
use Rattle.lua_ast.specs.declared.node.Node.{Node}
use Rattle.lua_ast.specs.declared.node.Node.TheVariants as node
use Rattle.lua_ast.specs.declared.node.Field.{Field}
use Rattle.lua_ast.specs.declared.node.Field.TheVariants as field
use Rattle.lua_ast.specs.declared.node.LinedNode.{LinedNode}
use Rattle.lua_ast.specs.Decode.{node_at}
use Rattle.lua_meaning.specs.declared.value.Value.{Value}
use Rattle.lua_meaning.specs.declared.value.Value.TheVariants as value
use Rattle.lua_meaning.specs.declared.variable.Target.{Target}
use Rattle.lua_meaning.specs.declared.variable.Target.TheVariants as target
use Rattle.lua_meaning.specs.declared.status.After.{After}
use Rattle.lua_meaning.specs.declared.status.After.TheVariants.{FirstThree, OneText}
use Rattle.lua_meaning.specs.Values.{first, is_function}
use Rattle.lua_meaning.specs.Numbers.{to_int}
use Rattle.lua_meaning.specs.Heap.{HeapOf, ClosureOf, entry, metamethod, table_bytes, closure_bytes}
use Rattle.lua_meaning.specs.Code.{Code}
use Rattle.lua_meaning.specs.Runs.{attempt_text}
use Rattle.lua_meaning.specs.Locals.{cells_in, captured_locals}
use Rattle.lua_meaning.specs.Operators.{OpAnswer, Done, Meta, Raise, Stopped, binary_op, unary_op}
use Rattle.lua_meaning.specs.Nodes.{makes_turn}
use Rattle.lua_meaning.specs.Calls.{varargs_of, body_call}
use Rattle.lua_meaning.proofs.Operating.{binary_alone, unary_alone}
use Rattle.lua_coroutines.specs.declared.frame.Frame.{Frame}
use Rattle.lua_coroutines.specs.declared.frame.Frame.TheVariants as frame
use Rattle.lua_coroutines.specs.declared.frame.BodyFrame.TheVariants as body
use Rattle.lua_coroutines.specs.declared.frame.AssignFrame.TheVariants as assign
use Rattle.lua_coroutines.specs.declared.frame.WhileFrame.TheVariants as while_loop
use Rattle.lua_coroutines.specs.declared.frame.RepeatFrame.TheVariants as repeat_loop
use Rattle.lua_coroutines.specs.declared.frame.CountFrame.TheVariants as count_loop
use Rattle.lua_coroutines.specs.declared.frame.EachFrame.TheVariants as each_loop
use Rattle.lua_coroutines.specs.declared.frame.OperandFrame.TheVariants as operand
use Rattle.lua_steps.specs.declared.mode.Mode.{Mode}
use Rattle.lua_steps.specs.declared.mode.Mode.TheVariants as mode
use Rattle.lua_steps.specs.Parts.{list_at, name_count_at, targets_at, blocks_at, test_at, block_at, binary_at, unary_at, fields_at, no_field_left}
use Rattle.lua_steps.specs.Frames.{inner_of}
use Rattle.lua_steps.specs.Configuration.{Configuration, Next, with_heap, with_call, with_frames, with_frame, with_tick, ticking}
use Rattle.lua_steps.specs.Given.{frame_given}
use Rattle.lua_steps.specs.Passed.{returned, broken, jumped}
use Rattle.lua_steps.specs.Effects.{declared, declared_all, put_in, put_all, if_few, operated, operating}
use Rattle.lua_steps.specs.Keeping.{is_hosted}
use Rattle.lua_steps.specs.Machine.{declaring, name_target, table_by, closure_by, function_made, if_begun, if_room, is_block_node, looked_in, put_where, lines_at, index_by, found_by, looking, put_plain, new_index_by, put_by_found, put_where_found, storing, values_begun, field_begun, items_of, start_by, made_by, call_by, target_begun, target_next, counted_by, each_by, entered_node, entered, called, node_begun, begun, given_top, left_top, broken_top, jumped_top, step}
use Rattle.lua_steps.proofs.Growth.{binary_grows, unary_grows}
use Rattle.lua_runs.specs.Weights.{part_count, fields_left, assign_weight, frame_weight, frames_weight, mode_weight, weight, most_added}
use Rattle.lua_runs.specs.Endings.{has_none, ends_above, has_ended}
use Rattle.lua_runs.proofs.Left.{one_left, whole_left, fewer_left, list_counted, targets_counted, blocks_counted, fields_counted}
use Rattle.lua_runs.proofs.FrameWeights.{otherwise_light, frame_falls, returned_light, broken_light, jumped_falls}
use Rattle.lua_runs.proofs.Lowering.{KeepsCounts, counts_none, declared_counts, all_counts, put_light, puts_light, Lowers, Falls, falls_from, nexts, taken_lowers, failing_lowers, few_lowers, declaring_lowers, putting_lowers, ticks}

none_false : true ≡ false → ⊥
none_false e = cc

module _ (nodes : List LinedNode) (code : Code) where
  -- the weight of what is at work above the frames of a configuration
  abbrev above : ℕ → Configuration → ℕ
  above n x = n + frames_weight nodes x.frames

  push : (f : Frame) (b : Mode) (x : Configuration) (w : ℕ) → mode_weight nodes b + (1 + frame_weight nodes f + frames_weight nodes x.frames) < w → Lowers nodes x.heap w (b, with_frame f x)
  push f b x w le = nexts nodes b (with_frame f x) w le

  table_falls : (over : Bool) (i : ℕ) (x : Configuration) → Lowers nodes x.heap (above 1 x + most_added nodes) (table_by over i x)
  table_falls true i x = nexts nodes _ x _ (omega arith)
  table_falls false i x = record { counts = record { limit = refl; instructions = omega arith; threads = refl }; lighter = omega (arith, fewer_left 0 (fields_at nodes i), fields_counted nodes i) }

  closure_falls : (over : Bool) (cl : ClosureOf) (x : Configuration) → Lowers nodes x.heap (above 1 x + most_added nodes) (closure_by over cl x)
  closure_falls true cl x = nexts nodes _ x _ (omega arith)
  closure_falls false cl x = record { counts = record { limit = refl; instructions = omega arith; threads = refl }; lighter = omega arith }

  function_falls : (i : ℕ) (cells : Option (List ℕ)) (x : Configuration) → Lowers nodes x.heap (above 1 x + most_added nodes) (function_made i cells x)
  function_falls i None x = nexts nodes _ x _ (omega arith)
  function_falls i (Some cells) x = closure_falls (is_over (closure_bytes (length cells)) x.heap.used) (record { function = i; cells = cells }) x

  if_falls : (i : ℕ) (t b otherwise : Option ℕ) (x : Configuration) → Lowers nodes x.heap (above 1 x + most_added nodes) (if_begun i t b otherwise x)
  if_falls i (Some t) (Some b) otherwise x = push (frame.If i 0) (mode.Begin t) x _ (omega (arith, fewer_left 0 (blocks_at nodes i), blocks_counted nodes i))
  if_falls i (Some t) None otherwise x = record { counts = counts_none x.heap; lighter = omega (arith, otherwise_light nodes otherwise) }
  if_falls i None b otherwise x = record { counts = counts_none x.heap; lighter = omega (arith, otherwise_light nodes otherwise) }

  node_falls : (i : ℕ) (n : Node) (x : Configuration) → Lowers nodes x.heap (above 1 x + most_added nodes) (node_begun nodes code i n x)
  node_falls i (node.Const v) x = record { counts = counts_none x.heap; lighter = omega arith }
  node_falls i node.Vararg x = record { counts = counts_none x.heap; lighter = omega arith }
  node_falls i (node.Name name) x = record { counts = counts_none x.heap; lighter = omega arith }
  node_falls i (node.Function params vararg block) x = function_falls i (cells_in x.call.locals (code.captured i)) x
  node_falls i (node.Table fields) x = table_falls (is_over table_bytes x.heap.used) i x
  node_falls i (node.Block stats) x = record { counts = counts_none x.heap; lighter = omega (arith, fewer_left 0 (list_at nodes i), list_counted nodes i) }
  node_falls i (node.While test block) x = record { counts = counts_none x.heap; lighter = omega arith }
  node_falls i (node.If tests blocks otherwise) x = if_falls i (slice_get tests 0) (slice_get blocks 0) otherwise x
  node_falls i (node.LocalFunction name function) x =
      let d = declared code (code.first_variable i) value.Nil x.heap x.call.locals in
      declaring_lowers nodes d (λ z. (mode.Begin function, with_frame (frame.Assign (assign.Function i)) z)) x _ (declared_counts code (code.first_variable i) value.Nil x.heap x.call.locals) (omega arith)
      (record { counts = counts_none d.heap; lighter = omega arith })
  node_falls i (node.Local names []) x = record { counts = counts_none x.heap; lighter = omega (arith, fewer_left 0 (list_at nodes i), list_counted nodes i) }
  node_falls i (node.Local names (e ∷ es)) x = record { counts = counts_none x.heap; lighter = omega (arith, fewer_left 1 (list_at nodes i), list_counted nodes i) }
  node_falls i (node.Return []) x = record { counts = counts_none x.heap; lighter = omega (arith, fewer_left 0 (list_at nodes i), list_counted nodes i) }
  node_falls i (node.Return (e ∷ es)) x = record { counts = counts_none x.heap; lighter = omega (arith, fewer_left 1 (list_at nodes i), list_counted nodes i) }
  node_falls i (node.GenFor names [] block) x = record { counts = counts_none x.heap; lighter = omega (arith, fewer_left 0 (list_at nodes i), list_counted nodes i) }
  node_falls i (node.GenFor names (e ∷ es) block) x = record { counts = counts_none x.heap; lighter = omega (arith, fewer_left 1 (list_at nodes i), list_counted nodes i) }
  node_falls i (node.Label label) x = record { counts = counts_none x.heap; lighter = omega arith }
  node_falls i (node.Assign targets exps) x = record { counts = counts_none x.heap; lighter = omega (arith, fewer_left 0 (targets_at nodes i), targets_counted nodes i, list_counted nodes i) }
  node_falls i (node.CallStat inner) x = record { counts = counts_none x.heap; lighter = omega arith }
  node_falls i (node.Do block) x = record { counts = counts_none x.heap; lighter = omega arith }
  node_falls i node.Break x = record { counts = counts_none x.heap; lighter = omega arith }
  node_falls i (node.Goto label) x = record { counts = counts_none x.heap; lighter = omega arith }
  node_falls i (node.Repeat block test) x = record { counts = counts_none x.heap; lighter = omega arith }
  node_falls i (node.Index object key) x = record { counts = counts_none x.heap; lighter = omega arith }
  node_falls i (node.Call function args) x = record { counts = counts_none x.heap; lighter = omega (arith, list_counted nodes i) }
  node_falls i (node.Method object name args) x = record { counts = counts_none x.heap; lighter = omega (arith, list_counted nodes i) }
  node_falls i (node.Binary op left right) x = record { counts = counts_none x.heap; lighter = omega arith }
  node_falls i (node.Logic op left right) x = record { counts = counts_none x.heap; lighter = omega arith }
  node_falls i (node.Unary op one) x = record { counts = counts_none x.heap; lighter = omega arith }
  node_falls i (node.Paren inner) x = record { counts = counts_none x.heap; lighter = omega arith }
  node_falls i (node.NumFor name begin limit by block) x = record { counts = counts_none x.heap; lighter = omega arith }

  begun_falls : (i : ℕ) (o : Option Node) (x : Configuration) → Falls nodes x.heap (above 1 x) (begun nodes code i o x)
  begun_falls i None x = inl (nexts nodes (mode.Give []) x _ (omega arith))
  begun_falls i (Some n) x = ticks nodes (node_begun nodes code i n) x (above 1 x) (omega arith) (node_falls i n (with_tick x))

  gives : (fs : List Frame) (vs : List Value) (x : Configuration) → has_none fs ≡ false → Lowers nodes x.heap (0 + frames_weight nodes fs) (given_top nodes code fs vs (with_frames fs x))
  gives [] vs x e = absurd (none_false e)
  gives (f ∷ fs) vs x e = taken_lowers nodes (frame_given nodes code x.call.locals f vs) (with_frames fs x) _ (omega (arith, frame_falls nodes code x.call.locals f vs))

  leaves : (fs : List Frame) (vs : List Value) (x : Configuration) → has_none fs ≡ false → Lowers nodes x.heap (0 + frames_weight nodes fs) (left_top nodes code fs vs (with_frames fs x))
  leaves [] vs x e = absurd (none_false e)
  leaves (f ∷ fs) vs x e = taken_lowers nodes (returned vs f) (with_frames fs x) _ (omega (arith, returned_light nodes vs f))

  breaks : (fs : List Frame) (x : Configuration) → has_none fs ≡ false → Lowers nodes x.heap (0 + frames_weight nodes fs) (broken_top nodes code fs (with_frames fs x))
  breaks [] x e = absurd (none_false e)
  breaks (f ∷ fs) x e = taken_lowers nodes (broken f) (with_frames fs x) _ (omega (arith, broken_light nodes f))

  jumps : (i : ℕ) (fs : List Frame) (x : Configuration) → has_none fs ≡ false → Lowers nodes x.heap (2 * part_count nodes + 1 + frames_weight nodes fs) (jumped_top nodes code i fs (with_frames fs x))
  jumps i [] x e = absurd (none_false e)
  jumps i (f ∷ fs) x e = taken_lowers nodes (jumped nodes i f) (with_frames fs x) _ (omega (arith, jumped_falls nodes i f))

  values_fall : (at : ℕ) (ts : List Target) (o : Option ℕ) (x : Configuration) (next : ℕ) → slice_get (list_at nodes at) 0 ≡ o → Lowers nodes x.heap (above (assign_weight nodes at next (length ts)) x) (values_begun nodes at ts o x)
  values_fall at ts None x next e = push (frame.Assign (assign.Values at 0 ts [])) (mode.Give []) x _ (omega (arith, whole_left (list_at nodes at)))
  values_fall at ts (Some i) x next e = push (frame.Assign (assign.Values at 1 ts [])) (mode.Begin i) x _ (omega (arith, whole_left (list_at nodes at), one_left (list_at nodes at) 0 i e))

  more_targets : (at next i : ℕ) (ts : List Target) (t : Target) → slice_get (targets_at nodes at) next ≡ Some i → assign_weight nodes at (next + 1) (length (ts ++ t ∷ [])) + 1 ≡ assign_weight nodes at next (length ts)
  more_targets at next i ts t e = omega (arith, one_left (targets_at nodes at) next i e, length-append ts (t ∷ []))

  target_falls : (at next i : ℕ) (ts : List Target) (n : Option Node) (x : Configuration) → slice_get (targets_at nodes at) next ≡ Some i → Falls nodes x.heap (above (assign_weight nodes at next (length ts)) x) (target_begun nodes code at next i ts n x)
  target_falls at next i ts (Some (node.Name name)) x e =
      let t : Target = name_target (code.variable i) name x.call.locals in
      ticks nodes (λ y. (mode.Targets at (next + 1) (ts ++ name_target (code.variable i) name y.call.locals ∷ []), y)) x _ (omega arith)
      (nexts nodes (mode.Targets at (next + 1) (ts ++ t ∷ [])) (with_tick x) _ (omega (arith, more_targets at next i ts t e)))
  target_falls at next i ts (Some (node.Index object key)) x e =
      ticks nodes (λ y. (mode.Begin object, with_frame (frame.Assign (assign.Object at (next + 1) i ts)) y)) x _ (omega arith)
      (push (frame.Assign (assign.Object at (next + 1) i ts)) (mode.Begin object) (with_tick x) _ (omega (arith, one_left (targets_at nodes at) next i e)))
  target_falls at next i ts n x e = inl (nexts nodes (mode.Targets at (next + 1) (ts ++ target.Nowhere ∷ [])) x _ (omega (arith, more_targets at next i ts target.Nowhere e)))

  targets_fall : (at next : ℕ) (ts : List Target) (o : Option ℕ) (x : Configuration) → slice_get (targets_at nodes at) next ≡ o → Falls nodes x.heap (above (assign_weight nodes at next (length ts)) x) (target_next nodes code at next ts o x)
  targets_fall at next ts None x e = inl (values_fall at ts (slice_get (list_at nodes at) 0) x next refl)
  targets_fall at next ts (Some i) x e = target_falls at next i ts (node_at nodes i) x e

  stores_fall : (at : ℕ) (ts : List Target) (xs : List Value) (x : Configuration) → Lowers nodes x.heap (above (3 * length ts + 1) x) (storing nodes at ts xs x)
  stores_fall at [] xs x = nexts nodes (mode.Give []) x _ (omega arith)
  stores_fall at (target.Local v ∷ ts) xs x = record { counts = counts_none x.heap; lighter = omega arith }
  stores_fall at (target.Cell i ∷ ts) xs x = record { counts = record { limit = refl; instructions = omega arith; threads = refl }; lighter = omega arith }
  stores_fall at (target.Global name ∷ ts) xs x = putting_lowers nodes (put_in (lines_at nodes at x.call) 0 (value.Text name) (first xs) x.heap) (mode.Stores at ts (drop 1 xs)) x _ (put_light nodes (lines_at nodes at x.call) 0 (value.Text name) (first xs) x.heap) (omega arith)
  stores_fall at (target.Entry o key ∷ ts) xs x = push (frame.Assign (assign.Stores at ts (drop 1 xs))) (mode.Put at o key (first xs)) x _ (omega arith)
  stores_fall at (target.Nowhere ∷ ts) xs x = nexts nodes (mode.Stores at ts (drop 1 xs)) x _ (omega arith)

  field_falls : (at next t count : ℕ) (o : Option Field) (x : Configuration) → slice_get (fields_at nodes at) next ≡ o → Lowers nodes x.heap (above (6 * fields_left nodes at next + 1) x) (field_begun nodes at next t count o x)
  field_falls at next t count None x e = nexts nodes (mode.Give (value.Table t ∷ [])) x _ (omega arith)
  field_falls at next t count (Some (field.Item v)) x e = record { counts = counts_none x.heap; lighter = omega (arith, one_left (fields_at nodes at) next (field.Item v) e) }
  field_falls at next t count (Some (field.Named name v)) x e = record { counts = counts_none x.heap; lighter = omega (arith, one_left (fields_at nodes at) next (field.Named name v) e) }
  field_falls at next t count (Some (field.Keyed key v)) x e = record { counts = counts_none x.heap; lighter = omega (arith, one_left (fields_at nodes at) next (field.Keyed key v) e) }

  items_fall : (at next t count : ℕ) (vs : List Value) (x : Configuration) → Lowers nodes x.heap (above (6 * fields_left nodes at next + 2) x) (step nodes code (mode.Items at next t count vs) x)
  items_fall at next t count vs x =
      let p = put_all (lines_at nodes at x.call) t count (items_of nodes (no_field_left (drop next (fields_at nodes at))) vs) x.heap in
      let put = puts_light nodes (lines_at nodes at x.call) (items_of nodes (no_field_left (drop next (fields_at nodes at))) vs) t count x.heap in
      record { counts = put.counts; lighter = omega (arith, put.light (mode.Fields at next t p.count)) }

  operated_falls : (op : Option BinOp) (lines : List ℕ) (a : OpAnswer) (x : Configuration) → Falls nodes x.heap (above 1 x) (operated op lines a x)
  operated_falls op lines (Done v) x = inl (record { counts = counts_none x.heap; lighter = omega arith })
  operated_falls op lines (Meta f args negated) x =
      ticks nodes (λ y. (mode.Call f args lines false, with_frame (frame.Operand (operand.Metamethod op negated)) y)) x _ (omega arith)
      (push (frame.Operand (operand.Metamethod op negated)) (mode.Call f args lines false) (with_tick x) _ (omega arith))
  operated_falls op lines (Raise v) x = inl (nexts nodes (mode.Raise v) x _ (omega arith))
  operated_falls op lines (Stopped st) x = inl (nexts nodes (mode.Stopped st) x _ (omega arith))

  operating_falls : (op : Option BinOp) (lines : List ℕ) (a : OpAnswer × HeapOf) (x : Configuration) → KeepsCounts x.heap a.1 → Falls nodes x.heap (above 1 x) (operating op lines a x)
  operating_falls op lines a x f = falls_from nodes x.heap a.1 (above 1 x) (operating op lines a x) f (operated_falls op lines a.0 (with_heap a.1 x))

  index_falls : (handler : Value) (is_a_function : Bool) (at t : ℕ) (key : Value) (x : Configuration) → Falls nodes x.heap (above 1 x) (index_by nodes handler is_a_function at t key x)
  index_falls value.Nil f at t key x = inl (nexts nodes (mode.Give (value.Nil ∷ [])) x _ (omega arith))
  index_falls handler true at t key x =
      ticks nodes (λ y. (mode.Call handler (value.Table t ∷ key ∷ []) (lines_at nodes at y.call) false, with_frame (frame.Operand operand.Only) y)) x _ (omega arith)
      (push (frame.Operand operand.Only) (mode.Call handler (value.Table t ∷ key ∷ []) (lines_at nodes at x.call) false) (with_tick x) _ (omega arith))
  index_falls handler false at t key x = ticks nodes (λ y. (mode.Look at handler key, y)) x _ (omega arith) (nexts nodes (mode.Look at handler key) (with_tick x) _ (omega arith))

  found_falls : (found : Value) (at t : ℕ) (key : Value) (x : Configuration) → Falls nodes x.heap (above 1 x) (found_by nodes found at t key x)
  found_falls value.Nil at t key x = (let handler = metamethod x.heap (value.Table t) (codes "__index") in index_falls handler (is_function handler) at t key x)
  found_falls v at t key x = inl (nexts nodes (mode.Give (v ∷ [])) x _ (omega arith))

  look_falls : (o : Option ℕ) (at : ℕ) (object key : Value) (x : Configuration) → Falls nodes x.heap (above 1 x) (looking nodes o at object key x)
  look_falls None at object key x = inl (failing_lowers nodes (lines_at nodes at x.call) (attempt_text (codes "index") object) x _ (omega arith))
  look_falls (Some t) at object key x = found_falls (entry x.heap t key) at t key x

  plain_falls : (at t : ℕ) (key v : Value) (x : Configuration) → Falls nodes x.heap (above 1 x) (put_plain nodes at t key v x)
  plain_falls at t key v x = inl (putting_lowers nodes (put_in (lines_at nodes at x.call) t key v x.heap) (mode.Give []) x _ (put_light nodes (lines_at nodes at x.call) t key v x.heap) (omega arith))

  new_index_falls : (handler : Value) (is_a_function : Bool) (at t : ℕ) (key v : Value) (x : Configuration) → Falls nodes x.heap (above 1 x) (new_index_by nodes handler is_a_function at t key v x)
  new_index_falls value.Nil f at t key v x = plain_falls at t key v x
  new_index_falls handler true at t key v x =
      ticks nodes (λ y. (mode.Call handler (value.Table t ∷ key ∷ v ∷ []) (lines_at nodes at y.call) false, with_frame (frame.Assign (assign.Stores at [] [])) y)) x _ (omega arith)
      (push (frame.Assign (assign.Stores at [] [])) (mode.Call handler (value.Table t ∷ key ∷ v ∷ []) (lines_at nodes at x.call) false) (with_tick x) _ (omega arith))
  new_index_falls handler false at t key v x = ticks nodes (λ y. (mode.Put at handler key v, y)) x _ (omega arith) (nexts nodes (mode.Put at handler key v) (with_tick x) _ (omega arith))

  over_falls : (found : Value) (at t : ℕ) (key v : Value) (x : Configuration) → Falls nodes x.heap (above 1 x) (put_by_found nodes found at t key v x)
  over_falls value.Nil at t key v x = (let handler = metamethod x.heap (value.Table t) (codes "__newindex") in new_index_falls handler (is_function handler) at t key v x)
  over_falls found at t key v x = plain_falls at t key v x

  put_falls : (o : Option ℕ) (at : ℕ) (object key v : Value) (x : Configuration) → Falls nodes x.heap (above 1 x) (put_where_found nodes o at object key v x)
  put_falls None at object key v x = inl (failing_lowers nodes (lines_at nodes at x.call) (attempt_text (codes "index") object) x _ (omega arith))
  put_falls (Some t) at object key v x = over_falls (entry x.heap t key) at t key v x

  open_falls : (block : Bool) (i : ℕ) (x : Configuration) → Falls nodes x.heap (above 2 x) (if block then ticking (λ y. (mode.Give [], with_frame (frame.Body (body.Open i 0 (length y.call.locals))) y)) x else (mode.Begin i, x))
  open_falls true i x = ticks nodes (λ y. (mode.Give [], with_frame (frame.Body (body.Open i 0 (length y.call.locals))) y)) x _ (omega arith)
      (push (frame.Body (body.Open i 0 (length x.call.locals))) (mode.Give []) (with_tick x) _ (omega (arith, fewer_left 0 (list_at nodes i), list_counted nodes i)))
  open_falls false i x = inl (nexts nodes (mode.Begin i) x _ (omega arith))

  start_falls : (at : ℕ) (a b d : Option ℤ) (x : Configuration) → Lowers nodes x.heap (above 2 x) (start_by nodes at a b d x)
  start_falls at (Some a) (Some b) (Some d) x = nexts nodes (mode.Count at a b d (length x.call.locals)) x _ (omega arith)
  start_falls at a b d x = failing_lowers nodes (lines_at nodes at x.call) (codes "for value is not a number") x _ (omega arith)

  count_falls : (more : Bool) (at : ℕ) (n to by : ℤ) (outer : ℕ) (x : Configuration) → Falls nodes x.heap (above 1 x) (counted_by nodes code more at n to by outer x)
  count_falls false at n to by outer x = inl (nexts nodes (mode.Give []) x _ (omega arith))
  count_falls true at n to by outer x =
      let d = declared code (code.first_variable at) (value.Int n) (with_tick x).heap x.call.locals in
      ticks nodes (λ y. declaring (declared code (code.first_variable at) (value.Int n) y.heap y.call.locals) (λ z. (mode.Begin (block_at nodes at), with_frame (frame.Count (count_loop.Turn at n to by outer (length y.call.locals))) z)) y) x _ (omega arith)
      (declaring_lowers nodes d (λ z. (mode.Begin (block_at nodes at), with_frame (frame.Count (count_loop.Turn at n to by outer (length x.call.locals))) z)) (with_tick x) _ (declared_counts code (code.first_variable at) (value.Int n) (with_tick x).heap x.call.locals) (omega arith)
      (record { counts = counts_none d.heap; lighter = omega arith }))

  each_falls : (control : Value) (at : ℕ) (f state : Value) (outer : ℕ) (vs : List Value) (x : Configuration) → Lowers nodes x.heap (above 4 x) (each_by nodes code control at f state outer vs x)
  each_falls value.Nil at f state outer vs x = nexts nodes (mode.Give []) x _ (omega arith)
  each_falls control at f state outer vs x =
      let d = declared_all code (code.first_variable at) (name_count_at nodes at) vs x.heap x.call.locals in
      declaring_lowers nodes d (λ z. (mode.Begin (block_at nodes at), with_frame (frame.Each (each_loop.Turn at f state control outer (length x.call.locals))) z)) x _ (all_counts code (name_count_at nodes at) (code.first_variable at) vs x.heap x.call.locals) (omega arith)
      (record { counts = counts_none d.heap; lighter = omega arith })

  made_falls : (after : After) (lines : List ℕ) (vs : List Value) (x : Configuration) → Lowers nodes x.heap (above 1 x) (made_by nodes after lines vs x)
  made_falls FirstThree lines vs x = record { counts = counts_none x.heap; lighter = omega arith }
  made_falls OneText lines (value.Text s ∷ vs) x = record { counts = counts_none x.heap; lighter = omega arith }
  made_falls OneText lines vs x = failing_lowers nodes lines (codes "bad argument 1 to tostring") x _ (omega arith)

  entered_falls : (o : Option Node) (cl : ClosureOf) (args : List Value) (inner : List ℕ) (x : Configuration) → Lowers nodes x.heap (above 3 x) (entered_node nodes code o cl args inner x)
  entered_falls (Some (node.Function params vararg block)) cl args inner x =
      let y : Configuration = with_call (body_call (captured_locals (code.captured cl.function) cl.cells) (varargs_of vararg (length params) args) inner x.call.across) x in
      let d = declared_all code (code.first_variable cl.function) (length params) args y.heap y.call.locals in
      declaring_lowers nodes d (λ z. (mode.Begin block, with_frame (frame.Body (body.Caller x.call)) z)) y _ (all_counts code (length params) (code.first_variable cl.function) args y.heap y.call.locals) (omega arith)
      (record { counts = counts_none d.heap; lighter = omega arith })
  entered_falls o cl args inner x = nexts nodes (mode.Give []) x _ (omega arith)

  closure_enters : (o : Option ClosureOf) (args : List Value) (inner : List ℕ) (x : Configuration) → Lowers nodes x.heap (above 3 x) (entered nodes code o args inner x)
  closure_enters None args inner x = nexts nodes (mode.Give []) x _ (omega arith)
  closure_enters (Some cl) args inner x = entered_falls (node_at nodes cl.function) cl args inner x

  room_falls : (full : Bool) (o : Option ClosureOf) (args : List Value) (lines inner : List ℕ) (x : Configuration) → Lowers nodes x.heap (above 3 x) (if_room full lines (entered nodes code o args inner) x)
  room_falls true o args lines inner x = failing_lowers nodes lines (codes "stack overflow") x _ (omega arith)
  room_falls false o args lines inner x = closure_enters o args inner x

  handler_falls : (handler f : Value) (args : List Value) (lines : List ℕ) (own : Bool) (x : Configuration) → Falls nodes x.heap (above 3 x) (call_by nodes handler f args lines own x)
  handler_falls value.Nil f args lines own x = inl (failing_lowers nodes lines (attempt_text (codes "call") f) x _ (omega arith))
  handler_falls handler f args lines own x = ticks nodes (if_few lines (f ∷ args) (mode.Call handler (f ∷ args) lines own)) x _ (omega arith)
      (few_lowers nodes lines (f ∷ args) (mode.Call handler (f ∷ args) lines own) (with_tick x) _ (omega arith))

  called_falls : (f : Value) (args : List Value) (lines : List ℕ) (own : Bool) (x : Configuration) → is_hosted (mode.Call f args lines own) ≡ false → Falls nodes x.heap (above 3 x) (called nodes code f args lines own x)
  called_falls (value.Closure i) args lines own x e = inl (room_falls (nat_le 200 (x.below + length (inner_of own lines))) (slice_get x.heap.closures i) args lines (inner_of own lines) x)
  called_falls (value.Builtin b) args lines own x e = absurd (none_false e)
  called_falls (value.Iter i) args lines own x e = absurd (none_false e)
  called_falls f args lines own x e = handler_falls (metamethod x.heap f (codes "__call")) f args lines own x

  pub step_falls : (a : Mode) (x : Configuration) → IsWithin x.heap.used → is_hosted a ≡ false → has_ended (a, x) ≡ false → Falls nodes x.heap (weight nodes (a, x)) (step nodes code a x)
  step_falls (mode.Begin i) x w h e = begun_falls i (node_at nodes i) x
  step_falls (mode.Give vs) x w h e = inl (gives x.frames vs x e)
  step_falls (mode.Leave vs) x w h e = inl (leaves x.frames vs x e)
  step_falls mode.Break x w h e = inl (breaks x.frames x e)
  step_falls (mode.Jump i) x w h e = inl (jumps i x.frames x e)
  step_falls (mode.Raise v) x w h e = absurd (none_false e)
  step_falls (mode.Stopped st) x w h e = absurd (none_false e)
  step_falls (mode.Declare at vs) x w h e = inl (declaring_lowers nodes (declared_all code (code.first_variable at) (name_count_at nodes at) vs x.heap x.call.locals) (λ z. (mode.Give [], z)) x _ (all_counts code (name_count_at nodes at) (code.first_variable at) vs x.heap x.call.locals) (omega arith)
      (record { counts = counts_none (declared_all code (code.first_variable at) (name_count_at nodes at) vs x.heap x.call.locals).heap; lighter = omega arith }))
  step_falls (mode.Targets at next ts) x w h e = targets_fall at next ts (slice_get (targets_at nodes at) next) x refl
  step_falls (mode.Stores at ts xs) x w h e = inl (stores_fall at ts xs x)
  step_falls (mode.Fields at next t count) x w h e = inl (field_falls at next t count (slice_get (fields_at nodes at) next) x refl)
  step_falls (mode.Items at next t count vs) x w h e = inl (items_fall at next t count vs x)
  step_falls (mode.Entry at next t count key v) x w h e = inl (putting_lowers nodes (put_in (lines_at nodes at x.call) t key v x.heap) (mode.Fields at next t count) x _ (put_light nodes (lines_at nodes at x.call) t key v x.heap) (omega arith))
  step_falls (mode.Binary at a b) x w h e = operating_falls (Some (binary_at nodes at)) (lines_at nodes at x.call) (binary_op (binary_at nodes at) a b (lines_at nodes at x.call) x.heap) x
      (record { limit = (binary_grows (binary_at nodes at) a b (lines_at nodes at x.call) x.heap w).same_most_instructions; instructions = (binary_grows (binary_at nodes at) a b (lines_at nodes at x.call) x.heap w).instructions; threads = ap (λ k. k.threads) (binary_alone (binary_at nodes at) a b (lines_at nodes at x.call) x.heap) })
  step_falls (mode.Unary at a) x w h e = operating_falls None (lines_at nodes at x.call) (unary_op (unary_at nodes at) a (lines_at nodes at x.call) x.heap) x
      (record { limit = (unary_grows (unary_at nodes at) a (lines_at nodes at x.call) x.heap w).same_most_instructions; instructions = (unary_grows (unary_at nodes at) a (lines_at nodes at x.call) x.heap w).instructions; threads = ap (λ k. k.threads) (unary_alone (unary_at nodes at) a (lines_at nodes at x.call) x.heap) })
  step_falls (mode.Look at o key) x w h e = look_falls (looked_in o) at o key x
  step_falls (mode.Put at o key v) x w h e = put_falls (put_where o) at o key v x
  step_falls (mode.Turn at outer) x w h e = ticks nodes (λ y. (mode.Begin (test_at nodes at), with_frame (frame.While (while_loop.Test at outer)) y)) x _ (omega arith) (push (frame.While (while_loop.Test at outer)) (mode.Begin (test_at nodes at)) (with_tick x) _ (omega arith))
  step_falls (mode.Round at outer) x w h e = ticks nodes (λ y. (mode.Open (block_at nodes at), with_frame (frame.Repeat (repeat_loop.Turn at outer (length y.call.locals))) y)) x _ (omega arith) (push (frame.Repeat (repeat_loop.Turn at outer (length x.call.locals))) (mode.Open (block_at nodes at)) (with_tick x) _ (omega arith))
  step_falls (mode.Open i) x w h e = open_falls (is_block_node (node_at nodes i)) i x
  step_falls (mode.Start at a b d) x w h e = inl (start_falls at (to_int a) (to_int b) (to_int d) x)
  step_falls (mode.Count at n to by outer) x w h e = count_falls (makes_turn n to by) at n to by outer x
  step_falls (mode.Next at f state control outer) x w h e = ticks nodes (λ y. (mode.Call f (state ∷ control ∷ []) (lines_at nodes at y.call) false, with_frame (frame.Each (each_loop.Next at f state outer)) y)) x _ (omega arith)
      (push (frame.Each (each_loop.Next at f state outer)) (mode.Call f (state ∷ control ∷ []) (lines_at nodes at x.call) false) (with_tick x) _ (omega arith))
  step_falls (mode.Each at f state outer vs) x w h e = inl (each_falls (first vs) at f state outer vs x)
  step_falls (mode.Return at vs) x w h e = inl (few_lowers nodes (lines_at nodes at x.call) vs (mode.Leave vs) x _ (omega arith))
  step_falls (mode.Apply at f args) x w h e = inl (few_lowers nodes (lines_at nodes at x.call) args (mode.Call f args (lines_at nodes at x.call) false) x _ (omega arith))
  step_falls (mode.Call f args lines own) x w h e = called_falls f args lines own x h
  step_falls (mode.Results lines vs) x w h e = inl (few_lowers nodes lines vs (mode.Give vs) x _ (omega arith))
  step_falls (mode.Made after lines vs) x w h e = inl (made_falls after lines vs x)

  -- what has ended stays as it is
  ended_threads : (a : Mode) (fs : List Frame) (x : Configuration) → ends_above a fs ≡ true → (step nodes code a (with_frames fs x)).1.heap.threads ≡ x.heap.threads
  ended_threads (mode.Raise v) fs x e = refl
  ended_threads (mode.Stopped st) fs x e = refl
  ended_threads (mode.Give vs) [] x e = refl
  ended_threads (mode.Leave vs) [] x e = refl
  ended_threads mode.Break [] x e = refl
  ended_threads (mode.Jump i) [] x e = refl
  ended_threads (mode.Give vs) (f ∷ fs) x e = absurd (none_false (sym e))
  ended_threads (mode.Leave vs) (f ∷ fs) x e = absurd (none_false (sym e))
  ended_threads mode.Break (f ∷ fs) x e = absurd (none_false (sym e))
  ended_threads (mode.Jump i) (f ∷ fs) x e = absurd (none_false (sym e))
  ended_threads a fs x e = absurd (none_false (sym e))

  falls_threads : (h : HeapOf) (w : ℕ) (y : Next) → Falls nodes h w y → y.1.heap.threads ≡ h.threads
  falls_threads h w y (inl f) = f.counts.threads
  falls_threads h w y (inr f) = f.counts.threads

  -- A step makes no coroutine.
  pub step_threads : (a : Mode) (x : Configuration) → IsWithin x.heap.used → is_hosted a ≡ false → (step nodes code a x).1.heap.threads ≡ x.heap.threads
  step_threads a x w h = by (has_ended (a, x)) refl
    where
      by : (t : Bool) → has_ended (a, x) ≡ t → (step nodes code a x).1.heap.threads ≡ x.heap.threads
      by true e = ended_threads a x.frames x e
      by false e = falls_threads x.heap (weight nodes (a, x)) (step nodes code a x) (step_falls a x w h e)
