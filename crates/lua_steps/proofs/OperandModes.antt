-- Operators, `object[key]` and `object[key] = value` arrive where they mean.
use Rattle.std.proofs.Common.{ℕ, List, [], ◌∷◌, true, false, Option, Some, None, refl, arith}
use Rattle.std.specs.Prelude.{codes}
use Rattle.lua_ast.specs.declared.node.BinOp.{BinOp}
use Rattle.lua_meaning.specs.declared.value.Value.{Value}
use Rattle.lua_meaning.specs.declared.value.Value.TheVariants as value
use Rattle.lua_meaning.specs.Values.{first, is_function}
use Rattle.lua_meaning.specs.Heap.{entry, metamethod}
use Rattle.lua_meaning.specs.Runs.{go, after, attempt_text, put}
use Rattle.lua_meaning.specs.Jobs.{Again, Apply, Look, Put}
use Rattle.lua_meaning.specs.Operators.{OpAnswer, Done, Meta, Raise, Stopped, answered_op, binary_op, unary_op, negated_if}
use Rattle.lua_meaning.specs.Indexing.{string_table, look, look_in, look_by, look_further, put_at, put_over, put_else, put_further}
use Rattle.lua_meaning.specs.Programs.{jobs}
use Rattle.lua_coroutines.specs.declared.frame.Frame.TheVariants as frame
use Rattle.lua_coroutines.specs.declared.frame.AssignFrame.TheVariants as assign
use Rattle.lua_coroutines.specs.declared.frame.OperandFrame.TheVariants as operand
use Rattle.lua_steps.specs.declared.mode.Mode.TheVariants as mode
use Rattle.lua_steps.specs.Parts.{binary_at, unary_at}
use Rattle.lua_steps.specs.Frames.{told_of, jobs_at}
use Rattle.lua_steps.specs.Configuration.{Configuration, with_heap, with_tick, with_frame, ticking}
use Rattle.lua_steps.specs.Effects.{operated, putting}
use Rattle.lua_steps.specs.Machine.{lines_at, looked_in, put_where, index_by, found_by, looking, put_plain, new_index_by, put_by_found, put_where_found, step}
use Rattle.lua_steps.proofs.Arriving.{Setting, as_it_is, as_it_is_passes, as_store, Runs, Arrives, settles, pushes, moved, lowers, ticks, failed}
use Rattle.lua_steps.proofs.Storing.{puts}
use Rattle.lua_steps.proofs.Growth.{binary_grows, unary_grows}

module _ {H : Type 0} (c : Setting H) where
  abbrev jobs_of : ℕ → ℕ → Again H
  jobs_of m j = jobs_at c.host c.code c.nodes m j

  answer_arrives : (op : Option BinOp) (lines : List ℕ) (answer : OpAnswer) (y : Configuration) → Runs c 0 0 y.heap.used y.frames (λ m j r. answered_op (jobs_of m j) answer lines (told_of op) (as_store c y) r) → Arrives c (operated op lines answer y)
  answer_arrives op lines (Done v) y h = settles c h (mode.Give (told_of op v ∷ [])) y (omega arith) (omega arith) (λ m j r. refl)
  answer_arrives op lines (Meta f args negated) y h =
      ticks c y as_it_is (λ m j s r. after (jobs_of m j (Apply f args lines lines) s r) (λ vs. go (told_of op (negated_if negated (first vs)) ∷ []))) (λ y. (mode.Call f args lines false, with_frame (frame.Operand (operand.Metamethod op negated)) y)) as_it_is_passes h
      (λ h. pushes c h (frame.Operand (operand.Metamethod op negated)) (mode.Call f args lines false) (with_tick y) refl (omega arith) (omega arith) (λ m j r. refl))
  answer_arrives op lines (Raise v) y h = settles c h (mode.Raise v) y (omega arith) (omega arith) (λ m j r. refl)
  answer_arrives op lines (Stopped st) y h = settles c h (mode.Stopped st) y (omega arith) (omega arith) (λ m j r. refl)

  pub arrives_binary : (node : ℕ) (a b : Value) (x : Configuration) → Arrives c (mode.Binary node a b, x) → Arrives c (step c.nodes c.code (mode.Binary node a b) x)
  arrives_binary node a b x h =
      let out = binary_op (binary_at c.nodes node) a b (lines_at c.nodes node x.call) x.heap in
      answer_arrives (Some (binary_at c.nodes node)) (lines_at c.nodes node x.call) out.0 (with_heap out.1 x) (moved c h out.1.used (binary_grows (binary_at c.nodes node) a b (lines_at c.nodes node x.call) x.heap h.grows.within))

  pub arrives_unary : (node : ℕ) (a : Value) (x : Configuration) → Arrives c (mode.Unary node a, x) → Arrives c (step c.nodes c.code (mode.Unary node a) x)
  arrives_unary node a x h =
      let out = unary_op (unary_at c.nodes node) a (lines_at c.nodes node x.call) x.heap in
      answer_arrives None (lines_at c.nodes node x.call) out.0 (with_heap out.1 x) (moved c h out.1.used (unary_grows (unary_at c.nodes node) a (lines_at c.nodes node x.call) x.heap h.grows.within))

  index_calls : (f : Value) (node t : ℕ) (key : Value) (x : Configuration) → Runs c 0 0 x.heap.used x.frames (λ m j r. look_further (jobs_of m j) true f t key (lines_at c.nodes node x.call) (as_store c x) r) →
      Arrives c (ticking (λ y. (mode.Call f (value.Table t ∷ key ∷ []) (lines_at c.nodes node y.call) false, with_frame (frame.Operand operand.Only) y)) x)
  index_calls f node t key x h =
      ticks c x as_it_is (λ m j s r. after (jobs_of m j (Apply f (value.Table t ∷ key ∷ []) (lines_at c.nodes node x.call) (lines_at c.nodes node x.call)) s r) (λ vs. go (first vs ∷ []))) (λ y. (mode.Call f (value.Table t ∷ key ∷ []) (lines_at c.nodes node y.call) false, with_frame (frame.Operand operand.Only) y)) as_it_is_passes h
      (λ h. pushes c h (frame.Operand operand.Only) (mode.Call f (value.Table t ∷ key ∷ []) (lines_at c.nodes node x.call) false) (with_tick x) refl (omega arith) (omega arith) (λ m j r. refl))

  index_goes_further : (f : Value) (node t : ℕ) (key : Value) (x : Configuration) → Runs c 0 0 x.heap.used x.frames (λ m j r. look_further (jobs_of m j) false f t key (lines_at c.nodes node x.call) (as_store c x) r) →
      Arrives c (ticking (λ y. (mode.Look node f key, y)) x)
  unfolding jobs
  index_goes_further f node t key x h =
      ticks c x as_it_is (λ m j. jobs_of m j (Look f key (lines_at c.nodes node x.call))) (λ y. (mode.Look node f key, y)) as_it_is_passes h
      (λ h. settles c (lowers c 0 h (λ m j r. look (jobs_of m j) f key (lines_at c.nodes node x.call) (as_store c (with_tick x)) r) (λ m j r. refl)) (mode.Look node f key) (with_tick x) (omega arith) (omega arith) (λ m j r. refl))

  index_arrives : (f : Value) (node t : ℕ) (key : Value) (x : Configuration) → Runs c 0 0 x.heap.used x.frames (λ m j r. look_by (jobs_of m j) f t key (lines_at c.nodes node x.call) (as_store c x) r) → Arrives c (index_by c.nodes f (is_function f) node t key x)
  index_arrives value.Nil node t key x h = settles c h (mode.Give (value.Nil ∷ [])) x (omega arith) (omega arith) (λ m j r. refl)
  index_arrives (value.Closure i) node t key x h = index_calls (value.Closure i) node t key x h
  index_arrives (value.Builtin i) node t key x h = index_calls (value.Builtin i) node t key x h
  index_arrives (value.Iter i) node t key x h = index_calls (value.Iter i) node t key x h
  index_arrives f node t key x h = index_goes_further f node t key x h

  found_arrives : (found : Value) (node t : ℕ) (key : Value) (x : Configuration) → Runs c 0 0 x.heap.used x.frames (λ m j r. look_in (jobs_of m j) found t key (lines_at c.nodes node x.call) (as_store c x) r) → Arrives c (found_by c.nodes found node t key x)
  found_arrives value.Nil node t key x h = index_arrives (metamethod x.heap (value.Table t) (codes "__index")) node t key x h
  found_arrives v node t key x h = settles c h (mode.Give (v ∷ [])) x (omega arith) (omega arith) (λ m j r. refl)

  pub arrives_look : (node : ℕ) (o key : Value) (x : Configuration) → Arrives c (mode.Look node o key, x) → Arrives c (looking c.nodes (looked_in o) node o key x)
  arrives_look node (value.Table t) key x h = found_arrives (entry x.heap t key) node t key x h
  arrives_look node (value.Text s) key x h = found_arrives (entry x.heap string_table key) node string_table key x h
  arrives_look node o key x h = failed c x as_it_is (lines_at c.nodes node x.call) (attempt_text (codes "index") o) as_it_is_passes h

  plain_arrives : (node t : ℕ) (key v : Value) (x : Configuration) → Runs c 0 0 x.heap.used x.frames (λ m j r. put (lines_at c.nodes node x.call) t key v (go []) (as_store c x) r) → Arrives c (put_plain c.nodes node t key v x)
  plain_arrives node t key v x h = puts c x (lines_at c.nodes node x.call) t key v as_it_is (λ m j. go []) (λ p. putting p (mode.Give []) x) as_it_is_passes (λ b h. refl) (λ h runs. settles c runs (mode.Give []) (with_heap h x) (omega arith) (omega arith) (λ m j r. refl)) h

  put_calls : (f : Value) (node t : ℕ) (key v : Value) (x : Configuration) → Runs c 0 0 x.heap.used x.frames (λ m j r. put_further (jobs_of m j) true f t key v (lines_at c.nodes node x.call) (as_store c x) r) →
      Arrives c (ticking (λ y. (mode.Call f (value.Table t ∷ key ∷ v ∷ []) (lines_at c.nodes node y.call) false, with_frame (frame.Assign (assign.Stores node [] [])) y)) x)
  put_calls f node t key v x h =
      ticks c x as_it_is (λ m j s r. after (jobs_of m j (Apply f (value.Table t ∷ key ∷ v ∷ []) (lines_at c.nodes node x.call) (lines_at c.nodes node x.call)) s r) (λ vs. go [])) (λ y. (mode.Call f (value.Table t ∷ key ∷ v ∷ []) (lines_at c.nodes node y.call) false, with_frame (frame.Assign (assign.Stores node [] [])) y)) as_it_is_passes h
      (λ h. pushes c h (frame.Assign (assign.Stores node [] [])) (mode.Call f (value.Table t ∷ key ∷ v ∷ []) (lines_at c.nodes node x.call) false) (with_tick x) refl (omega arith) (omega arith) (λ m j r. refl))

  put_goes_further : (f : Value) (node t : ℕ) (key v : Value) (x : Configuration) → Runs c 0 0 x.heap.used x.frames (λ m j r. put_further (jobs_of m j) false f t key v (lines_at c.nodes node x.call) (as_store c x) r) →
      Arrives c (ticking (λ y. (mode.Put node f key v, y)) x)
  unfolding jobs
  put_goes_further f node t key v x h =
      ticks c x as_it_is (λ m j. jobs_of m j (Put f key v (lines_at c.nodes node x.call))) (λ y. (mode.Put node f key v, y)) as_it_is_passes h
      (λ h. settles c (lowers c 0 h (λ m j r. put_at (jobs_of m j) f key v (lines_at c.nodes node x.call) (as_store c (with_tick x)) r) (λ m j r. refl)) (mode.Put node f key v) (with_tick x) (omega arith) (omega arith) (λ m j r. refl))

  new_index_arrives : (f : Value) (node t : ℕ) (key v : Value) (x : Configuration) → Runs c 0 0 x.heap.used x.frames (λ m j r. put_else (jobs_of m j) f t key v (lines_at c.nodes node x.call) (as_store c x) r) → Arrives c (new_index_by c.nodes f (is_function f) node t key v x)
  new_index_arrives value.Nil node t key v x h = plain_arrives node t key v x h
  new_index_arrives (value.Closure i) node t key v x h = put_calls (value.Closure i) node t key v x h
  new_index_arrives (value.Builtin i) node t key v x h = put_calls (value.Builtin i) node t key v x h
  new_index_arrives (value.Iter i) node t key v x h = put_calls (value.Iter i) node t key v x h
  new_index_arrives f node t key v x h = put_goes_further f node t key v x h

  over_arrives : (found : Value) (node t : ℕ) (key v : Value) (x : Configuration) → Runs c 0 0 x.heap.used x.frames (λ m j r. put_over (jobs_of m j) found t key v (lines_at c.nodes node x.call) (as_store c x) r) → Arrives c (put_by_found c.nodes found node t key v x)
  over_arrives value.Nil node t key v x h = new_index_arrives (metamethod x.heap (value.Table t) (codes "__newindex")) node t key v x h
  over_arrives found node t key v x h = plain_arrives node t key v x h

  pub arrives_put : (node : ℕ) (o key v : Value) (x : Configuration) → Arrives c (mode.Put node o key v, x) → Arrives c (put_where_found c.nodes (put_where o) node o key v x)
  arrives_put node (value.Table t) key v x h = over_arrives (entry x.heap t key) node t key v x h
  arrives_put node o key v x h = failed c x as_it_is (lines_at c.nodes node x.call) (attempt_text (codes "index") o) as_it_is_passes h
