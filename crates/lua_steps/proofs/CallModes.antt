-- Calls, and lists of arguments and results, arrive where they mean.
use Rattle.std.proofs.Common.{◌≡◌, ◌∙◌, ℕ, ◌+◌, List, [], ◌∷◌, length, drop, Bool, true, false, Option, Some, None, slice_get, option_map, refl, ap, arith}
use Rattle.std.proofs.lemmas.Bool.{true≢false}
use Rattle.std.specs.Prelude.{nat_le, codes, if◌then◌else◌}
use Rattle.lua_ast.specs.declared.node.Node.{Node}
use Rattle.lua_ast.specs.declared.node.Node.TheVariants as node
use Rattle.lua_ast.specs.declared.node.LinedNode.{LinedNode}
use Rattle.lua_ast.specs.Decode.{node_tree}
use Rattle.lua_meaning.specs.declared.value.Value.{Value}
use Rattle.lua_meaning.specs.declared.value.Value.TheVariants as value
use Rattle.lua_meaning.specs.declared.status.After.{After}
use Rattle.lua_meaning.specs.declared.status.After.TheVariants.{FirstThree, OneText}
use Rattle.lua_meaning.specs.Values.{first}
use Rattle.lua_meaning.specs.Heap.{ClosureOf, metamethod}
use Rattle.lua_meaning.specs.Store.{Returns}
use Rattle.lua_meaning.specs.Runs.{go, halt, tick, fails, if_few as few_run, attempt_text}
use Rattle.lua_meaning.specs.Locals.{captured_locals, declare_all}
use Rattle.lua_meaning.specs.Jobs.{Again, Apply}
use Rattle.lua_meaning.specs.Calls.{body_ends, body_call, varargs_of, enter_function, enter, by_call, apply}
use Rattle.lua_meaning.specs.Programs.{jobs, resume}
use Rattle.lua_coroutines.specs.declared.frame.Frame.TheVariants as frame
use Rattle.lua_coroutines.specs.declared.frame.BodyFrame.TheVariants as body
use Rattle.lua_steps.specs.declared.mode.Mode.TheVariants as mode
use Rattle.lua_steps.specs.Parts.{part}
use Rattle.lua_steps.specs.Frames.{jobs_at, runs, inner_of}
use Rattle.lua_steps.specs.Configuration.{Configuration, with_call, with_frame, with_tick, ticking}
use Rattle.lua_steps.specs.Effects.{declared_all, if_few}
use Rattle.lua_steps.specs.Machine.{if_room, lines_at, made_by, call_by, entered_node, entered, called, step}
use Rattle.lua_steps.specs.Keeping.{AreTrees, AreFunctions, is_hosted}
use Rattle.lua_steps.proofs.NodeTrees.{tree_missing}
use Rattle.lua_steps.proofs.Arriving.{Setting, as_it_is, as_it_is_passes, as_store, Runs, Arrives, turned, settles, pushes_at, lowers, ticks, failed, few}
use Rattle.lua_steps.proofs.Storing.{declared_in, declares, says_all}

module _ {H : Type 0} (c : Setting H) where
  abbrev jobs_of : ℕ → ℕ → Again H
  jobs_of m j = jobs_at c.host c.code c.nodes m j

  pub arrives_return : (statement : ℕ) (vs : List Value) (x : Configuration) → Arrives c (mode.Return statement vs, x) → Arrives c (step c.nodes c.code (mode.Return statement vs) x)
  arrives_return statement vs x h = few c x as_it_is (lines_at c.nodes statement x.call) vs (λ m j. halt (Returns vs)) (mode.Leave vs) as_it_is_passes h (λ h. settles c h (mode.Leave vs) x (omega arith) (omega arith) (λ m j r. refl))

  pub arrives_apply : (at : ℕ) (f : Value) (args : List Value) (x : Configuration) → Arrives c (mode.Apply at f args, x) → Arrives c (step c.nodes c.code (mode.Apply at f args) x)
  arrives_apply at f args x h = few c x as_it_is (lines_at c.nodes at x.call) args (λ m j. jobs_of m j (Apply f args (lines_at c.nodes at x.call) (lines_at c.nodes at x.call))) (mode.Call f args (lines_at c.nodes at x.call) false) as_it_is_passes h
      (λ h. settles c h (mode.Call f args (lines_at c.nodes at x.call) false) x (omega arith) (omega arith) (λ m j r. refl))

  pub arrives_results : (lines : List ℕ) (vs : List Value) (x : Configuration) → Arrives c (mode.Results lines vs, x) → Arrives c (step c.nodes c.code (mode.Results lines vs) x)
  arrives_results lines vs x h = few c x as_it_is lines vs (λ m j. go vs) (mode.Give vs) as_it_is_passes h (λ h. settles c h (mode.Give vs) x (omega arith) (omega arith) (λ m j r. refl))

  pub arrives_made : (after : After) (lines : List ℕ) (vs : List Value) (x : Configuration) → Arrives c (mode.Made after lines vs, x) → Arrives c (made_by c.nodes after lines vs x)
  arrives_made FirstThree lines vs x h = settles c h (mode.Give (first vs ∷ first (drop 1 vs) ∷ first (drop 2 vs) ∷ [])) x (omega arith) (omega arith) (λ m j r. refl)
  arrives_made OneText lines (value.Text s ∷ vs) x h = settles c h (mode.Give (value.Text s ∷ [])) x (omega arith) (omega arith) (λ m j r. refl)
  arrives_made OneText lines vs x h = failed c x as_it_is lines (codes "bad argument 1 to tostring") as_it_is_passes h

  -- the body of a closure
  entered_arrives : (cl : ClosureOf) (l : ℕ) (args : List Value) (inner : List ℕ) (x : Configuration) (n : Node) →
      Runs c 0 0 x.heap.used x.frames (λ m j r. enter_function c.host c.code (jobs_of m j) (resume c.host c.code m) (node_tree (part c.nodes) cl.function l n) cl args inner (as_store c x) r) → Arrives c (entered_node c.nodes c.code (Some n) cl args inner x)
  entered_arrives cl l args inner x (node.Function params vararg block) h =
      let y : Configuration = with_call (body_call (captured_locals (c.code.captured cl.function) cl.cells) (varargs_of vararg (length params) args) inner x.call.across) x in
      declares c y (declared_all c.code (c.code.first_variable cl.function) (length params) args y.heap y.call.locals) (declare_all c.code (c.code.first_variable cl.function) (length params) args) (λ m j o. body_ends x.call o) (λ m j. runs c.host c.code c.nodes m j block)
      (λ z. (mode.Begin block, with_frame (frame.Body (body.Caller x.call)) z)) (record { raises = λ m j v s r. refl; stops = λ m j st s r. refl }) (says_all c (length params) (c.code.first_variable cl.function) args y) h
      (λ h. pushes_at c h (frame.Body (body.Caller x.call)) (mode.Begin block) (declared_in (declared_all c.code (c.code.first_variable cl.function) (length params) args y.heap y.call.locals) y) refl
      (λ m i r lt. ((declared_all c.code (c.code.first_variable cl.function) (length params) args y.heap y.call.locals).heap.used.most_instructions + 2, i, omega arith, omega (arith, lt), refl)))
  entered_arrives cl l args inner x n h = settles c h (mode.Give []) x (omega arith) (omega arith) (λ m j r. refl)

  enters_at : (trees : AreTrees c.nodes) (functions : AreFunctions c.code c.nodes) (cl : ClosureOf) (args : List Value) (inner : List ℕ) (x : Configuration) (o : Option LinedNode) → slice_get c.nodes cl.function ≡ o →
      Runs c 0 0 x.heap.used x.frames (λ m j r. enter_function c.host c.code (jobs_of m j) (resume c.host c.code m) (c.code.function cl.function) cl args inner (as_store c x) r) → Arrives c (entered_node c.nodes c.code (option_map (λ l. l.node) o) cl args inner x)
  enters_at trees functions cl args inner x None e h = settles c h (mode.Give []) x (omega arith) (omega arith)
      (λ m j r. ap (λ t. enter_function c.host c.code (jobs_of m j) (resume c.host c.code m) t cl args inner (as_store c x) r) (functions cl.function ∙ tree_missing c.nodes cl.function e))
  enters_at trees functions cl args inner x (Some l) e h = entered_arrives cl l.line args inner x l.node
      (turned c h (λ m j r. enter_function c.host c.code (jobs_of m j) (resume c.host c.code m) (node_tree (part c.nodes) cl.function l.line l.node) cl args inner (as_store c x) r)
      (λ m j r. ap (λ t. enter_function c.host c.code (jobs_of m j) (resume c.host c.code m) t cl args inner (as_store c x) r) (functions cl.function ∙ trees cl.function l e)))

  closure_arrives : (trees : AreTrees c.nodes) (functions : AreFunctions c.code c.nodes) (args : List Value) (inner : List ℕ) (x : Configuration) (o : Option ClosureOf) →
      Runs c 0 0 x.heap.used x.frames (λ m j r. enter c.host c.code (jobs_of m j) (resume c.host c.code m) o args inner (as_store c x) r) → Arrives c (entered c.nodes c.code o args inner x)
  closure_arrives trees functions args inner x None h = settles c h (mode.Give []) x (omega arith) (omega arith) (λ m j r. refl)
  closure_arrives trees functions args inner x (Some cl) h = enters_at trees functions cl args inner x (slice_get c.nodes cl.function) refl h

  room_arrives : (trees : AreTrees c.nodes) (functions : AreFunctions c.code c.nodes) (i : ℕ) (args : List Value) (lines inner : List ℕ) (x : Configuration) (full : Bool) →
      Runs c 0 0 x.heap.used x.frames (λ m j r. (if full then fails lines (codes "stack overflow") (as_store c x) else enter c.host c.code (jobs_of m j) (resume c.host c.code m) (slice_get x.heap.closures i) args inner (as_store c x)) r) →
      Arrives c (if_room full lines (entered c.nodes c.code (slice_get x.heap.closures i) args inner) x)
  room_arrives trees functions i args lines inner x true h = failed c x as_it_is lines (codes "stack overflow") as_it_is_passes h
  room_arrives trees functions i args lines inner x false h = closure_arrives trees functions args inner x (slice_get x.heap.closures i) h

  -- `__call`
  called_through : (handler f : Value) (args : List Value) (lines : List ℕ) (own : Bool) (x : Configuration) →
      Runs c 0 0 x.heap.used x.frames (λ m j r. tick (few_run lines (f ∷ args) (jobs_of m j (Apply handler (f ∷ args) lines (inner_of own lines)))) (as_store c x) r) → Arrives c (ticking (if_few lines (f ∷ args) (mode.Call handler (f ∷ args) lines own)) x)
  called_through handler f args lines own x h =
      ticks c x as_it_is (λ m j. few_run lines (f ∷ args) (jobs_of m j (Apply handler (f ∷ args) lines (inner_of own lines)))) (if_few lines (f ∷ args) (mode.Call handler (f ∷ args) lines own)) as_it_is_passes h
      (λ h. few c (with_tick x) as_it_is lines (f ∷ args) (λ m j. jobs_of m j (Apply handler (f ∷ args) lines (inner_of own lines))) (mode.Call handler (f ∷ args) lines own) as_it_is_passes h
      (λ h. settles c h (mode.Call handler (f ∷ args) lines own) (with_tick x) (omega arith) (omega arith) (λ m j r. refl)))

  handler_arrives : (handler f : Value) (args : List Value) (lines : List ℕ) (own : Bool) (x : Configuration) →
      Runs c 0 0 x.heap.used x.frames (λ m j r. by_call c.host c.code (jobs_of m j) (resume c.host c.code m) handler f args lines (inner_of own lines) (as_store c x) r) → Arrives c (call_by c.nodes handler f args lines own x)
  handler_arrives value.Nil f args lines own x h = failed c x as_it_is lines (attempt_text (codes "call") f) as_it_is_passes h
  handler_arrives handler f args lines own x h = called_through handler f args lines own x h

  -- a call, at one less
  called_arrives : (trees : AreTrees c.nodes) (functions : AreFunctions c.code c.nodes) (f : Value) (args : List Value) (lines : List ℕ) (own : Bool) (x : Configuration) → is_hosted (mode.Call f args lines own) ≡ false →
      Runs c 0 0 x.heap.used x.frames (λ m j r. apply c.host c.code (jobs_of m j) (resume c.host c.code m) f args lines (inner_of own lines) (as_store c x) r) → Arrives c (called c.nodes c.code f args lines own x)
  called_arrives trees functions (value.Closure i) args lines own x e h = room_arrives trees functions i args lines (inner_of own lines) x (nat_le 200 (x.below + length (inner_of own lines))) h
  called_arrives trees functions (value.Builtin b) args lines own x e h = absurd (true≢false e)
  called_arrives trees functions (value.Iter i) args lines own x e h = absurd (true≢false e)
  called_arrives trees functions f args lines own x e h = handler_arrives (metamethod x.heap f (codes "__call")) f args lines own x h

  pub arrives_call : (trees : AreTrees c.nodes) (functions : AreFunctions c.code c.nodes) (f : Value) (args : List Value) (lines : List ℕ) (own : Bool) (x : Configuration) → is_hosted (mode.Call f args lines own) ≡ false →
      Arrives c (mode.Call f args lines own, x) → Arrives c (called c.nodes c.code f args lines own x)
  unfolding jobs
  arrives_call trees functions f args lines own x e h = called_arrives trees functions f args lines own x e
      (lowers c 0 h (λ m j r. apply c.host c.code (jobs_of m j) (resume c.host c.code m) f args lines (inner_of own lines) (as_store c x) r) (λ m j r. refl))
