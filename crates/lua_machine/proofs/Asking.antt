-- A call that the host serves leaves a machine running, and less work.
use Rattle.std.proofs.Common.{◌≡◌, ◌∙◌, ℕ, ◌+◌, ◌<◌, List, length, Bool, true, false, Option, Some, None, Result, IfOk, IfSome, sym, subst, ap}
use Rattle.std.proofs.lemmas.Result.{IfOk-weaker}
use Rattle.std.specs.Prelude.{codes, option_map}
use Rattle.zc_budget.specs.Used.{IsWithin, is_spent}
use Rattle.zc_budget.specs.declared.budget.Stop.{Stop}
use Rattle.zc_budget.specs.declared.budget.Stop.TheVariants as stop
use Rattle.lua_ast.specs.declared.node.LinedNode.{LinedNode}
use Rattle.lua_meaning.specs.declared.value.Value.{Value}
use Rattle.lua_meaning.specs.Store.{Result as ResultOf}
use Rattle.lua_meaning.specs.Code.{Code}
use Rattle.lua_meaning.specs.Jobs.{Answer, HostOf}
use Rattle.lua_values.specs.Ids.{ids_of, AreLater}
use Rattle.lua_coroutines.specs.Threads.{ThreadsOf}
use Rattle.lua_coroutines.specs.Hosts.{IsLawfulHost, IsOfHeap, state_with}
use Rattle.lua_steps.specs.declared.mode.Mode.{Mode}
use Rattle.lua_steps.specs.declared.mode.Mode.TheVariants as mode
use Rattle.lua_steps.specs.Configuration.{Configuration, with_heap, with_tick}
use Rattle.lua_steps.specs.Effects.{failing}
use Rattle.lua_steps.specs.Keeping.{is_hosted}
use Rattle.lua_runs.specs.Weights.{work_left}
use Rattle.lua_runs.specs.Serving.{has_no_room, MakesNoCoroutine, host_call, served}
use Rattle.lua_runs.specs.Standing.{IsRunning}
use Rattle.lua_runs.proofs.HostCalls.{stops_spent, fails_full, goes_on_served, less_served}

inner_eq : {X : Type 0} (a b : X) → Some a ≡ Some b → a ≡ b
inner_eq a b e = cc

is_some_one : {X : Type 0} (a : X) → Some a ≡ None → ⊥
is_some_one a e = cc

-- `z` with a number is what a machine has after each thing that it does: z1 before it is asked for an instruction, z2 behind it.
module _ {H : Type 0} (host : HostOf H) (code : Code) (nodes : List LinedNode) (t : ThreadsOf) (w : H) (o : ResultOf H) (f : Value) (args : List Value) (lines : List ℕ) (own : Bool) (x : Configuration) (hosted : is_hosted (mode.Call f args lines own) ≡ true) where
  abbrev IsGoing : Mode × Configuration → Type 0
  IsGoing y = IsRunning host code nodes t w o y

  pub spent_stops : (z1 z2 : Configuration) (st : Stop) → z1 ≡ x → is_spent z1.heap.used ≡ true → z2 ≡ z1 → st ≡ stop.Instructions → IsRunning host code nodes t w o (mode.Call f args lines own, x) → IsRunning host code nodes t w o (mode.Stopped st, z2)
  spent_stops z1 z2 st same spent rest is running =
      subst (λ (z : Configuration). IsGoing (mode.Stopped st, z)) (sym (rest ∙ same))
      (subst (λ (q : Stop). IsGoing (mode.Stopped q, x)) (sym is)
      (stops_spent host code nodes t w o f args lines own x hosted running (subst (λ (z : Configuration). is_spent z.heap.used ≡ true) same spent)))

  pub full_fails : {E : Type 0} (r : Result Mode E) (z3 : Configuration) → is_spent x.heap.used ≡ false → has_no_room lines own x ≡ true → IfOk r (λ m. (m, z3) ≡ failing lines (codes "stack overflow") (with_tick x)) → IsRunning host code nodes t w o (mode.Call f args lines own, x) → IfOk r (λ m. IsRunning host code nodes t w o (m, z3))
  full_fails r z3 left full told running =
      IfOk-weaker r (λ m. (m, z3) ≡ failing lines (codes "stack overflow") (with_tick x)) (λ m. IsGoing (m, z3))
      (λ m e. subst IsGoing (sym e) (fails_full host code nodes t w o f args lines own x hosted running left full)) told

-- The host was asked: z4 is what the machine has then, and z5 the same.
module _ {H : Type 0} (host : HostOf H) (t : ThreadsOf) (w : H) (f : Value) (args : List Value) (lines : List ℕ) (own : Bool) (x : Configuration) (hosted : is_hosted (mode.Call f args lines own) ≡ true)
    (law : IsLawfulHost host) (z2 z4 z5 : Configuration) (ticked : z2 ≡ with_tick x) (others : z4 ≡ with_heap z4.heap z2) (same : z5 ≡ z4) (t' : ThreadsOf) (w' : H) (within : IsWithin z4.heap.used) where
  -- what the host made of the call
  abbrev Answers : Answer → Type 0
  Answers a = host_call host f args lines (state_with z2.heap t w) ≡ (a, state_with z4.heap t' w')

  asked : (a : Answer) → Answers a → host_call host f args lines (state_with (with_tick x).heap t w) ≡ (a, state_with z4.heap t' w')
  asked a e = subst (λ (z : Configuration). host_call host f args lines (state_with z.heap t w) ≡ (a, state_with z4.heap t' w')) ticked e

  next : (a : Answer) (m : Mode) (z6 : Configuration) → Some (m, z6) ≡ Some (served a lines own z5) → (m, z6) ≡ served a lines own (with_heap z4.heap (with_tick x))
  next a m z6 e = inner_eq (m, z6) (served a lines own z5) e ∙ ap (λ (z : Configuration). served a lines own z) (same ∙ others ∙ ap (λ (z : Configuration). with_heap z4.heap z) ticked)

  module _ (nodes : List LinedNode) where
    falls : (m : Mode) (z6 : Configuration) (q : Option Answer) → IfSome q Answers → Some (m, z6) ≡ option_map (λ a. served a lines own z5) q → work_left nodes (m, z6) < work_left nodes (mode.Call f args lines own, x)
    falls m z6 None answers e = absurd (is_some_one (m, z6) e)
    falls m z6 (Some a) answers e =
        subst (λ (y : Mode × Configuration). work_left nodes y < work_left nodes (mode.Call f args lines own, x)) (sym (next a m z6 e))
        (less_served nodes f args lines own x host t w a z4.heap t' w' law hosted (asked a answers) within)

    pub served_falls : {E : Type 0} (r : Result Mode E) (z6 : Configuration) (q : Option Answer) → IfSome q (λ a. host_call host f args lines (state_with z2.heap t w) ≡ (a, state_with z4.heap t' w')) →
        IfOk r (λ m. Some (m, z6) ≡ option_map (λ a. served a lines own z5) q) → IfOk r (λ m. work_left nodes (m, z6) < work_left nodes (mode.Call f args lines own, x))
    served_falls r z6 q answers told =
        IfOk-weaker r (λ m. Some (m, z6) ≡ option_map (λ a. served a lines own z5) q) (λ m. work_left nodes (m, z6) < work_left nodes (mode.Call f args lines own, x)) (λ m e. falls m z6 q answers e) told

    module _ (code : Code) (o : ResultOf H) (plain : MakesNoCoroutine host) (left : is_spent x.heap.used ≡ false) (room : has_no_room lines own x ≡ false) (later : AreLater (ids_of x.heap) (ids_of z4.heap)) where
      goes : IsRunning host code nodes t w o (mode.Call f args lines own, x) → (m : Mode) (z6 : Configuration) (q : Option Answer) → IfSome q Answers → IfSome q (IsOfHeap (ids_of z4.heap)) → IfSome q (λ _. length t'.threads ≡ z4.heap.threads + 1) →
          Some (m, z6) ≡ option_map (λ a. served a lines own z5) q → IsRunning host code nodes t' w' o (m, z6)
      goes running m z6 None answers made threads e = absurd (is_some_one (m, z6) e)
      goes running m z6 (Some a) answers made threads e =
          subst (λ (y : Mode × Configuration). IsRunning host code nodes t' w' o y) (sym (next a m z6 e))
          (goes_on_served host code nodes t w o f args lines own x hosted running law plain a z4.heap t' w' (asked a answers) left room within later made threads)

      pub served_goes : {E : Type 0} (r : Result Mode E) (z6 : Configuration) (q : Option Answer) → IfSome q (λ a. host_call host f args lines (state_with z2.heap t w) ≡ (a, state_with z4.heap t' w')) → IfSome q (IsOfHeap (ids_of z4.heap)) → IfSome q (λ _. length t'.threads ≡ z4.heap.threads + 1) →
          IfOk r (λ m. Some (m, z6) ≡ option_map (λ a. served a lines own z5) q) → IsRunning host code nodes t w o (mode.Call f args lines own, x) → IfOk r (λ m. IsRunning host code nodes t' w' o (m, z6))
      served_goes r z6 q answers made threads told running =
          IfOk-weaker r (λ m. Some (m, z6) ≡ option_map (λ a. served a lines own z5) q) (λ m. IsRunning host code nodes t' w' o (m, z6)) (λ m e. goes running m z6 q answers made threads e) told
