-- A call that the host serves leaves the machine running, and less work.
use Rattle.std.proofs.Common.{◌≡◌, ◌∙◌, ℕ, suc, ◌+◌, ◌<◌, List, [], ◌∷◌, length, Bool, true, false, refl, sym, subst, ap, arith}
use Rattle.std.specs.Prelude.{codes, if◌then◌else◌}
use Rattle.zc_budget.specs.Used.{IsWithin, is_spent, ticked}
use Rattle.zc_budget.specs.declared.budget.Stop.TheVariants as stop
use Rattle.lua_ast.specs.declared.node.LinedNode.{LinedNode}
use Rattle.lua_meaning.specs.declared.value.Value.{Value}
use Rattle.lua_meaning.specs.declared.value.Value.TheVariants as value
use Rattle.lua_meaning.specs.Heap.{HeapOf}
use Rattle.lua_meaning.specs.Store.{State, Store, none, Resumptions, Result, state_of}
use Rattle.lua_meaning.specs.Code.{Code}
use Rattle.lua_meaning.specs.Runs.{Run, go, tick, tick_by as run_by, fails, line_at}
use Rattle.lua_meaning.specs.Jobs.{Answer, Values, Raise, Stopped, CallThen, Resume, Yield, HostOf, Again, Resumes}
use Rattle.lua_meaning.specs.Calls.{if_room, answered, host_answers, apply}
use Rattle.lua_meaning.specs.Programs.{jobs, resume}
use Rattle.lua_values.specs.Ids.{ids_of, AreLater}
use Rattle.lua_coroutines.specs.Threads.{ThreadsOf}
use Rattle.lua_coroutines.specs.Hosts.{IsLawfulHost, IsOfHeap, AddsOnly, state_with}
use Rattle.lua_coroutines.specs.declared.frame.Frame.TheVariants as frame
use Rattle.lua_coroutines.specs.declared.frame.NativeFrame.TheVariants as native
use Rattle.lua_steps.specs.declared.mode.Mode.TheVariants as mode
use Rattle.lua_steps.specs.Frames.{inner_of, jobs_at}
use Rattle.lua_steps.specs.Works.{Leads}
use Rattle.lua_steps.specs.Configuration.{Configuration, with_heap, with_tick}
use Rattle.lua_steps.specs.Effects.{failing}
use Rattle.lua_steps.specs.Own.{AreOfHeap, IsOwnNext}
use Rattle.lua_steps.specs.Keeping.{is_hosted}
use Rattle.lua_steps.proofs.Arriving.{Setting, as_it_is, as_it_is_passes, as_store, Runs, Arrives, departs, works_there, turned, settles, pushes, lowers, failed, few, grows_none, grows_ticked}
use Rattle.lua_steps.proofs.Later.{call_later, frames_later}
use Rattle.lua_steps.proofs.OwnEffects.{same_later, frame_more, failing_own, few_own}
use Rattle.lua_runs.specs.Weights.{frames_weight, weight, most_added, work_left}
use Rattle.lua_runs.specs.Serving.{has_no_room, IsPlain, MakesNoCoroutine, host_call, crossed, served}
use Rattle.lua_runs.specs.Standing.{machine_store, IsRunning}
use Rattle.lua_runs.proofs.Lowering.{counts_none, Lowers, nexts, failing_lowers, few_lowers}
use Rattle.lua_runs.proofs.Working.{work_turns}

never : false ≡ true → ⊥
never e = cc

module _ {H : Type 0} (host : HostOf H) where
  is_applied : (code : Code) (again : Again H) (resumes : Resumes H) (f : Value) (args : List Value) (lines inner : List ℕ) (own : Bool) (s : Store H) (r : Resumptions H) → is_hosted (mode.Call f args lines own) ≡ true →
      apply host code again resumes f args lines inner s r ≡ tick (if_room lines inner (λ s. host_answers host code again resumes (host_call host f args lines (state_of s)) lines inner s)) s r
  is_applied code again resumes (value.Builtin b) args lines inner own s r e = refl
  is_applied code again resumes (value.Iter i) args lines inner own s r e = refl
  is_applied code again resumes f args lines inner own s r e = absurd (never e)

  adds_only : IsLawfulHost host → (f : Value) (args : List Value) (lines : List ℕ) (own : Bool) (w : State H) → is_hosted (mode.Call f args lines own) ≡ true → AddsOnly w (host_call host f args lines w).1
  adds_only law (value.Builtin b) args lines own w e = law.call b args lines w
  adds_only law (value.Iter i) args lines own w e = law.step i args lines w
  adds_only law f args lines own w e = absurd (never e)

  is_plain : MakesNoCoroutine host → (f : Value) (args : List Value) (lines : List ℕ) (own : Bool) (w : State H) → is_hosted (mode.Call f args lines own) ≡ true → IsPlain (host_call host f args lines w).0
  is_plain law (value.Builtin b) args lines own w e = law.call b args lines w
  is_plain law (value.Iter i) args lines own w e = law.step i args lines w
  is_plain law f args lines own w e = absurd (never e)

-- what serving an answer leaves
module _ (nodes : List LinedNode) (lines : List ℕ) (own : Bool) (x : Configuration) where
  pub served_lowers : (a : Answer) → Lowers nodes x.heap (3 + frames_weight nodes x.frames + most_added nodes) (served a lines own x)
  served_lowers (Values vs) = few_lowers nodes lines vs (mode.Give vs) x _ (omega arith)
  served_lowers (Raise v) = nexts nodes (mode.Raise v) x _ (omega arith)
  served_lowers (Stopped st) = nexts nodes (mode.Stopped st) x _ (omega arith)
  served_lowers (CallThen f args after) = record { counts = counts_none x.heap; lighter = omega arith }
  served_lowers (Resume i args wrapped) = nexts nodes (mode.Give []) x _ (omega arith)
  served_lowers (Yield vs) = nexts nodes (mode.Give []) x _ (omega arith)

  pub served_own : (a : Answer) → IsPlain a → IsOfHeap (ids_of x.heap) a → AreOfHeap (ids_of x.heap) x.call x.frames → IsOwnNext (ids_of x.heap) (served a lines own x)
  served_own (Values vs) p made held = few_own (ids_of x.heap) lines vs (mode.Give vs) x (same_later (ids_of x.heap), held) made
  served_own (Raise v) p made held = (same_later (ids_of x.heap), made, held)
  served_own (Stopped st) p made held = (same_later (ids_of x.heap), tt, held)
  served_own (CallThen f args after) p made held = (
    same_later (ids_of x.heap),
    made,
    record {
      call = record { locals = held.call.locals; varargs = held.call.varargs };
      frames = (frame_more (ids_of x.heap) (ids_of x.heap) x.call x.frames (frame.Native (native.Waits after lines x.call)) held held.call).frames;
    },
  )
  served_own (Resume i args wrapped) p made held = absurd p
  served_own (Yield vs) p made held = absurd p

module _ {H : Type 0} (host : HostOf H) (code : Code) (nodes : List LinedNode) (t : ThreadsOf) (w : H) (o : Result H)
    (f : Value) (args : List Value) (lines : List ℕ) (own : Bool) (x : Configuration) (hosted : is_hosted (mode.Call f args lines own) ≡ true) (running : IsRunning host code nodes t w o (mode.Call f args lines own, x)) where
  abbrev here : Setting H
  here = record { host = host; code = code; nodes = nodes; beside = machine_store x t w; ended = 0; whole = running.stands.whole; from = x.heap.used }

  abbrev called_at : (m j : ℕ) → Run H
  called_at m j = λ s. host_answers host code (jobs_at host code nodes m j) (resume host code m) (host_call host f args lines (state_of s)) lines (inner_of own lines) s

  -- the instruction of the call, with the fuel lowered
  begins : Runs here 0 0 x.heap.used x.frames (λ m j r. tick (if_room lines (inner_of own lines) (called_at m j)) (as_store here x) r)
  unfolding jobs
  begins = lowers here 0 (departs here x (mode.Call f args lines own) (grows_none x.heap.used running.within) running.stands.works) _
      (λ m j r. is_applied host code (jobs_at host code nodes m j) (resume host code m) f args lines (inner_of own lines) own (as_store here x) r hosted)

  pub stops_spent : is_spent x.heap.used ≡ true → IsRunning host code nodes t w o (mode.Stopped stop.Instructions, x)
  stops_spent e =
      let there : Arrives here (mode.Stopped stop.Instructions, x) = settles here begins (mode.Stopped stop.Instructions) x (omega arith) (omega arith) (λ m j r. ap (λ q. run_by q (if_room lines (inner_of own lines) (called_at m j)) (as_store here x) r) e) in
      record {
        stands = record { whole = running.stands.whole; works = works_there here (mode.Stopped stop.Instructions, x) there; outcome = running.stands.outcome; ends = running.stands.ends };
        within = running.within;
        mode = tt;
        held = running.held;
        threads = running.threads;
      }

  -- after its instruction
  is_ticked : is_spent x.heap.used ≡ false → Runs here 1 1 (ticked x.heap.used) x.frames (λ m j r. if_room lines (inner_of own lines) (called_at m j) (as_store here (with_tick x)) r)
  is_ticked e = record {
    grows = grows_ticked x.heap.used e running.within;
    ends = λ m r le. (let q = begins.ends m r le in (q.0, q.1, omega (arith, q.2), omega (arith, q.3), subst (λ z. Leads host code nodes m x.heap.used.most_instructions q.1 x.frames z (running.stands.whole m r)) (ap (λ p. run_by p (if_room lines (inner_of own lines) (called_at m q.0)) (as_store here x) r) e) q.4));
  }

  pub fails_full : is_spent x.heap.used ≡ false → has_no_room lines own x ≡ true → IsRunning host code nodes t w o (failing lines (codes "stack overflow") (with_tick x))
  fails_full e full =
      let y = failing lines (codes "stack overflow") (with_tick x) in
      let there : Arrives here y = failed here (with_tick x) as_it_is lines (codes "stack overflow") as_it_is_passes
      (turned here (is_ticked e) (λ m j r. fails lines (codes "stack overflow") (as_store here (with_tick x)) r) (λ m j r. ap (λ q. (if q then fails lines (codes "stack overflow") (as_store here (with_tick x)) else called_at m j (as_store here (with_tick x))) r) full)) in
      let held = failing_own (ids_of x.heap) lines (codes "stack overflow") (with_tick x) (same_later (ids_of x.heap), running.held) in
      let lighter = failing_lowers nodes lines (codes "stack overflow") (with_tick x) (suc (frames_weight nodes x.frames)) (omega arith) in
      record {
        stands = record { whole = running.stands.whole; works = works_there here y there; outcome = ap (λ n. running.stands.whole (suc n) none) there.grows.same_most_instructions ∙ running.stands.outcome; ends = running.stands.ends };
        within = there.grows.within;
        mode = held.1;
        held = held.2;
        threads = running.threads ∙ ap (λ n. n + 1) (sym lighter.counts.threads);
      }

  module _ (law : IsLawfulHost host) (plain : MakesNoCoroutine host) (a : Answer) (h : HeapOf) (t' : ThreadsOf) (w' : H) (answers : host_call host f args lines (state_with (with_tick x).heap t w) ≡ (a, state_with h t' w')) where
    abbrev after_call : Configuration
    after_call = with_heap h (with_tick x)

    abbrev there : Setting H
    there = record { host = host; code = code; nodes = nodes; beside = machine_store after_call t' w'; ended = 0; whole = running.stands.whole; from = h.used }

    added : AddsOnly (state_with (with_tick x).heap t w) (state_with h t' w')
    added = subst (λ z. AddsOnly (state_with (with_tick x).heap t w) z) (ap (λ z. z.1) answers) (adds_only host law f args lines own (state_with (with_tick x).heap t w) hosted)

    a_plain : IsPlain a
    a_plain = subst (λ z. IsPlain z) (ap (λ z. z.0) answers) (is_plain host plain f args lines own (state_with (with_tick x).heap t w) hosted)

    abbrev answered_at : (m j : ℕ) → Answer → Run H
    answered_at m j b = answered host code (jobs_at host code nodes m j) (resume host code m) b lines (inner_of own lines)

    -- the host's answer, in the store that it left
    is_answered : is_spent x.heap.used ≡ false → has_no_room lines own x ≡ false → IsWithin h.used → Runs there 1 1 h.used x.frames (λ m j r. answered_at m j a (as_store there after_call) r)
    is_answered e room within =
        let k = turned here (is_ticked e) (λ m j r. answered_at m j a (as_store there after_call) r)
        (λ m j r. ap (λ q. (if q then fails lines (codes "stack overflow") (as_store here (with_tick x)) else called_at m j (as_store here (with_tick x))) r) room
        ∙ ap (λ z. host_answers host code (jobs_at host code nodes m j) (resume host code m) z lines (inner_of own lines) (as_store here (with_tick x)) r) answers) in
        record {
          grows = grows_none h.used within;
          ends = λ m r le. (let q = k.ends m r le in (q.0, q.1, omega (arith, q.2, added.used, added.instructions), omega (arith, q.3, added.used), subst (λ z. Leads host code nodes m z q.1 x.frames (answered_at m q.0 a (as_store there after_call) r) (running.stands.whole m r)) added.instructions q.4));
        }

    arrives_served : (b : Answer) → IsPlain b → Runs there 1 1 h.used x.frames (λ m j r. answered_at m j b (as_store there after_call) r) → Arrives there (served b lines own after_call)
    arrives_served (Values vs) p k = few there after_call as_it_is lines vs (λ m j. go vs) (mode.Give vs) as_it_is_passes k (λ k. settles there k (mode.Give vs) after_call (omega arith) (omega arith) (λ m j r. refl))
    arrives_served (Raise v) p k = settles there k (mode.Raise v) after_call (omega arith) (omega arith) (λ m j r. refl)
    arrives_served (Stopped st) p k = settles there k (mode.Stopped st) after_call (omega arith) (omega arith) (λ m j r. refl)
    arrives_served (CallThen g args' after) p k = pushes there k (frame.Native (native.Waits after lines x.call)) (mode.Call g args' (line_at lines ∷ inner_of own lines) false) (crossed after_call) refl (omega arith) (omega arith) (λ m j r. refl)
    arrives_served (Resume i args' wrapped) p k = absurd p
    arrives_served (Yield vs) p k = absurd p

    pub goes_on_served : is_spent x.heap.used ≡ false → has_no_room lines own x ≡ false → IsWithin h.used → AreLater (ids_of x.heap) (ids_of h) → IsOfHeap (ids_of h) a → length t'.threads ≡ h.threads + 1 → IsRunning host code nodes t' w' o (served a lines own after_call)
    goes_on_served e room within later made threads =
        let y = served a lines own after_call in
        let arrived : Arrives there y = arrives_served a a_plain (is_answered e room within) in
        let held : AreOfHeap (ids_of h) x.call x.frames = record { call = call_later (ids_of x.heap) (ids_of h) later x.call running.held.call; frames = frames_later (ids_of x.heap) (ids_of h) later x.frames running.held.frames } in
        let next = served_own nodes lines own after_call a a_plain made held in
        record {
          stands = record {
            whole = running.stands.whole;
            works = works_there there y arrived;
            outcome = ap (λ n. running.stands.whole (suc n) none) (arrived.grows.same_most_instructions ∙ sym added.instructions) ∙ running.stands.outcome;
            ends = running.stands.ends;
          };
          within = arrived.grows.within;
          mode = next.1;
          held = next.2;
          threads = threads ∙ ap (λ n. n + 1) (sym (served_lowers nodes lines own after_call a).counts.threads);
        }

-- less work
module _ (nodes : List LinedNode) (f : Value) (args : List Value) (lines : List ℕ) (own : Bool) (x : Configuration) where
  pub less_full : IsWithin x.heap.used → is_spent x.heap.used ≡ false → work_left nodes (failing lines (codes "stack overflow") (with_tick x)) < work_left nodes (mode.Call f args lines own, x)
  less_full within e =
      let z = failing_lowers nodes lines (codes "stack overflow") (with_tick x) (weight nodes (mode.Call f args lines own, x) + most_added nodes) (omega arith) in
      let g = grows_ticked x.heap.used e within in
      work_turns nodes (mode.Call f args lines own, x) (failing lines (codes "stack overflow") (with_tick x)) z.counts.limit g.within.instructions z.counts.instructions z.lighter

  pub less_served : {H : Type 0} (host : HostOf H) (t : ThreadsOf) (w : H) (a : Answer) (h : HeapOf) (t' : ThreadsOf) (w' : H) → IsLawfulHost host → is_hosted (mode.Call f args lines own) ≡ true →
      host_call host f args lines (state_with (with_tick x).heap t w) ≡ (a, state_with h t' w') → IsWithin h.used → work_left nodes (served a lines own (with_heap h (with_tick x))) < work_left nodes (mode.Call f args lines own, x)
  less_served host t w a h t' w' law hosted answers within =
      let z = served_lowers nodes lines own (with_heap h (with_tick x)) a in
      let added : AddsOnly (state_with (with_tick x).heap t w) (state_with h t' w') = subst (λ z. AddsOnly (state_with (with_tick x).heap t w) z) (ap (λ z. z.1) answers) (adds_only host law f args lines own (state_with (with_tick x).heap t w) hosted) in
      work_turns nodes (mode.Call f args lines own, x) (served a lines own (with_heap h (with_tick x))) (z.counts.limit ∙ sym added.instructions) (omega (arith, within.instructions, added.used, added.instructions)) (omega (arith, added.used, z.counts.instructions)) z.lighter
