-- Calls of built-ins and iterator functions, which the host serves.
use Rattle.std.proofs.Common.{◌≡◌, ℕ, zero, suc, ◌+◌, ◌<◌, ◌≤◌, List, ◌∷◌, length, Bool, true, false, refl, sym, arith, ap}
use Rattle.std.specs.Prelude.{nat_lt, nat_le, codes}
use Rattle.zc_budget.specs.Used.{is_spent}
use Rattle.zc_budget.specs.declared.budget.Stop.{Stop}
use Rattle.zc_budget.specs.declared.budget.Stop.TheVariants as stop
use Rattle.lua_ast.specs.declared.node.LinedNode.{LinedNode}
use Rattle.lua_meaning.specs.declared.builtin.Builtin.{Builtin as BuiltinOf}
use Rattle.lua_meaning.specs.declared.value.Value.{Value}
use Rattle.lua_meaning.specs.declared.value.Value.TheVariants as value
use Rattle.lua_meaning.specs.declared.status.After.{After}
use Rattle.lua_meaning.specs.Store.{State, Store, Raises, Stops, Resumptions, Result, Go, Halt, state_of, with_state, below_of, call_of}
use Rattle.lua_meaning.specs.Code.{Code}
use Rattle.lua_meaning.specs.Runs.{used_of, line_at as line_of_call, fails}
use Rattle.lua_meaning.specs.Jobs.{HostOf, Values, Raise, Stopped, CallThen, Apply}
use Rattle.lua_meaning.specs.Calls.{crossing, then_made}
use Rattle.lua_meaning.specs.Programs.{jobs}
use Rattle.lua_coroutines.specs.declared.frame.Frame.{Frame}
use Rattle.lua_coroutines.specs.declared.frame.Frame.TheVariants as frame
use Rattle.lua_coroutines.specs.declared.frame.NativeFrame.TheVariants as native
use Rattle.lua_steps.specs.declared.mode.Mode.{Mode}
use Rattle.lua_steps.specs.declared.mode.Mode.TheVariants as mode
use Rattle.lua_steps.specs.Frames.{jobs_at, goes_on, means, inner_of}
use Rattle.lua_steps.specs.Works.{spare, need, used, limit, Goes, Works}
use Rattle.lua_steps.proofs.Steps.{after_tick, stay, push}

module _ {H : Type 0} (host : HostOf H) (code : Code) (nodes : List LinedNode) (ended : ℕ) (whole : ℕ → Resumptions H → Result H) where
  abbrev At : Store H → List Frame → Mode → Type 0
  At s fs b = Works host code nodes ended s fs b whole

  pub builtin_spent : (s s' : Store H) (fs : List Frame) (b : BuiltinOf) (args : List Value) (lines : List ℕ) (own : Bool) → used s ≤ limit s → is_spent (used_of s) ≡ true → Goes s s' → s' ≡ s → used s ≤ used s' → At s fs (mode.Call (value.Builtin b) args lines own) → At s' fs (mode.Stopped stop.Instructions)
  unfolding jobs
  builtin_spent s s' fs b args lines own le t' go' same_store ticks = stay host code nodes ended s s' fs (mode.Call (value.Builtin b) args lines own) (mode.Stopped stop.Instructions) whole go' (omega (arith, go'.since)) falls
    where
      falls : (m n : ℕ) (r : Resumptions H) → limit s + 1 < used s + n → (k : ℕ) × (limit s + need (mode.Stopped stop.Instructions) < used s' + k) × (means host code nodes m n (mode.Call (value.Builtin b) args lines own) s r ≡ means host code nodes m k (mode.Stopped stop.Instructions) s' r)
      falls m zero r h = absurd (omega (arith, le, h))
      falls m (suc n) r h = (n, omega (arith, h, ticks), rw t' (ap (λ u. Halt (Stops stop.Instructions) u r) (sym same_store)))

  pub builtin_overflows : (s s' : Store H) (fs : List Frame) (b : BuiltinOf) (to : Mode) (args : List Value) (lines : List ℕ) (own : Bool) → used s ≤ limit s → is_spent (used_of s) ≡ false → nat_le 200 (below_of (after_tick s) + length (inner_of own lines)) ≡ true → Goes s s' → spare to ≡ 0 → need to ≡ 0 → used s ≤ used s' → ((m n : ℕ) (r : Resumptions H) → fails lines (codes "stack overflow") (after_tick s) r ≡ means host code nodes m n to s' r) → At s fs (mode.Call (value.Builtin b) args lines own) → At s' fs (to)
  unfolding jobs
  builtin_overflows s s' fs b to args lines own le t' full go' z w ticks ends = stay host code nodes ended s s' fs (mode.Call (value.Builtin b) args lines own) (to) whole go' (omega (arith, go'.since, z)) falls
    where
      falls : (m n : ℕ) (r : Resumptions H) → limit s + 1 < used s + n → (k : ℕ) × (limit s + need (to) < used s' + k) × (means host code nodes m n (mode.Call (value.Builtin b) args lines own) s r ≡ means host code nodes m k (to) s' r)
      falls m zero r h = absurd (omega (arith, le, h))
      falls m (suc n) r h = (n, omega (arith, h, ticks, w), rw t' (rw full (ends m n r)))

  pub builtin_gives : (s s' : Store H) (fs : List Frame) (b : BuiltinOf) (w' : State H) (vs : List Value) (args : List Value) (lines : List ℕ) (own : Bool) → used s ≤ limit s → is_spent (used_of s) ≡ false → nat_le 200 (below_of (after_tick s) + length (inner_of own lines)) ≡ false → host.call b args lines (state_of (after_tick s)) ≡ (Values vs, w') → nat_lt 250 (length vs) ≡ false → s' ≡ (with_state w' (after_tick s)) → Goes s s' → used s ≤ used s' → At s fs (mode.Call (value.Builtin b) args lines own) → At s' fs (mode.Give vs)
  unfolding jobs
  builtin_gives s s' fs b w' vs args lines own le t' room answers few left go' ticks = stay host code nodes ended s s' fs (mode.Call (value.Builtin b) args lines own) (mode.Give vs) whole go' (omega (arith, go'.since)) falls
    where
      falls : (m n : ℕ) (r : Resumptions H) → limit s + 1 < used s + n → (k : ℕ) × (limit s + need (mode.Give vs) < used s' + k) × (means host code nodes m n (mode.Call (value.Builtin b) args lines own) s r ≡ means host code nodes m k (mode.Give vs) s' r)
      falls m zero r h = absurd (omega (arith, le, h))
      falls m (suc n) r h = (n, omega (arith, h, ticks), rw t' (rw room (rw answers (rw few (ap (λ u. Go vs u r) (sym left))))))

  pub builtin_raises : (s s' : Store H) (fs : List Frame) (b : BuiltinOf) (w' : State H) (v : Value) (args : List Value) (lines : List ℕ) (own : Bool) → used s ≤ limit s → is_spent (used_of s) ≡ false → nat_le 200 (below_of (after_tick s) + length (inner_of own lines)) ≡ false → host.call b args lines (state_of (after_tick s)) ≡ (Raise v, w') → s' ≡ (with_state w' (after_tick s)) → Goes s s' → used s ≤ used s' → At s fs (mode.Call (value.Builtin b) args lines own) → At s' fs (mode.Raise v)
  unfolding jobs
  builtin_raises s s' fs b w' v args lines own le t' room answers left go' ticks = stay host code nodes ended s s' fs (mode.Call (value.Builtin b) args lines own) (mode.Raise v) whole go' (omega (arith, go'.since)) falls
    where
      falls : (m n : ℕ) (r : Resumptions H) → limit s + 1 < used s + n → (k : ℕ) × (limit s + need (mode.Raise v) < used s' + k) × (means host code nodes m n (mode.Call (value.Builtin b) args lines own) s r ≡ means host code nodes m k (mode.Raise v) s' r)
      falls m zero r h = absurd (omega (arith, le, h))
      falls m (suc n) r h = (n, omega (arith, h, ticks), rw t' (rw room (rw answers (ap (λ u. Halt (Raises v) u r) (sym left)))))

  pub builtin_stops : (s s' : Store H) (fs : List Frame) (b : BuiltinOf) (w' : State H) (st : Stop) (args : List Value) (lines : List ℕ) (own : Bool) → used s ≤ limit s → is_spent (used_of s) ≡ false → nat_le 200 (below_of (after_tick s) + length (inner_of own lines)) ≡ false → host.call b args lines (state_of (after_tick s)) ≡ (Stopped st, w') → s' ≡ (with_state w' (after_tick s)) → Goes s s' → used s ≤ used s' → At s fs (mode.Call (value.Builtin b) args lines own) → At s' fs (mode.Stopped st)
  unfolding jobs
  builtin_stops s s' fs b w' st args lines own le t' room answers left go' ticks = stay host code nodes ended s s' fs (mode.Call (value.Builtin b) args lines own) (mode.Stopped st) whole go' (omega (arith, go'.since)) falls
    where
      falls : (m n : ℕ) (r : Resumptions H) → limit s + 1 < used s + n → (k : ℕ) × (limit s + need (mode.Stopped st) < used s' + k) × (means host code nodes m n (mode.Call (value.Builtin b) args lines own) s r ≡ means host code nodes m k (mode.Stopped st) s' r)
      falls m zero r h = absurd (omega (arith, le, h))
      falls m (suc n) r h = (n, omega (arith, h, ticks), rw t' (rw room (rw answers (ap (λ u. Halt (Stops st) u r) (sym left)))))

  pub builtin_gives_too_many : (s s' : Store H) (fs : List Frame) (b : BuiltinOf) (w' : State H) (vs : List Value) (to : Mode) (args : List Value) (lines : List ℕ) (own : Bool) → used s ≤ limit s → is_spent (used_of s) ≡ false → nat_le 200 (below_of (after_tick s) + length (inner_of own lines)) ≡ false → host.call b args lines (state_of (after_tick s)) ≡ (Values vs, w') → nat_lt 250 (length vs) ≡ true → Goes s s' → spare to ≡ 0 → need to ≡ 0 → used s ≤ used s' → ((m n : ℕ) (r : Resumptions H) → fails lines (codes "too many values") (with_state w' (after_tick s)) r ≡ means host code nodes m n to s' r) → At s fs (mode.Call (value.Builtin b) args lines own) → At s' fs (to)
  unfolding jobs
  builtin_gives_too_many s s' fs b w' vs to args lines own le t' room answers many go' z w ticks ends = stay host code nodes ended s s' fs (mode.Call (value.Builtin b) args lines own) (to) whole go' (omega (arith, go'.since, z)) falls
    where
      falls : (m n : ℕ) (r : Resumptions H) → limit s + 1 < used s + n → (k : ℕ) × (limit s + need (to) < used s' + k) × (means host code nodes m n (mode.Call (value.Builtin b) args lines own) s r ≡ means host code nodes m k (to) s' r)
      falls m zero r h = absurd (omega (arith, le, h))
      falls m (suc n) r h = (n, omega (arith, h, ticks, w), rw t' (rw room (rw answers (rw many (ends m n r)))))

  -- it calls a function, and waits
  pub builtin_calls : (s s' : Store H) (fs : List Frame) (b : BuiltinOf) (w' : State H) (f' : Value) (args' : List Value) (a : After) (args : List Value) (lines : List ℕ) (own : Bool) → used s ≤ limit s → is_spent (used_of s) ≡ false → nat_le 200 (below_of (after_tick s) + length (inner_of own lines)) ≡ false → host.call b args lines (state_of (after_tick s)) ≡ (CallThen f' args' a, w') → s' ≡ crossing (with_state w' (after_tick s)) → Goes s s' → used s + 1 ≤ used s' → At s fs (mode.Call (value.Builtin b) args lines own) → At s' (frame.Native (native.Waits a lines (call_of (with_state w' (after_tick s)))) ∷ fs) (mode.Call f' args' (line_of_call lines ∷ (inner_of own lines)) false)
  unfolding jobs
  builtin_calls s s' fs b w' f' args' a args lines own le t' room answers left go' ticks = push host code nodes ended s s' fs (frame.Native (native.Waits a lines (call_of (with_state w' (after_tick s))))) (mode.Call (value.Builtin b) args lines own) (mode.Call f' args' (line_of_call lines ∷ (inner_of own lines)) false) whole go' refl (omega (arith, go'.since)) falls
    where
      falls : (m n : ℕ) (r : Resumptions H) → limit s + 1 < used s + n → (j k : ℕ) × (limit s + 1 < used s' + j) × (limit s + need (mode.Call f' args' (line_of_call lines ∷ (inner_of own lines)) false) < used s' + k) × (means host code nodes m n (mode.Call (value.Builtin b) args lines own) s r ≡ goes_on host code nodes m j (frame.Native (native.Waits a lines (call_of (with_state w' (after_tick s))))) (means host code nodes m k (mode.Call f' args' (line_of_call lines ∷ (inner_of own lines)) false) s' r))
      falls m zero r h = absurd (omega (arith, le, h))
      falls m (suc n) r h = (n, n, omega (arith, h, ticks), omega (arith, h, ticks), rw t' (rw room (rw answers (ap (λ u. then_made a lines (call_of (with_state w' (after_tick s))) (jobs_at host code nodes m n (Apply f' args' (line_of_call lines ∷ (inner_of own lines)) (line_of_call lines ∷ (inner_of own lines))) u r)) (sym left)))))

  pub iter_spent : (s s' : Store H) (fs : List Frame) (b : ℕ) (args : List Value) (lines : List ℕ) (own : Bool) → used s ≤ limit s → is_spent (used_of s) ≡ true → Goes s s' → s' ≡ s → used s ≤ used s' → At s fs (mode.Call (value.Iter b) args lines own) → At s' fs (mode.Stopped stop.Instructions)
  unfolding jobs
  iter_spent s s' fs b args lines own le t' go' same_store ticks = stay host code nodes ended s s' fs (mode.Call (value.Iter b) args lines own) (mode.Stopped stop.Instructions) whole go' (omega (arith, go'.since)) falls
    where
      falls : (m n : ℕ) (r : Resumptions H) → limit s + 1 < used s + n → (k : ℕ) × (limit s + need (mode.Stopped stop.Instructions) < used s' + k) × (means host code nodes m n (mode.Call (value.Iter b) args lines own) s r ≡ means host code nodes m k (mode.Stopped stop.Instructions) s' r)
      falls m zero r h = absurd (omega (arith, le, h))
      falls m (suc n) r h = (n, omega (arith, h, ticks), rw t' (ap (λ u. Halt (Stops stop.Instructions) u r) (sym same_store)))

  pub iter_overflows : (s s' : Store H) (fs : List Frame) (b : ℕ) (to : Mode) (args : List Value) (lines : List ℕ) (own : Bool) → used s ≤ limit s → is_spent (used_of s) ≡ false → nat_le 200 (below_of (after_tick s) + length (inner_of own lines)) ≡ true → Goes s s' → spare to ≡ 0 → need to ≡ 0 → used s ≤ used s' → ((m n : ℕ) (r : Resumptions H) → fails lines (codes "stack overflow") (after_tick s) r ≡ means host code nodes m n to s' r) → At s fs (mode.Call (value.Iter b) args lines own) → At s' fs (to)
  unfolding jobs
  iter_overflows s s' fs b to args lines own le t' full go' z w ticks ends = stay host code nodes ended s s' fs (mode.Call (value.Iter b) args lines own) (to) whole go' (omega (arith, go'.since, z)) falls
    where
      falls : (m n : ℕ) (r : Resumptions H) → limit s + 1 < used s + n → (k : ℕ) × (limit s + need (to) < used s' + k) × (means host code nodes m n (mode.Call (value.Iter b) args lines own) s r ≡ means host code nodes m k (to) s' r)
      falls m zero r h = absurd (omega (arith, le, h))
      falls m (suc n) r h = (n, omega (arith, h, ticks, w), rw t' (rw full (ends m n r)))

  pub iter_gives : (s s' : Store H) (fs : List Frame) (b : ℕ) (w' : State H) (vs : List Value) (args : List Value) (lines : List ℕ) (own : Bool) → used s ≤ limit s → is_spent (used_of s) ≡ false → nat_le 200 (below_of (after_tick s) + length (inner_of own lines)) ≡ false → host.step b args lines (state_of (after_tick s)) ≡ (Values vs, w') → nat_lt 250 (length vs) ≡ false → s' ≡ (with_state w' (after_tick s)) → Goes s s' → used s ≤ used s' → At s fs (mode.Call (value.Iter b) args lines own) → At s' fs (mode.Give vs)
  unfolding jobs
  iter_gives s s' fs b w' vs args lines own le t' room answers few left go' ticks = stay host code nodes ended s s' fs (mode.Call (value.Iter b) args lines own) (mode.Give vs) whole go' (omega (arith, go'.since)) falls
    where
      falls : (m n : ℕ) (r : Resumptions H) → limit s + 1 < used s + n → (k : ℕ) × (limit s + need (mode.Give vs) < used s' + k) × (means host code nodes m n (mode.Call (value.Iter b) args lines own) s r ≡ means host code nodes m k (mode.Give vs) s' r)
      falls m zero r h = absurd (omega (arith, le, h))
      falls m (suc n) r h = (n, omega (arith, h, ticks), rw t' (rw room (rw answers (rw few (ap (λ u. Go vs u r) (sym left))))))

  pub iter_raises : (s s' : Store H) (fs : List Frame) (b : ℕ) (w' : State H) (v : Value) (args : List Value) (lines : List ℕ) (own : Bool) → used s ≤ limit s → is_spent (used_of s) ≡ false → nat_le 200 (below_of (after_tick s) + length (inner_of own lines)) ≡ false → host.step b args lines (state_of (after_tick s)) ≡ (Raise v, w') → s' ≡ (with_state w' (after_tick s)) → Goes s s' → used s ≤ used s' → At s fs (mode.Call (value.Iter b) args lines own) → At s' fs (mode.Raise v)
  unfolding jobs
  iter_raises s s' fs b w' v args lines own le t' room answers left go' ticks = stay host code nodes ended s s' fs (mode.Call (value.Iter b) args lines own) (mode.Raise v) whole go' (omega (arith, go'.since)) falls
    where
      falls : (m n : ℕ) (r : Resumptions H) → limit s + 1 < used s + n → (k : ℕ) × (limit s + need (mode.Raise v) < used s' + k) × (means host code nodes m n (mode.Call (value.Iter b) args lines own) s r ≡ means host code nodes m k (mode.Raise v) s' r)
      falls m zero r h = absurd (omega (arith, le, h))
      falls m (suc n) r h = (n, omega (arith, h, ticks), rw t' (rw room (rw answers (ap (λ u. Halt (Raises v) u r) (sym left)))))

  pub iter_stops : (s s' : Store H) (fs : List Frame) (b : ℕ) (w' : State H) (st : Stop) (args : List Value) (lines : List ℕ) (own : Bool) → used s ≤ limit s → is_spent (used_of s) ≡ false → nat_le 200 (below_of (after_tick s) + length (inner_of own lines)) ≡ false → host.step b args lines (state_of (after_tick s)) ≡ (Stopped st, w') → s' ≡ (with_state w' (after_tick s)) → Goes s s' → used s ≤ used s' → At s fs (mode.Call (value.Iter b) args lines own) → At s' fs (mode.Stopped st)
  unfolding jobs
  iter_stops s s' fs b w' st args lines own le t' room answers left go' ticks = stay host code nodes ended s s' fs (mode.Call (value.Iter b) args lines own) (mode.Stopped st) whole go' (omega (arith, go'.since)) falls
    where
      falls : (m n : ℕ) (r : Resumptions H) → limit s + 1 < used s + n → (k : ℕ) × (limit s + need (mode.Stopped st) < used s' + k) × (means host code nodes m n (mode.Call (value.Iter b) args lines own) s r ≡ means host code nodes m k (mode.Stopped st) s' r)
      falls m zero r h = absurd (omega (arith, le, h))
      falls m (suc n) r h = (n, omega (arith, h, ticks), rw t' (rw room (rw answers (ap (λ u. Halt (Stops st) u r) (sym left)))))

  pub iter_gives_too_many : (s s' : Store H) (fs : List Frame) (b : ℕ) (w' : State H) (vs : List Value) (to : Mode) (args : List Value) (lines : List ℕ) (own : Bool) → used s ≤ limit s → is_spent (used_of s) ≡ false → nat_le 200 (below_of (after_tick s) + length (inner_of own lines)) ≡ false → host.step b args lines (state_of (after_tick s)) ≡ (Values vs, w') → nat_lt 250 (length vs) ≡ true → Goes s s' → spare to ≡ 0 → need to ≡ 0 → used s ≤ used s' → ((m n : ℕ) (r : Resumptions H) → fails lines (codes "too many values") (with_state w' (after_tick s)) r ≡ means host code nodes m n to s' r) → At s fs (mode.Call (value.Iter b) args lines own) → At s' fs (to)
  unfolding jobs
  iter_gives_too_many s s' fs b w' vs to args lines own le t' room answers many go' z w ticks ends = stay host code nodes ended s s' fs (mode.Call (value.Iter b) args lines own) (to) whole go' (omega (arith, go'.since, z)) falls
    where
      falls : (m n : ℕ) (r : Resumptions H) → limit s + 1 < used s + n → (k : ℕ) × (limit s + need (to) < used s' + k) × (means host code nodes m n (mode.Call (value.Iter b) args lines own) s r ≡ means host code nodes m k (to) s' r)
      falls m zero r h = absurd (omega (arith, le, h))
      falls m (suc n) r h = (n, omega (arith, h, ticks, w), rw t' (rw room (rw answers (rw many (ends m n r)))))

  -- it calls a function, and waits
  pub iter_calls : (s s' : Store H) (fs : List Frame) (b : ℕ) (w' : State H) (f' : Value) (args' : List Value) (a : After) (args : List Value) (lines : List ℕ) (own : Bool) → used s ≤ limit s → is_spent (used_of s) ≡ false → nat_le 200 (below_of (after_tick s) + length (inner_of own lines)) ≡ false → host.step b args lines (state_of (after_tick s)) ≡ (CallThen f' args' a, w') → s' ≡ crossing (with_state w' (after_tick s)) → Goes s s' → used s + 1 ≤ used s' → At s fs (mode.Call (value.Iter b) args lines own) → At s' (frame.Native (native.Waits a lines (call_of (with_state w' (after_tick s)))) ∷ fs) (mode.Call f' args' (line_of_call lines ∷ (inner_of own lines)) false)
  unfolding jobs
  iter_calls s s' fs b w' f' args' a args lines own le t' room answers left go' ticks = push host code nodes ended s s' fs (frame.Native (native.Waits a lines (call_of (with_state w' (after_tick s))))) (mode.Call (value.Iter b) args lines own) (mode.Call f' args' (line_of_call lines ∷ (inner_of own lines)) false) whole go' refl (omega (arith, go'.since)) falls
    where
      falls : (m n : ℕ) (r : Resumptions H) → limit s + 1 < used s + n → (j k : ℕ) × (limit s + 1 < used s' + j) × (limit s + need (mode.Call f' args' (line_of_call lines ∷ (inner_of own lines)) false) < used s' + k) × (means host code nodes m n (mode.Call (value.Iter b) args lines own) s r ≡ goes_on host code nodes m j (frame.Native (native.Waits a lines (call_of (with_state w' (after_tick s))))) (means host code nodes m k (mode.Call f' args' (line_of_call lines ∷ (inner_of own lines)) false) s' r))
      falls m zero r h = absurd (omega (arith, le, h))
      falls m (suc n) r h = (n, n, omega (arith, h, ticks), omega (arith, h, ticks), rw t' (rw room (rw answers (ap (λ u. then_made a lines (call_of (with_state w' (after_tick s))) (jobs_at host code nodes m n (Apply f' args' (line_of_call lines ∷ (inner_of own lines)) (line_of_call lines ∷ (inner_of own lines))) u r)) (sym left)))))
