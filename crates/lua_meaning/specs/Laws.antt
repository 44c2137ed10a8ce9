-- What the laws of runs speak of. They are about runs that resume no coroutine: the main thread runs, and no coroutine waits to be resumed.
use Rattle.std.specs.Prelude.{◌≡◌, ℕ, ◌+◌, ◌<◌, ◌≤◌, Bool, IsTrue, List, slice_get}
use Rattle.zc_budget.specs.Used.{Used, IsWithin}
use Rattle.lua_meaning.specs.declared.builtin.Builtin.{Builtin as BuiltinOf}
use Rattle.lua_meaning.specs.declared.value.Value.{Value}
use Rattle.lua_meaning.specs.declared.status.CoStatus.TheVariants as status
use Rattle.lua_meaning.specs.Heap.{HeapOf}
use Rattle.lua_meaning.specs.Store.{State, Store, ThreadOf, OutOfFuel, Resumptions, Result, Go, Halt, state_of}
use Rattle.lua_meaning.specs.Runs.{Run, used_of}
use Rattle.lua_meaning.specs.Operators.{Op}
use Rattle.lua_meaning.specs.Threads.{status_in}
use Rattle.lua_meaning.specs.Jobs.{HostOf}

-- What is used grows within its limits, which stay.
pub record Grows (before after : Used) : Type 0 where
  pub same_most_instructions : after.most_instructions ≡ before.most_instructions
  pub same_most_bytes : after.most_bytes ≡ before.most_bytes
  pub instructions : before.instructions ≤ after.instructions
  pub bytes : before.bytes ≤ after.bytes
  pub within : IsWithin after

-- the main thread runs, and no coroutine waits to be resumed
pub record IsAlone (threads : List ThreadOf) (running : ℕ) : Type 0 where
  pub main : running ≡ 0
  pub no_other : (i : ℕ) → status_in (slice_get threads i) ≡ status.Suspended → ⊥

module _ {H : Type 0} where
  abbrev pub runs_alone : State H → Type 0
  runs_alone w = IsAlone w.threads w.running

  -- what a call of the host leaves, by what there was
  pub record IsFairStep (before after : State H) : Type 0 where
    pub grows : IsWithin before.heap.used → Grows before.heap.used after.heap.used
    pub alone : runs_alone before → runs_alone after

  -- A host gives nothing back that was used, passes no limit, and makes no coroutine that waits to be resumed.
  pub record IsFair (host : HostOf H) : Type 0 where
    pub call : (b : BuiltinOf) (args : List Value) (lines : List ℕ) (w : State H) → IsFairStep w (host.call b args lines w).1
    pub step : (i : ℕ) (args : List Value) (lines : List ℕ) (w : State H) → IsFairStep w (host.step i args lines w).1

  -- The host's calls keep this of its own state.
  pub record KeepsState (keeps : H → Bool) (host : HostOf H) : Type 0 where
    pub call : (b : BuiltinOf) (args : List Value) (lines : List ℕ) (w : State H) → IsTrue (keeps w.host) → IsTrue (keeps (host.call b args lines w).1.host)
    pub step : (i : ℕ) (args : List Value) (lines : List ℕ) (w : State H) → IsTrue (keeps w.host) → IsTrue (keeps (host.step i args lines w).1.host)

  -- the store that a run leaves
  abbrev pub store_of : Result H → Store H
  store_of (Go vs s r) = s
  store_of (Halt e s r) = s

  -- it ended otherwise than for want of fuel
  abbrev pub IsEnded : Result H → Type 0
  IsEnded (Go vs s r) = Unit {0}
  IsEnded (Halt OutOfFuel s r) = ⊥
  IsEnded (Halt e s r) = Unit {0}

  -- what holds where a run begins
  pub record IsStart (s : Store H) : Type 0 where
    pub alone : runs_alone (state_of s)
    pub within : IsWithin (used_of s)

  -- What is used grows in this run.
  abbrev pub GrowsIn : Run H → Type 0
  GrowsIn run = (s : Store H) (r : Resumptions H) → IsStart s → Grows (used_of s) (used_of (store_of (run s r)))

  -- With n as fuel this run ends.
  abbrev pub EndsWith : ℕ → Run H → Type 0
  EndsWith n run = (s : Store H) (r : Resumptions H) → IsStart s → (used_of s).most_instructions < (used_of s).instructions + n → IsEnded (run s r)

  -- What is kept of the host's state stays in this run.
  abbrev pub StaysIn : (H → Bool) → Run H → Type 0
  StaysIn keeps run = (s : Store H) (r : Resumptions H) → IsStart s → IsTrue (keeps (state_of s).host) → IsTrue (keeps (state_of (store_of (run s r))).host)

-- An operator changes nothing of the heap but what is used.
abbrev pub ChangesUsedAlone : Op → Type 0
ChangesUsedAlone op = (h : HeapOf) → (op h).1 ≡ record h { used = (op h).1.used }
