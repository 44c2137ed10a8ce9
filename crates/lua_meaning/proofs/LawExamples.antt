-- The premises of the laws can be met: a host that answers every call with no values is fair, and a store without coroutines is a start.
use Rattle.std.proofs.Common.{[], false, refl, subst, arith}
use Rattle.zc_budget.specs.Used.{Used, IsWithin, unused}
use Rattle.lua_meaning.specs.declared.status.CoStatus.{CoStatus}
use Rattle.lua_meaning.specs.declared.status.CoStatus.TheVariants as status
use Rattle.lua_meaning.specs.Store.{State, Store, store, none}
use Rattle.lua_meaning.specs.Jobs.{Values, HostOf}
use Rattle.lua_meaning.specs.Laws.{Grows, IsFair, IsFairStep, IsStart}

abbrev quiet_host : HostOf (Unit {0})
quiet_host = record { call = λ b args lines w. (Values [], w); step = λ i args lines w. (Values [], w) }

stays_as_it_is : (u : Used) → IsWithin u → Grows u u
stays_as_it_is u h = record { same_most_instructions = refl; same_most_bytes = refl; instructions = omega arith; bytes = omega arith; within = h }

quiet_step : (w : State (Unit {0})) → IsFairStep w w
quiet_step w = record { grows = stays_as_it_is w.heap.used; alone = λ h. h }

quiet_host_is_fair : IsFair quiet_host
quiet_host_is_fair = record { call = λ b args lines w. quiet_step w; step = λ i args lines w. quiet_step w }

abbrev quiet_start : Store (Unit {0})
quiet_start = store
    (record { heap = record { tables = []; cells = []; closures = []; iters = []; threads = 0; used = unused 10 100 }; threads = []; running = 0; host = tt })
    0 (record { locals = []; varargs = []; lines = []; across = false }) none

abbrev NotSuspended : CoStatus → Type 0
NotSuspended status.Suspended = ⊥
NotSuspended _ = Unit {0}

quiet_start_is_one : IsStart quiet_start
quiet_start_is_one = record { alone = record { main = refl; no_other = λ i e. subst NotSuspended e tt }; within = record { instructions = omega arith; bytes = omega arith } }
