-- What a built-in pays before it goes on: instructions and memory.
use Rattle.std.specs.Prelude.{ℕ, zero, suc, if◌then◌else◌}
use Rattle.zc_budget.specs.Used.{is_spent, ticked, is_over, charged}
use Rattle.zc_budget.specs.declared.budget.Stop.TheVariants as stop
use Rattle.lua_meaning.specs.Jobs.{Stopped}
use Rattle.lua_arguments.specs.Answering.{Calling}

-- n bytes of memory
abbrev pub charges : ℕ → Calling → Calling
charges n next h = if is_over n h.used then (Stopped stop.Memory, h) else next (record h { used = charged n h.used })

-- n instructions
abbrev pub ticks : ℕ → Calling → Calling
ticks zero next h = next h
ticks (suc n) next h = if is_spent h.used then (Stopped stop.Instructions, h) else ticks n next (record h { used = ticked h.used })
