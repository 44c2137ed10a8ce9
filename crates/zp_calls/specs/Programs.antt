-- Calls of channel programs: zfs-program(8).
use Rattle.std.specs.Prelude.{ℕ, Bool, Result, Ok, Err}
use Rattle.std.specs.Borrow.{Bor}
use Rattle.std.specs.declared.sync.Arc.{Arc}
use Rattle.std.specs.Arc.{arc_value}
use Rattle.zc_budget.specs.Used.{IsLimit, greatest_instructions, greatest_bytes}
use Rattle.lua_scope.specs.Loads.{Program}
use Rattle.lua_scope.specs.declared.load_error.LoadError.{LoadError}

-- the greatest number of instructions, and of bytes of memory, that a program may have
abbrev pub AreLimits : ℕ → ℕ → Type 0
AreLimits instructions memory = IsLimit greatest_instructions instructions × IsLimit greatest_bytes memory

-- the program, or why its text does not load, where calls share it
abbrev pub loaded_of : {Z : Type 0} → Result (Arc Program Z) LoadError → Result Program LoadError
loaded_of (Ok p) = Ok (arc_value p)
loaded_of (Err e) = Err e

-- the same, where it is lent
abbrev pub lent_of : Result (Bor Program) LoadError → Result Program LoadError
lent_of (Ok p) = Ok p.now
lent_of (Err e) = Err e

-- a call: the program, or why its text does not load, the greatest number of its instructions and of its bytes of memory, and
-- whether it may change the pool
pub record Called : Type 0 where
  pub loaded : Result Program LoadError
  pub instructions : ℕ
  pub memory : ℕ
  pub sync : Bool
