-- When a machine has come to its end, and how.
use Rattle.std.specs.Prelude.{◌≡◌, Bool, true, false, List, [], ◌∷◌}
use Rattle.lua_meaning.specs.Store.{Store, none, Result, Go, Halt, Raises, Stops}
use Rattle.lua_coroutines.specs.declared.frame.Frame.{Frame}
use Rattle.lua_steps.specs.declared.mode.Mode.{Mode}
use Rattle.lua_steps.specs.declared.mode.Mode.TheVariants as mode
use Rattle.lua_steps.specs.Configuration.{Next}

-- no frame is left that could go on
abbrev pub has_none : List Frame → Bool
has_none [] = true
has_none (f ∷ fs) = false

-- An error and a stop pass every frame; what is handed on ends where no frame is left.
abbrev pub ends_above : Mode → List Frame → Bool
ends_above (mode.Raise v) fs = true
ends_above (mode.Stopped st) fs = true
ends_above (mode.Give vs) fs = has_none fs
ends_above (mode.Leave vs) fs = has_none fs
ends_above mode.Break fs = has_none fs
ends_above (mode.Jump i) fs = has_none fs
ends_above a fs = false

abbrev pub has_ended : Next → Bool
has_ended y = ends_above y.0 y.1.frames

-- The outcome of a program that ended in this mode and left this store: its values, an error or a stop.
abbrev pub IsOutcome : {H : Type 0} → Mode → Store H → Result H → Type 0
IsOutcome (mode.Give vs) s o = o ≡ Go vs s none
IsOutcome (mode.Raise v) s o = o ≡ Halt (Raises v) s none
IsOutcome (mode.Stopped st) s o = o ≡ Halt (Stops st) s none
IsOutcome a s o = ⊥
