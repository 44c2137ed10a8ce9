-- How a program ends, by its meaning and by the machine that ran it.
use Rattle.std.specs.Prelude.{◌≡◌, ⊤, Option, Some, None}
use Rattle.lua_meaning.specs.Store.{State, Result, Go, Halt, Raises, Stops, state_of}
use Rattle.lua_meaning.specs.Laws.{store_of}
use Rattle.lua_steps.specs.declared.mode.Mode.{Mode}
use Rattle.lua_steps.specs.declared.mode.Mode.TheVariants as mode
use Rattle.lua_machine.specs.declared.outcome.Outcome.{Outcome}
use Rattle.lua_machine.specs.declared.outcome.Outcome.TheVariants as outcome

-- the outcome of a machine that ended in this mode; it ends in no other
abbrev pub of_mode : Mode → Outcome
of_mode (mode.Give vs) = outcome.Returned vs
of_mode (mode.Raise v) = outcome.Raised v
of_mode (mode.Stopped st) = outcome.Stopped st
of_mode b = outcome.NoMemory

module _ {W : Type 0} where
  -- how a whole program ends: with values, an error or a stop
  abbrev pub outcome_in : Result W → Option Outcome
  outcome_in (Go vs s r) = Some (outcome.Returned vs)
  outcome_in (Halt (Raises v) s r) = Some (outcome.Raised v)
  outcome_in (Halt (Stops st) s r) = Some (outcome.Stopped st)
  outcome_in (Halt e s r) = None

  -- with the heap, the coroutines and the host's state that it leaves
  abbrev pub ending : Result W → Option Outcome × State W
  ending o = (outcome_in o, state_of (store_of o))

  -- A machine that told this outcome and left this state came to the end of this result; where memory was wanting, nothing is said.
  abbrev pub IsEnding : Outcome → State W → Result W → Type 0
  IsEnding outcome.NoMemory w o = ⊤
  IsEnding t w o = ending o ≡ (Some t, w)
