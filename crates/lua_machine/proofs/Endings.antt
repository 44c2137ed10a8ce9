-- How a machine ends.
use Rattle.std.specs.Prelude.{◌≡◌, List, refl}
use Rattle.zc_budget.specs.declared.budget.Stop.{Stop}
use Rattle.lua_meaning.specs.declared.value.Value.{Value}
use Rattle.lua_steps.specs.declared.mode.Mode.{Mode}
use Rattle.lua_steps.specs.declared.mode.Mode.TheVariants as mode
use Rattle.lua_machine.specs.declared.outcome.Outcome.TheVariants as outcome
use Rattle.lua_machine.specs.Outcomes.{of_mode}

pub no_outcome : (b : Mode) → ((vs : List Value) → b ≡ mode.Give vs → ⊥) → ((v : Value) → b ≡ mode.Raise v → ⊥) → ((st : Stop) → b ≡ mode.Stopped st → ⊥) → outcome.NoMemory ≡ of_mode b
no_outcome (mode.Give vs) g r s = absurd (g vs refl)
no_outcome (mode.Raise v) g r s = absurd (r v refl)
no_outcome (mode.Stopped st) g r s = absurd (s st refl)
no_outcome _ g r s = refl
