-- The coroutines of a program.
use Rattle.std.specs.Prelude.{ℕ, List, [], ◌∷◌}
use Rattle.lua_meaning.specs.declared.value.Value.TheVariants as value
use Rattle.lua_meaning.specs.declared.status.CoStatus.TheVariants as status
use Rattle.lua_meaning.specs.Store.{ThreadOf}

pub record ThreadsOf : Type 0 where
  pub threads : List ThreadOf
  pub running : ℕ

-- before a program makes one
abbrev pub main_alone : ThreadsOf
main_alone = record { threads = record { function = value.Nil; status = status.Running } ∷ []; running = 0 }
