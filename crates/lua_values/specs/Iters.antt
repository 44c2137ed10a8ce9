-- Iterators over lists of the pool.
use Rattle.std.specs.Prelude.{ℕ, List}
use Rattle.lua_meaning.specs.declared.iter.IterState.{IterState}
use Rattle.lua_meaning.specs.declared.iter.IterState.TheVariants as iter

-- the state once this name was given; that of another function stays
abbrev pub moved_to : (last : List ℕ) → IterState → IterState
moved_to last (iter.List kind id _) = iter.List kind id last
moved_to last state = state
