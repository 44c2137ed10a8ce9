-- How many levels are open in frames.
use Rattle.std.specs.Prelude.{ℕ, suc, List, [], ◌∷◌}
use Rattle.lua_parser_state.specs.declared.frame.Frame.{Frame}
use Rattle.lua_parser_state.specs.declared.frame.Frame.TheVariants as frame

-- The levels that are open in a frame, above n. In a key they are those of the brace and of the bracket.
abbrev pub lift_of : Frame → ℕ → ℕ
lift_of (frame.InKey _) n = suc (suc n)
lift_of (frame.InStatement _) n = n
lift_of (frame.InHeader _) n = n
lift_of _ n = suc n

abbrev pub depth_of : List Frame → ℕ
depth_of [] = 0
depth_of (f ∷ fs) = lift_of f (depth_of fs)
