-- Dropping all of a list.
use Rattle.std.proofs.Common.{◌≡◌, ℕ, ◌≤◌, List, [], length, drop, arith}
use Rattle.std.proofs.lemmas.Grind.{common_steps}

pub drop-past : (i : ℕ) (xs : List ℕ) → length xs ≤ i → drop i xs ≡ []
drop-past i xs h = grind (arith, common_steps)
