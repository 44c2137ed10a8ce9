-- What a list of numbers stands for.
use Rattle.std.specs.Prelude.{◌≡◌, ℕ, List, reverse}
use Rattle.turn_lock_tests.specs.declared.numbers.Numbers.{Numbers}

-- the numbers, the newest first
abbrev pub newest_first : Numbers → List ℕ
newest_first v = reverse v.items.items

abbrev pub StandsFor : Numbers → Unit {0} → List ℕ → Type 0
StandsFor v origin list = list ≡ newest_first v

-- the maker of a number is who holds it
abbrev pub itself : ℕ → ℕ
itself n = n
