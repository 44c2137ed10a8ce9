-- Positions, repetitions and places as Lua 5.2 answers them.
use Rattle.std.specs.Prelude.{◌≡◌, pos, negsuc, [], codes, Some, None, refl}
use Rattle.lua_text.specs.Positions.{between, bytes_between}
use Rattle.lua_text.specs.Repeating.{repeated}
use Rattle.lua_text.specs.Finding.{found, first_place}

middle : bytes_between (codes "dataset") (pos 2) (pos 4) ≡ codes "ata"
unfolding between
middle = refl

last_three : bytes_between (codes "dataset") (negsuc 2) (negsuc 0) ≡ codes "set"
unfolding between
last_three = refl

past_both_ends : bytes_between (codes "pool") (negsuc 8) (pos 40) ≡ codes "pool"
unfolding between
past_both_ends = refl

from_zero : bytes_between (codes "pool") (pos 0) (pos 1) ≡ codes "p"
unfolding between
from_zero = refl

backwards : bytes_between (codes "pool") (pos 3) (pos 2) ≡ []
unfolding between
backwards = refl

three_times : repeated 3 (codes "ab") (codes "-") ≡ codes "ab-ab-ab"
unfolding repeated
three_times = refl

no_time_at_all : repeated 0 (codes "ab") (codes "-") ≡ []
unfolding repeated
no_time_at_all = refl

second_slash : first_place (codes "a/b/c") (codes "/") (pos 3) ≡ Some 4
unfolding found
second_slash = refl

from_the_end : first_place (codes "a/b/c") (codes "/") (negsuc 1) ≡ Some 4
unfolding found
from_the_end = refl

empty_behind_the_last : first_place (codes "ab") [] (pos 3) ≡ Some 3
unfolding found
empty_behind_the_last = refl

past_the_end : first_place (codes "ab") [] (pos 4) ≡ None
unfolding found
past_the_end = refl
