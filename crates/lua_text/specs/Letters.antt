-- Letters in the other case (Lua 5.2 manual, 6.4). This project's own: the letters are those of ASCII.
use Rattle.std.specs.Prelude.{ℕ, ◌+◌, ◌-◌, ◌&&◌, nat_le, if◌then◌else◌}

abbrev pub lower_of : ℕ → ℕ
lower_of b = if nat_le 65 b && nat_le b 90 then b + 32 else b

abbrev pub upper_of : ℕ → ℕ
upper_of b = if nat_le 97 b && nat_le b 122 then b - 32 else b
