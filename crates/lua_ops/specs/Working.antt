-- What an operator on numbers comes to, as a Rust value.
use Rattle.std.specs.Prelude.{codes}
use Rattle.lua_meaning.specs.Numbers.{Worked, number, refused}
use Rattle.lua_ops.specs.declared.arithmetic.Worked.{Worked as WorkedOf}
use Rattle.lua_ops.specs.declared.arithmetic.Worked.TheVariants as made

abbrev pub worked_of : WorkedOf → Worked
worked_of (made.Number z) = number z
worked_of made.DividesByZero = refused (codes "attempt to divide by zero")
worked_of made.HasNegativeExponent = refused (codes "negative exponent")
