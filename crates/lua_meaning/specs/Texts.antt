-- The text of every value, as `tostring` gives it where there is no `__tostring` (Lua 5.2 manual, 6.1).
-- This project's own: a table, a function of the program, an iterator function and a coroutine are told by their numbers, in order of making from 1; the table of globals is 0. A text that is made costs memory.
use Rattle.std.specs.Prelude.{ℕ, ◌+◌, pos, Bool, true, false, List, ◌++◌, codes}
use Rattle.std.specs.Fmt.{signed_decimal}
use Rattle.lua_meaning.specs.declared.value.Value.{Value}
use Rattle.lua_meaning.specs.declared.value.Value.TheVariants as value
use Rattle.lua_meaning.specs.Builtins.{name_of}
use Rattle.lua_meaning.specs.Heap.{text_bytes}
use Rattle.lua_meaning.specs.Operators.{Op, op_charge, done}

abbrev pub plain_text : Value → List ℕ
plain_text value.Nil = codes "nil"
plain_text (value.Bool true) = codes "true"
plain_text (value.Bool false) = codes "false"
plain_text (value.Int z) = signed_decimal z
plain_text (value.Text s) = s
plain_text (value.Table t) = codes "table: " ++ signed_decimal (pos t)
plain_text (value.Closure c) = codes "function: " ++ signed_decimal (pos (c + 1))
plain_text (value.Builtin b) = codes "function: " ++ name_of b
plain_text (value.Iter i) = codes "function: iter " ++ signed_decimal (pos (i + 1))
plain_text (value.Thread t) = codes "thread: " ++ signed_decimal (pos t)

-- a text is itself, at no cost
abbrev pub to_text : Value → Op
to_text (value.Text s) = done (value.Text s)
to_text v = op_charge (text_bytes (plain_text v)) (done (value.Text (plain_text v)))
