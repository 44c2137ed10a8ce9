-- Arguments that a built-in doesn't take. This project's own: the text of the error, which names the first of them, counted from 1.
use Rattle.std.specs.Prelude.{ℕ, List, ◌++◌, codes, decimal, Option, Some, None}
use Rattle.lua_meaning.specs.declared.builtin.Builtin.{Builtin as BuiltinOf}
use Rattle.lua_meaning.specs.Builtins.{name_of}
use Rattle.lua_arguments.specs.Answering.{Calling, raises_at}

abbrev pub bad_argument_text : (number : ℕ) → BuiltinOf → List ℕ
bad_argument_text number builtin = codes "bad argument " ++ decimal number ++ codes " to " ++ name_of builtin

abbrev pub bad_argument : (number : ℕ) → BuiltinOf → (lines : List ℕ) → Calling
bad_argument number builtin lines = raises_at lines (bad_argument_text number builtin)

-- goes on with an argument where there is one that is taken
abbrev pub with_argument : {A : Type 0} → (number : ℕ) → BuiltinOf → (lines : List ℕ) → Option A → (A → Calling) → Calling
with_argument number builtin lines None next = bad_argument number builtin lines
with_argument number builtin lines (Some a) next = next a
