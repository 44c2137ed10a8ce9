-- The answers of the definitions that Rust values are. Want of memory is no answer of a program: no definition has it.
use Rattle.std.specs.Prelude.{Option, Some, None}
use Rattle.lua_meaning.specs.Jobs.{Answer, Values, Raise, Stopped, CallThen, Resume, Yield}
use Rattle.lua_values.specs.declared.builtin_result.BuiltinResult.{BuiltinResult}
use Rattle.lua_values.specs.declared.builtin_result.BuiltinResult.TheVariants as result

-- the answer of a built-in or an iterator function; none for want of memory
abbrev pub builtin_answer : BuiltinResult → Option Answer
builtin_answer (result.Values vs) = Some (Values vs)
builtin_answer (result.Raise v) = Some (Raise v)
builtin_answer (result.Stop s) = Some (Stopped s)
builtin_answer (result.CallThen f args then) = Some (CallThen f args then)
builtin_answer (result.Resume i args wrapped) = Some (Resume i args wrapped)
builtin_answer (result.Yield vs) = Some (Yield vs)
builtin_answer result.NoMemory = None
