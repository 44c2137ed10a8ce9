-- How built-ins take their arguments (Lua 5.2 manual, 4.8 and 6.1: what `luaL_checkany`, `luaL_checktype`, `luaL_checklstring`, `luaL_checkint` and `luaL_optint` take). Places count from 0.
-- This project's own: numbers are whole, and a text counts as a number where it does in arithmetic.
use Rattle.std.specs.Prelude.{ℕ, ℤ, Bool, true, false, ◌&&◌, not, int_lt, if◌then◌else◌, List, Option, Some, None, slice_get}
use Rattle.lua_meaning.specs.declared.value.Value.{Value}
use Rattle.lua_meaning.specs.declared.value.Value.TheVariants as value
use Rattle.lua_meaning.specs.Values.{is_function}
use Rattle.lua_meaning.specs.Numbers.{to_int, as_text}

-- any value, nil among them
abbrev pub argument : List Value → ℕ → Option Value
argument args place = slice_get args place

abbrev pub table_in : Option Value → Option ℕ
table_in (Some (value.Table t)) = Some t
table_in v = None

abbrev pub table_argument : List Value → ℕ → Option ℕ
table_argument args place = table_in (argument args place)

abbrev pub thread_in : Option Value → Option ℕ
thread_in (Some (value.Thread i)) = Some i
thread_in v = None

abbrev pub thread_argument : List Value → ℕ → Option ℕ
thread_argument args place = thread_in (argument args place)

abbrev pub callable_in : Option Value → Option Value
callable_in None = None
callable_in (Some v) = if is_function v then Some v else None

abbrev pub function_argument : List Value → ℕ → Option Value
function_argument args place = callable_in (argument args place)

abbrev pub counted_number : Option Value → Option ℤ
counted_number None = None
counted_number (Some v) = to_int v

abbrev pub number_argument : List Value → ℕ → Option ℤ
number_argument args place = counted_number (argument args place)

-- a number counts as the text of its digits
abbrev pub text_in : Option Value → Option (List ℕ)
text_in None = None
text_in (Some v) = as_text v

abbrev pub text_argument : List Value → ℕ → Option (List ℕ)
text_argument args place = text_in (argument args place)

-- it is neither missing nor nil
abbrev pub is_there : Option Value → Bool
is_there None = false
is_there (Some value.Nil) = false
is_there (Some v) = true

abbrev pub is_given : List Value → ℕ → Bool
is_given args place = is_there (argument args place)

-- what stands for an optional argument that is missing or nil
abbrev pub number_or : (default : ℤ) → List Value → ℕ → Option ℤ
number_or default args place = if is_given args place then number_argument args place else Some default

abbrev pub text_or : (default : List ℕ) → List Value → ℕ → Option (List ℕ)
text_or default args place = if is_given args place then text_argument args place else Some default

-- a number in a range, its ends among them
abbrev pub number_within : (least most : ℤ) → Option ℤ → Option ℤ
number_within least most None = None
number_within least most (Some z) = if not (int_lt z least) && not (int_lt most z) then Some z else None
