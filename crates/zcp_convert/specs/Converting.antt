-- What a value that a program returns is in JSON (RFC 8259): zfs-program(8), "Lua API".
use Rattle.std.specs.Prelude.{◌≡◌, ℕ, List, codes, length, nat_lt, if◌then◌else◌, Result, Ok, Err}
use Rattle.std.specs.Str.{is_utf8}
use Rattle.serde_json.specs.Data.{Data, null, boolean, number, string}
use Rattle.serde_json.specs.Find.{of_integer}
use Rattle.serde_json.specs.Written.{compact_text}
use Rattle.lua_meaning.specs.declared.value.Value.{Value}
use Rattle.lua_meaning.specs.declared.value.Value.TheVariants as value
use Rattle.zcp_convert.specs.declared.error.ReturnedType.{ReturnedType}
use Rattle.zcp_convert.specs.declared.error.ReturnedType.TheVariants as type
use Rattle.zcp_convert.specs.declared.error.ConvertError.{ConvertError}
use Rattle.zcp_convert.specs.declared.error.ConvertError.TheVariants as error

-- the names of types, as `type` gives them (Lua 5.2 manual, 6.1)
abbrev pub returned_name : ReturnedType → List ℕ
returned_name type.Table = codes "table"
returned_name type.Function = codes "function"
returned_name type.Thread = codes "thread"

-- JSON texts are UTF-8 (RFC 8259, section 8.1)
abbrev pub text_json : List ℕ → Result Data ConvertError
text_json s = if is_utf8 s then Ok (string s) else Err error.NotUtf8

-- nil, a truth value, a number, a text; a value of another type has no JSON
abbrev pub plain_of : Value → Result Data ConvertError
plain_of value.Nil = Ok null
plain_of (value.Bool b) = Ok (boolean b)
plain_of (value.Int z) = Ok (number (of_integer z))
plain_of (value.Text s) = text_json s
plain_of (value.Table _) = Err (error.NoPlainValue type.Table)
plain_of (value.Thread _) = Err (error.NoPlainValue type.Thread)
plain_of (value.Closure _) = Err (error.NoPlainValue type.Function)
plain_of (value.Builtin _) = Err (error.NoPlainValue type.Function)
plain_of (value.Iter _) = Err (error.NoPlainValue type.Function)

-- This project's own: so many bytes of JSON text may be returned.
abbrev pub most_returned : ℕ
most_returned = 131072

abbrev pub short_enough : List ℕ → Result (List ℕ) ConvertError
short_enough text = if nat_lt most_returned (length text) then Err (error.TooLarge (length text)) else Ok text

abbrev pub written_of : Result Data ConvertError → Result (List ℕ) ConvertError
written_of (Ok d) = short_enough (compact_text d)
written_of (Err e) = Err e

-- the compact JSON text of a value, or why it is not returned
abbrev pub json_of : Value → Result (List ℕ) ConvertError
json_of v = written_of (plain_of v)

-- ---- what a function answers

-- this was refused for this cause, unless memory ran out
abbrev pub IsCause : {A : Type 0} → Result A ConvertError → ConvertError → Type 0
IsCause due error.NoMemory = Unit {0}
IsCause due e = due ≡ Err e

-- what was answered is what the definition gives, unless memory ran out
abbrev pub IsConverted : {A : Type 0} → Result A ConvertError → Result A ConvertError → Type 0
IsConverted due (Ok x) = due ≡ Ok x
IsConverted due (Err e) = IsCause due e

-- the data of a JSON value
abbrev pub json_map : {A B : Type 0} → (A → B) → Result A ConvertError → Result B ConvertError
json_map f (Ok x) = Ok (f x)
json_map f (Err e) = Err e
