-- Basic functions over any values (Lua 5.2 manual, 6.1).
-- This project's own: what they cost, the texts of errors about arguments, and numbers, which are whole.
use Rattle.std.specs.Prelude.{ℕ, ◌+◌, ◌-◌, ◌/◌, ◌==◌, nat_le, nat_lt, ◌&&◌, ℤ, pos, negsuc, neg_ℤ, Bool, true, false, if◌then◌else◌, List, [], ◌∷◌, length, take, drop, bytes_eq, codes, Option, Some, None, option_map}
use Rattle.std.specs.Option.{unwrap_or}
use Rattle.lua_meaning.specs.declared.builtin.Builtin.TheVariants as builtin
use Rattle.lua_meaning.specs.declared.value.Value.{Value}
use Rattle.lua_meaning.specs.declared.value.Value.TheVariants as value
use Rattle.lua_meaning.specs.declared.status.After.TheVariants.{OneText}
use Rattle.lua_meaning.specs.Values.{same, truth, type_name, or_nil}
use Rattle.lua_meaning.specs.Numbers.{without_blanks, number_of, in_range, to_int}
use Rattle.lua_meaning.specs.Texts.{to_text}
use Rattle.lua_meaning.specs.Heap.{metamethod}
use Rattle.lua_meaning.specs.Jobs.{CallThen}
use Rattle.lua_arguments.specs.Answering.{Calling, gives_values, gives_value, gives_text, raises_value, raises_text, raises_at, by_operator}
use Rattle.lua_arguments.specs.Spending.{ticks}
use Rattle.lua_arguments.specs.Arguments.{argument, number_argument, text_argument, is_given, number_or}
use Rattle.lua_arguments.specs.BadArguments.{with_argument}

-- `assert`: the message as it is, or a text where there is none
abbrev pub fails_assertion : Value → Calling
fails_assertion value.Nil = raises_text (codes "assertion failed!")
fails_assertion m = raises_value m

abbrev pub assert_call : List Value → (lines : List ℕ) → Calling
assert_call args lines = with_argument 1 builtin.Assert lines (argument args 0) (λ v. if truth v then gives_values args else fails_assertion (or_nil (argument args 1)))

abbrev pub collect_garbage_call : Calling
collect_garbage_call = gives_value (value.Int (pos 0))

-- the lines from the call on that a level calls up: 1 is the call of `error` itself
abbrev pub lines_from : (level : ℤ) → List ℕ → List ℕ
lines_from (pos n) lines = if n == 0 then [] else drop (n - 1) lines
lines_from (negsuc n) lines = []

-- a text, with the line of that call before it where there is one
abbrev pub raises_from : List ℕ → List ℕ → Calling
raises_from [] text = raises_value (value.Text text)
raises_from (line ∷ lines) text = raises_at (line ∷ lines) text

-- only a text gets a line before it
abbrev pub raises_error : Value → List ℕ → Calling
raises_error (value.Text text) lines = raises_from lines text
raises_error v lines = raises_value v

abbrev pub error_call : List Value → (lines : List ℕ) → Calling
error_call args lines = with_argument 1 builtin.Error lines (argument args 0) (λ v. with_argument 2 builtin.Error lines (number_or (pos 1) args 1) (λ level. raises_error v (lines_from level lines)))

abbrev pub raw_equal_call : List Value → (lines : List ℕ) → Calling
raw_equal_call args lines = with_argument 1 builtin.RawEqual lines (argument args 0) (λ a. with_argument 2 builtin.RawEqual lines (argument args 1) (λ b. gives_value (value.Bool (same a b))))

-- `select`: the text `#` asks for the number of the further arguments
abbrev pub is_count_mark : Option Value → Bool
is_count_mark (Some (value.Text s)) = bytes_eq s (codes "#")
is_count_mark v = false

-- the values from one on, counted from 1, or from the end
abbrev pub selected : ℤ → List Value → Option (List Value)
selected (pos n) vs = if n == 0 then None else Some (drop (n - 1) vs)
selected (negsuc n) vs = if nat_lt n (length vs) then Some (drop (length vs - (n + 1)) vs) else None

abbrev pub selected_by : Option ℤ → List Value → Option (List Value)
selected_by None vs = None
selected_by (Some z) vs = selected z vs

abbrev pub select_call : List Value → (lines : List ℕ) → Calling
select_call args lines =
    if is_count_mark (argument args 0) then gives_value (value.Int (pos (length (drop 1 args))))
    else with_argument 1 builtin.Select lines (selected_by (number_argument args 0) (drop 1 args)) gives_values

abbrev pub number_or_nil : Option ℤ → Value
number_or_nil None = value.Nil
number_or_nil (Some z) = value.Int z

-- a base is from 2 to 36
abbrev pub base_in : Option ℤ → Option ℕ
base_in (Some (pos n)) = if nat_le 2 n && nat_le n 36 then Some n else None
base_in z = None

-- a sign or none, and digits and letters to the base, whose number without the sign is in range
abbrev pub signed_to_base : (base : ℕ) → List ℕ → Option ℤ
signed_to_base base s =
    if bytes_eq (take 1 s) (codes "-") then option_map neg_ℤ (in_range (number_of base (drop 1 s))) else
    (if bytes_eq (take 1 s) (codes "+") then in_range (number_of base (drop 1 s)) else in_range (number_of base s))

-- a text that is read costs an instruction for each 64 bytes
abbrev pub reads_number : List ℕ → Option ℤ → Calling
reads_number s z = ticks (length s / 64) (gives_value (number_or_nil z))

abbrev pub to_number_by_base : List Value → (lines : List ℕ) → Calling
to_number_by_base args lines = with_argument 1 builtin.ToNumber lines (text_argument args 0) (λ s. with_argument 2 builtin.ToNumber lines (base_in (number_argument args 1)) (λ base. reads_number s (signed_to_base base (without_blanks s))))

abbrev pub to_number_call : List Value → (lines : List ℕ) → Calling
to_number_call args lines =
    if is_given args 1 then to_number_by_base args lines
    else with_argument 1 builtin.ToNumber lines (argument args 0) (λ v. reads_number (unwrap_or (text_argument args 0) []) (to_int v))

-- by `__tostring`, or else the text of the value
abbrev pub tells_text : Value → Value → Calling
tells_text value.Nil v = by_operator (to_text v)
tells_text f v = λ h. (CallThen f (v ∷ []) OneText, h)

abbrev pub to_string_call : List Value → (lines : List ℕ) → Calling
to_string_call args lines = with_argument 1 builtin.ToString lines (argument args 0) (λ v h. tells_text (metamethod h v (codes "__tostring")) v h)

abbrev pub type_call : List Value → (lines : List ℕ) → Calling
type_call args lines = with_argument 1 builtin.Type lines (argument args 0) (λ v. gives_text (type_name v))
