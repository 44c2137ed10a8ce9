-- Basic functions over any values only add to the heap.
use Rattle.std.proofs.Common.{◌≡◌, ℕ, ◌/◌, ℤ, pos, negsuc, Bool, true, false, refl, if◌then◌else◌, List, [], ◌∷◌, length, drop, Option, Some, None}
use Rattle.lua_meaning.specs.declared.builtin.Builtin.TheVariants as builtin
use Rattle.lua_meaning.specs.declared.value.Value.{Value}
use Rattle.lua_meaning.specs.declared.value.Value.TheVariants as value
use Rattle.lua_meaning.specs.Values.{truth, same, type_name, or_nil}
use Rattle.lua_meaning.specs.Numbers.{to_int, without_blanks}
use Rattle.lua_meaning.specs.Texts.{plain_text}
use Rattle.lua_meaning.specs.Heap.{metamethod}
use Rattle.lua_meaning.specs.Jobs.{Values, Raise, CallThen}
use Rattle.lua_meaning.specs.declared.status.After.TheVariants.{OneText}
use Rattle.std.specs.Prelude.{codes}
use Rattle.std.specs.Option.{unwrap_or}
use Rattle.lua_arguments.specs.Answering.{Calling, gives_values, gives_value, raises_value}
use Rattle.lua_arguments.specs.Arguments.{argument, number_argument, text_argument, is_given, number_or}
use Rattle.lua_arguments.specs.Extending.{Adds, OnlyAdds}
use Rattle.lua_arguments.proofs.Adding.{answers_add, ticks_add, raises_text_adds, gives_text_adds, raises_at_adds, with_argument_adds}
use Rattle.lua_base.specs.declared.function.ValueFunction.{ValueFunction}
use Rattle.lua_base.specs.declared.function.ValueFunction.TheVariants as values
use Rattle.lua_base.specs.OfValues.{fails_assertion, assert_call, collect_garbage_call, lines_from, raises_from, raises_error, error_call, raw_equal_call, is_count_mark, selected_by, select_call, number_or_nil, base_in, signed_to_base, reads_number, to_number_by_base, to_number_call, tells_text, to_string_call, type_call}
use Rattle.lua_base.specs.BaseCalls.{value_call}

pub gives_add : (vs : List Value) → OnlyAdds (gives_values vs)
gives_add vs = answers_add (Values vs) tt

raises_add : (v : Value) → OnlyAdds (raises_value v)
raises_add v = answers_add (Raise v) tt

if_adds : (b : Bool) (c d : Calling) → OnlyAdds c → OnlyAdds d → OnlyAdds (if b then c else d)
if_adds true c d f g = f
if_adds false c d f g = g

fails_adds : (m : Value) → OnlyAdds (fails_assertion m)
fails_adds value.Nil = raises_text_adds (codes "assertion failed!")
fails_adds (value.Bool b) = raises_add (value.Bool b)
fails_adds (value.Int z) = raises_add (value.Int z)
fails_adds (value.Text s) = raises_add (value.Text s)
fails_adds (value.Table t) = raises_add (value.Table t)
fails_adds (value.Closure i) = raises_add (value.Closure i)
fails_adds (value.Builtin b) = raises_add (value.Builtin b)
fails_adds (value.Iter i) = raises_add (value.Iter i)
fails_adds (value.Thread i) = raises_add (value.Thread i)

assert_adds : (args : List Value) (lines : List ℕ) → OnlyAdds (assert_call args lines)
assert_adds args lines = with_argument_adds 1 builtin.Assert lines (argument args 0) (λ v. if truth v then gives_values args else fails_assertion (or_nil (argument args 1)))
    (λ v. if_adds (truth v) (gives_values args) (fails_assertion (or_nil (argument args 1))) (gives_add args) (fails_adds (or_nil (argument args 1))))

raises_from_adds : (lines text : List ℕ) → OnlyAdds (raises_from lines text)
raises_from_adds [] text = raises_add (value.Text text)
raises_from_adds (line ∷ lines) text = raises_at_adds (line ∷ lines) text

raises_error_adds : (v : Value) (lines : List ℕ) → OnlyAdds (raises_error v lines)
raises_error_adds (value.Text s) lines = raises_from_adds lines s
raises_error_adds value.Nil lines = raises_add value.Nil
raises_error_adds (value.Bool b) lines = raises_add (value.Bool b)
raises_error_adds (value.Int z) lines = raises_add (value.Int z)
raises_error_adds (value.Table t) lines = raises_add (value.Table t)
raises_error_adds (value.Closure i) lines = raises_add (value.Closure i)
raises_error_adds (value.Builtin b) lines = raises_add (value.Builtin b)
raises_error_adds (value.Iter i) lines = raises_add (value.Iter i)
raises_error_adds (value.Thread i) lines = raises_add (value.Thread i)

error_adds : (args : List Value) (lines : List ℕ) → OnlyAdds (error_call args lines)
error_adds args lines = with_argument_adds 1 builtin.Error lines (argument args 0) _ (λ v. with_argument_adds 2 builtin.Error lines (number_or (pos 1) args 1) _ (λ level. raises_error_adds v (lines_from level lines)))

raw_equal_adds : (args : List Value) (lines : List ℕ) → OnlyAdds (raw_equal_call args lines)
raw_equal_adds args lines = with_argument_adds 1 builtin.RawEqual lines (argument args 0) _ (λ a. with_argument_adds 2 builtin.RawEqual lines (argument args 1) _ (λ b. gives_add (value.Bool (same a b) ∷ [])))

select_adds : (args : List Value) (lines : List ℕ) → OnlyAdds (select_call args lines)
select_adds args lines = if_adds (is_count_mark (argument args 0)) _ _ (gives_add (value.Int (pos (length (drop 1 args))) ∷ [])) (with_argument_adds 1 builtin.Select lines (selected_by (number_argument args 0) (drop 1 args)) gives_values gives_add)

reads_adds : (s : List ℕ) (z : Option ℤ) → OnlyAdds (reads_number s z)
reads_adds s z = ticks_add (length s / 64) (gives_value (number_or_nil z)) (gives_add (number_or_nil z ∷ []))

by_base_adds : (args : List Value) (lines : List ℕ) → OnlyAdds (to_number_by_base args lines)
by_base_adds args lines = with_argument_adds 1 builtin.ToNumber lines (text_argument args 0) _ (λ s. with_argument_adds 2 builtin.ToNumber lines (base_in (number_argument args 1)) _ (λ base. reads_adds s (signed_to_base base (without_blanks s))))

to_number_adds : (args : List Value) (lines : List ℕ) → OnlyAdds (to_number_call args lines)
to_number_adds args lines = if_adds (is_given args 1) _ _ (by_base_adds args lines) (with_argument_adds 1 builtin.ToNumber lines (argument args 0) _ (λ v. reads_adds (unwrap_or (text_argument args 0) []) (to_int v)))

tells_adds : (f v : Value) → OnlyAdds (tells_text f v)
tells_adds value.Nil value.Nil = gives_text_adds (plain_text value.Nil)
tells_adds value.Nil (value.Bool b) = gives_text_adds (plain_text (value.Bool b))
tells_adds value.Nil (value.Int z) = gives_text_adds (plain_text (value.Int z))
tells_adds value.Nil (value.Text s) = gives_add (value.Text s ∷ [])
tells_adds value.Nil (value.Table t) = gives_text_adds (plain_text (value.Table t))
tells_adds value.Nil (value.Closure i) = gives_text_adds (plain_text (value.Closure i))
tells_adds value.Nil (value.Builtin b) = gives_text_adds (plain_text (value.Builtin b))
tells_adds value.Nil (value.Iter i) = gives_text_adds (plain_text (value.Iter i))
tells_adds value.Nil (value.Thread i) = gives_text_adds (plain_text (value.Thread i))
tells_adds (value.Bool b) v = answers_add (CallThen (value.Bool b) (v ∷ []) OneText) tt
tells_adds (value.Int z) v = answers_add (CallThen (value.Int z) (v ∷ []) OneText) tt
tells_adds (value.Text s) v = answers_add (CallThen (value.Text s) (v ∷ []) OneText) tt
tells_adds (value.Table t) v = answers_add (CallThen (value.Table t) (v ∷ []) OneText) tt
tells_adds (value.Closure i) v = answers_add (CallThen (value.Closure i) (v ∷ []) OneText) tt
tells_adds (value.Builtin b) v = answers_add (CallThen (value.Builtin b) (v ∷ []) OneText) tt
tells_adds (value.Iter i) v = answers_add (CallThen (value.Iter i) (v ∷ []) OneText) tt
tells_adds (value.Thread i) v = answers_add (CallThen (value.Thread i) (v ∷ []) OneText) tt

to_string_adds : (args : List Value) (lines : List ℕ) → OnlyAdds (to_string_call args lines)
to_string_adds args lines = with_argument_adds 1 builtin.ToString lines (argument args 0) _ (λ v h. tells_adds (metamethod h v (codes "__tostring")) v h)

type_adds : (args : List Value) (lines : List ℕ) → OnlyAdds (type_call args lines)
type_adds args lines = with_argument_adds 1 builtin.Type lines (argument args 0) _ (λ v. gives_text_adds (type_name v))

pub value_adds : (f : ValueFunction) (args : List Value) (lines : List ℕ) → OnlyAdds (value_call f args lines)
value_adds values.Assert args lines = assert_adds args lines
value_adds values.CollectGarbage args lines = gives_add (value.Int (pos 0) ∷ [])
value_adds values.Error args lines = error_adds args lines
value_adds values.RawEqual args lines = raw_equal_adds args lines
value_adds values.Select args lines = select_adds args lines
value_adds values.ToNumber args lines = to_number_adds args lines
value_adds values.ToString args lines = to_string_adds args lines
value_adds values.Type args lines = type_adds args lines
