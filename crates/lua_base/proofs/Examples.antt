-- Calls worked out: what they answer, and what they leave and cost.
use Rattle.std.specs.Prelude.{◌≡◌, refl, ℕ, ℤ, pos, negsuc, Bool, true, false, List, [], ◌∷◌, ◌++◌, codes, Option, Some, None}
use Rattle.std.specs.Fmt.{digits}
use Rattle.std.specs.Int.{int_wrap}
use Rattle.zc_budget.specs.declared.budget.Stop.TheVariants as stop
use Rattle.lua_meaning.specs.declared.builtin.Builtin.TheVariants as builtin
use Rattle.lua_meaning.specs.declared.value.Value.{Value}
use Rattle.lua_meaning.specs.declared.value.Value.TheVariants as value
use Rattle.lua_meaning.specs.declared.status.After.TheVariants.{FirstThree, OneText}
use Rattle.lua_meaning.specs.Heap.{HeapOf, TableOf}
use Rattle.lua_meaning.specs.Jobs.{Answer, Values, Raise, Stopped, CallThen}
use Rattle.lua_coroutines.specs.Threads.{main_alone}
use Rattle.lua_base.specs.OfValues.{assert_call, error_call, select_call, to_number_call, to_string_call, type_call, raw_equal_call}
use Rattle.lua_base.specs.OfTables.{get_metatable_call, set_metatable_call, ipairs_call, ipairs_iterator_call, pairs_call, next_call, raw_get_call, raw_len_call, raw_set_call}
use Rattle.lua_base.specs.OfCoroutines.{resume_call, running_call, status_call}

abbrev text : List ℕ → Value
text s = value.Text s

abbrev number : ℕ → Value
number n = value.Int (pos n)

-- table 0 is {10, nil, 30}, with a place for its second key; table 1 is a metatable that is protected; table 2 has it
abbrev holed : TableOf
holed = record { pairs = (number 1, number 10) ∷ (number 2, value.Nil) ∷ (number 3, number 30) ∷ []; meta = None }

abbrev protecting : TableOf
protecting = record { pairs = (text (codes "__metatable"), number 7) ∷ (text (codes "__tostring"), value.Builtin builtin.Type) ∷ []; meta = None }

abbrev protected : TableOf
protected = record { pairs = []; meta = Some 1 }

abbrev heap : (instructions bytes : ℕ) → HeapOf
heap instructions bytes = record { tables = holed ∷ protecting ∷ protected ∷ []; cells = []; closures = []; iters = []; threads = 0; used = record { instructions = instructions; bytes = bytes; most_instructions = 100; most_bytes = 1000 } }

abbrev line : List ℕ
line = 3 ∷ 8 ∷ []

-- an error with the line at work costs 24 bytes and its length
assert_wants_an_argument : assert_call [] line (heap 9 64) ≡ (Raise (text (codes "[string \"channel program\"]:3: bad argument 1 to assert")), heap 9 142)
unfolding digits
assert_wants_an_argument = refl

assert_gives_all : assert_call (number 1 ∷ number 2 ∷ []) line (heap 9 64) ≡ (Values (number 1 ∷ number 2 ∷ []), heap 9 64)
assert_gives_all = refl

assert_without_a_message : assert_call (value.Bool false ∷ []) line (heap 9 64) ≡ (Raise (text (codes "assertion failed!")), heap 9 105)
assert_without_a_message = refl

assert_with_a_table : assert_call (value.Nil ∷ value.Table 0 ∷ []) line (heap 9 64) ≡ (Raise (value.Table 0), heap 9 64)
assert_with_a_table = refl

-- the third line of a program with two snapshots before it, of 64 bytes and then 119
error_at_its_line : error_call (text (codes "x") ∷ []) (3 ∷ []) (heap 23 64) ≡ (Raise (text (codes "[string \"channel program\"]:3: x")), heap 23 119)
unfolding digits
error_at_its_line = refl

error_at_its_caller : error_call (text (codes "x") ∷ number 2 ∷ []) line (heap 9 64) ≡ (Raise (text (codes "[string \"channel program\"]:8: x")), heap 9 119)
unfolding digits
error_at_its_caller = refl

error_above_all_calls : error_call (text (codes "x") ∷ number 3 ∷ []) line (heap 9 64) ≡ (Raise (text (codes "x")), heap 9 64)
error_above_all_calls = refl

error_with_a_negative_level : error_call (text (codes "x") ∷ value.Int (negsuc 0) ∷ []) line (heap 9 64) ≡ (Raise (text (codes "x")), heap 9 64)
error_with_a_negative_level = refl

error_with_a_number : error_call (number 5 ∷ []) line (heap 9 64) ≡ (Raise (number 5), heap 9 64)
error_with_a_number = refl

select_the_number : select_call (text (codes "#") ∷ number 1 ∷ value.Nil ∷ []) line (heap 9 64) ≡ (Values (number 2 ∷ []), heap 9 64)
select_the_number = refl

select_from_the_front : select_call (number 2 ∷ number 7 ∷ number 8 ∷ number 9 ∷ []) line (heap 9 64) ≡ (Values (number 8 ∷ number 9 ∷ []), heap 9 64)
select_from_the_front = refl

select_from_the_end : select_call (value.Int (negsuc 0) ∷ number 7 ∷ number 8 ∷ number 9 ∷ []) line (heap 9 64) ≡ (Values (number 9 ∷ []), heap 9 64)
select_from_the_end = refl

select_past_all : select_call (number 5 ∷ number 7 ∷ []) line (heap 9 64) ≡ (Values [], heap 9 64)
select_past_all = refl

select_before_all : select_call (value.Int (negsuc 1) ∷ number 7 ∷ []) line (heap 9 64) ≡ (Raise (text (codes "[string \"channel program\"]:3: bad argument 1 to select")), heap 9 142)
unfolding digits
select_before_all = refl

to_number_of_a_text : to_number_call (text (codes " -0x10 ") ∷ []) line (heap 9 64) ≡ (Values (value.Int (negsuc 15) ∷ []), heap 9 64)
to_number_of_a_text = refl

to_number_by_16 : to_number_call (text (codes "fF") ∷ number 16 ∷ []) line (heap 9 64) ≡ (Values (number 255 ∷ []), heap 9 64)
to_number_by_16 = refl

no_digits_behind_0x : to_number_call (text (codes "0x") ∷ number 16 ∷ []) line (heap 9 64) ≡ (Values (value.Nil ∷ []), heap 9 64)
no_digits_behind_0x = refl

to_number_of_a_table_by_a_base : to_number_call (value.Table 0 ∷ number 10 ∷ []) line (heap 9 64) ≡ (Raise (text (codes "[string \"channel program\"]:3: bad argument 1 to tonumber")), heap 9 144)
unfolding digits
to_number_of_a_table_by_a_base = refl

to_number_by_37 : to_number_call (text (codes "1") ∷ number 37 ∷ []) line (heap 9 64) ≡ (Raise (text (codes "[string \"channel program\"]:3: bad argument 2 to tonumber")), heap 9 144)
unfolding digits
to_number_by_37 = refl

to_string_of_a_table : to_string_call (value.Table 0 ∷ []) line (heap 9 64) ≡ (Values (text (codes "table: 0") ∷ []), heap 9 96)
unfolding digits
to_string_of_a_table = refl

to_string_of_a_text : to_string_call (text (codes "ab") ∷ []) line (heap 9 64) ≡ (Values (text (codes "ab") ∷ []), heap 9 64)
to_string_of_a_text = refl

to_string_by_a_metamethod : to_string_call (value.Table 2 ∷ []) line (heap 9 64) ≡ (CallThen (value.Builtin builtin.Type) (value.Table 2 ∷ []) OneText, heap 9 64)
to_string_by_a_metamethod = refl

type_of_nil : type_call (value.Nil ∷ []) line (heap 9 64) ≡ (Values (text (codes "nil") ∷ []), heap 9 91)
type_of_nil = refl

type_of_nothing : type_call [] line (heap 9 950) ≡ (Stopped stop.Memory, heap 9 950)
unfolding digits
type_of_nothing = refl

-- the key behind a hole: each place that is skipped is one instruction
next_skips_a_hole : next_call (value.Table 0 ∷ number 1 ∷ []) line (heap 9 64) ≡ (Values (number 3 ∷ number 30 ∷ []), heap 10 64)
next_skips_a_hole = refl

next_at_the_end : next_call (value.Table 0 ∷ number 3 ∷ []) line (heap 9 64) ≡ (Values (value.Nil ∷ []), heap 9 64)
next_at_the_end = refl

next_behind_no_key : next_call (value.Table 0 ∷ number 4 ∷ []) line (heap 9 64) ≡ (Raise (text (codes "[string \"channel program\"]:3: invalid key to next")), heap 9 137)
unfolding digits
next_behind_no_key = refl

ipairs_stops_at_a_hole : ipairs_iterator_call (value.Table 0 ∷ number 1 ∷ []) line (heap 9 64) ≡ (Values (value.Nil ∷ []), heap 9 64)
unfolding int_wrap
ipairs_stops_at_a_hole = refl

ipairs_begins : ipairs_iterator_call (value.Table 0 ∷ number 0 ∷ []) line (heap 9 64) ≡ (Values (number 1 ∷ number 10 ∷ []), heap 9 64)
unfolding int_wrap
ipairs_begins = refl

pairs_gives_next : pairs_call (value.Table 0 ∷ []) line (heap 9 64) ≡ (Values (value.Builtin builtin.Next ∷ value.Table 0 ∷ value.Nil ∷ []), heap 9 64)
pairs_gives_next = refl

a_metatable_is_hidden : get_metatable_call (value.Table 2 ∷ []) line (heap 9 64) ≡ (Values (number 7 ∷ []), heap 9 64)
a_metatable_is_hidden = refl

a_metatable_is_protected : set_metatable_call (value.Table 2 ∷ value.Nil ∷ []) line (heap 9 64) ≡ (Raise (text (codes "[string \"channel program\"]:3: cannot change a protected metatable")), heap 9 153)
unfolding digits
a_metatable_is_protected = refl

rawlen_is_the_border : raw_len_call (value.Table 0 ∷ []) line (heap 9 64) ≡ (Values (number 1 ∷ []), heap 9 64)
rawlen_is_the_border = refl

rawset_of_nil : raw_set_call (value.Table 0 ∷ value.Nil ∷ number 1 ∷ []) line (heap 9 64) ≡ (Raise (text (codes "[string \"channel program\"]:3: table index is nil")), heap 9 136)
unfolding digits
rawset_of_nil = refl

the_main_thread_runs : status_call main_alone (value.Thread 0 ∷ []) line (heap 9 64) ≡ (Values (text (codes "running") ∷ []), heap 9 95)
the_main_thread_runs = refl
