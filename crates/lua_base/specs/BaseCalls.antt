-- What the call of a basic function, or of one of `coroutine`, answers and leaves.
use Rattle.std.specs.Prelude.{ℕ, List}
use Rattle.lua_meaning.specs.declared.value.Value.{Value}
use Rattle.lua_coroutines.specs.Threads.{ThreadsOf}
use Rattle.lua_arguments.specs.Answering.{Calling}
use Rattle.lua_base.specs.declared.function.BaseFunction.{BaseFunction}
use Rattle.lua_base.specs.declared.function.BaseFunction.TheVariants as base
use Rattle.lua_base.specs.declared.function.ValueFunction.{ValueFunction}
use Rattle.lua_base.specs.declared.function.ValueFunction.TheVariants as values
use Rattle.lua_base.specs.declared.function.TableFunction.{TableFunction}
use Rattle.lua_base.specs.declared.function.TableFunction.TheVariants as tables
use Rattle.lua_base.specs.declared.function.CoroutineFunction.{CoroutineFunction}
use Rattle.lua_base.specs.declared.function.CoroutineFunction.TheVariants as coroutines
use Rattle.lua_base.specs.OfValues.{assert_call, collect_garbage_call, error_call, raw_equal_call, select_call, to_number_call, to_string_call, type_call}
use Rattle.lua_base.specs.OfTables.{get_metatable_call, set_metatable_call, ipairs_call, ipairs_iterator_call, pairs_call, next_call, raw_get_call, raw_len_call, raw_set_call}
use Rattle.lua_base.specs.OfCoroutines.{makes_coroutine, resume_call, yield_call, running_call, status_call}

abbrev pub value_call : ValueFunction → List Value → (lines : List ℕ) → Calling
value_call values.Assert args lines = assert_call args lines
value_call values.CollectGarbage args lines = collect_garbage_call
value_call values.Error args lines = error_call args lines
value_call values.RawEqual args lines = raw_equal_call args lines
value_call values.Select args lines = select_call args lines
value_call values.ToNumber args lines = to_number_call args lines
value_call values.ToString args lines = to_string_call args lines
value_call values.Type args lines = type_call args lines

abbrev pub table_call : TableFunction → List Value → (lines : List ℕ) → Calling
table_call tables.GetMetatable args lines = get_metatable_call args lines
table_call tables.SetMetatable args lines = set_metatable_call args lines
table_call tables.Ipairs args lines = ipairs_call args lines
table_call tables.IpairsIterator args lines = ipairs_iterator_call args lines
table_call tables.Pairs args lines = pairs_call args lines
table_call tables.Next args lines = next_call args lines
table_call tables.RawGet args lines = raw_get_call args lines
table_call tables.RawLen args lines = raw_len_call args lines
table_call tables.RawSet args lines = raw_set_call args lines

abbrev pub coroutine_call : CoroutineFunction → ThreadsOf → List Value → (lines : List ℕ) → Calling
coroutine_call coroutines.Create c args lines = makes_coroutine lines
coroutine_call coroutines.Wrap c args lines = makes_coroutine lines
coroutine_call coroutines.Resume c args lines = resume_call args lines
coroutine_call coroutines.Yield c args lines = yield_call lines
coroutine_call coroutines.Running c args lines = running_call c
coroutine_call coroutines.Status c args lines = status_call c args lines

abbrev pub base_call : BaseFunction → ThreadsOf → List Value → (lines : List ℕ) → Calling
base_call (base.OfValues f) c args lines = value_call f args lines
base_call (base.OfTables f) c args lines = table_call f args lines
base_call (base.OfCoroutines f) c args lines = coroutine_call f c args lines
