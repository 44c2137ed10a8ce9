-- The basic functions and those of `coroutine` (Lua 5.2 manual, 6.1 and 6.2), by groups.
use Rattle.std.specs.Prelude.{Option, Some, None}
use Rattle.lua_meaning.specs.declared.builtin.Builtin.{Builtin as BuiltinOf}
use Rattle.lua_meaning.specs.declared.builtin.Builtin.TheVariants as builtin
use Rattle.lua_base.specs.declared.function.BaseFunction.{BaseFunction}
use Rattle.lua_base.specs.declared.function.BaseFunction.TheVariants as base
use Rattle.lua_base.specs.declared.function.ValueFunction.TheVariants as values
use Rattle.lua_base.specs.declared.function.TableFunction.TheVariants as tables
use Rattle.lua_base.specs.declared.function.CoroutineFunction.TheVariants as coroutines

abbrev pub base_function : BuiltinOf → Option BaseFunction
base_function builtin.Assert = Some (base.OfValues values.Assert)
base_function builtin.CollectGarbage = Some (base.OfValues values.CollectGarbage)
base_function builtin.Error = Some (base.OfValues values.Error)
base_function builtin.RawEqual = Some (base.OfValues values.RawEqual)
base_function builtin.Select = Some (base.OfValues values.Select)
base_function builtin.ToNumber = Some (base.OfValues values.ToNumber)
base_function builtin.ToString = Some (base.OfValues values.ToString)
base_function builtin.Type = Some (base.OfValues values.Type)
base_function builtin.GetMetatable = Some (base.OfTables tables.GetMetatable)
base_function builtin.SetMetatable = Some (base.OfTables tables.SetMetatable)
base_function builtin.Ipairs = Some (base.OfTables tables.Ipairs)
base_function builtin.IpairsIterator = Some (base.OfTables tables.IpairsIterator)
base_function builtin.Pairs = Some (base.OfTables tables.Pairs)
base_function builtin.Next = Some (base.OfTables tables.Next)
base_function builtin.RawGet = Some (base.OfTables tables.RawGet)
base_function builtin.RawLen = Some (base.OfTables tables.RawLen)
base_function builtin.RawSet = Some (base.OfTables tables.RawSet)
base_function builtin.CoroutineCreate = Some (base.OfCoroutines coroutines.Create)
base_function builtin.CoroutineWrap = Some (base.OfCoroutines coroutines.Wrap)
base_function builtin.CoroutineResume = Some (base.OfCoroutines coroutines.Resume)
base_function builtin.CoroutineYield = Some (base.OfCoroutines coroutines.Yield)
base_function builtin.CoroutineRunning = Some (base.OfCoroutines coroutines.Running)
base_function builtin.CoroutineStatus = Some (base.OfCoroutines coroutines.Status)
base_function b = None
