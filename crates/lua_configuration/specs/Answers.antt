-- What an operator answers, as a Rust value, told of the answer with its heap.
use Rattle.std.specs.Prelude.{◌≡◌, ⊤}
use Rattle.lua_meaning.specs.Heap.{HeapOf}
use Rattle.lua_meaning.specs.Operators.{OpAnswer, Done, Meta, Raise, Stopped}
use Rattle.lua_ops.specs.declared.result.OpResult.{OpResult}
use Rattle.lua_ops.specs.declared.result.OpResult.TheVariants as result

-- this answer, with this heap; want of memory is no answer
abbrev pub IsAnswer : OpAnswer × HeapOf → OpResult → (after : HeapOf) → Type 0
IsAnswer a (result.Done v) after = a ≡ (Done v, after)
IsAnswer a (result.Meta f args negated) after = a ≡ (Meta f args negated, after)
IsAnswer a (result.Raise v) after = a ≡ (Raise v, after)
IsAnswer a (result.Stop s) after = a ≡ (Stopped s, after)
IsAnswer a result.NoMemory after = ⊤
