-- What the calls of the pool take of a program: bytes alone, within its limit; and how they end.
use Rattle.std.specs.Prelude.{◌≡◌, ◌≤◌, ⊤}
use Rattle.zc_budget.specs.Used.{Used, IsWithin}
use Rattle.lua_meaning.specs.Heap.{HeapOf}
use Rattle.lua_meaning.specs.Jobs.{Answer, Values, Raise, Stopped}

-- Nothing of the heap changes but the bytes that are used; they don't become fewer, and don't pass the limit.
pub record Pays (before after : HeapOf) : Type 0 where
  pub others : after ≡ record before { used = record before.used { bytes = after.used.bytes } }
  pub more : before.used.bytes ≤ after.used.bytes
  pub within : IsWithin before.used → after.used.bytes ≤ before.used.most_bytes

-- values, an error, or a stop
abbrev pub IsCallEnd : Answer → Type 0
IsCallEnd (Values vs) = ⊤
IsCallEnd (Raise v) = ⊤
IsCallEnd (Stopped s) = ⊤
IsCallEnd a = ⊥

-- a call that ends so, from this heap on
pub record CallEnds (before : HeapOf) (a : Answer) (after : HeapOf) : Type 0 where
  pub pays : Pays before after
  pub ends : IsCallEnd a
