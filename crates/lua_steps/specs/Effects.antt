-- What a machine does to its heap and its locals.
use Rattle.std.specs.Prelude.{ℕ, zero, suc, ◌+◌, Bool, true, false, pos, List, [], ◌∷◌, ◌++◌, length, drop, nat_lt, codes, Option, Some, None}
use Rattle.zc_budget.specs.Used.{is_over}
use Rattle.zc_budget.specs.declared.budget.Stop.TheVariants as stop
use Rattle.lua_ast.specs.declared.node.BinOp.{BinOp}
use Rattle.lua_meaning.specs.declared.value.Value.{Value}
use Rattle.lua_meaning.specs.declared.value.Value.TheVariants as value
use Rattle.lua_meaning.specs.declared.variable.Slot.TheVariants as slot
use Rattle.lua_meaning.specs.Values.{first, is_nil}
use Rattle.lua_meaning.specs.Tables.{was_put}
use Rattle.lua_meaning.specs.Heap.{HeapOf, cell_bytes, key_bytes, with_cell, with_entry, table_at}
use Rattle.lua_meaning.specs.Code.{Code}
use Rattle.lua_meaning.specs.Locals.{Locals}
use Rattle.lua_meaning.specs.Operators.{OpAnswer, Done, Meta, Raise, Stopped, op_fails}
use Rattle.lua_values.specs.Charges.{paid}
use Rattle.lua_coroutines.specs.declared.frame.Frame.TheVariants as frame
use Rattle.lua_coroutines.specs.declared.frame.OperandFrame.TheVariants as operand
use Rattle.lua_steps.specs.declared.mode.Mode.{Mode}
use Rattle.lua_steps.specs.declared.mode.Mode.TheVariants as mode
use Rattle.lua_steps.specs.Frames.{told_of}
use Rattle.lua_steps.specs.Configuration.{Configuration, Next, with_heap, with_frame, ticking}

-- what an answer that calls nothing comes to
abbrev pub ended_as : OpAnswer → Mode
ended_as (Done v) = mode.Give (v ∷ [])
ended_as (Meta f args negated) = mode.Give []
ended_as (Raise v) = mode.Raise v
ended_as (Stopped st) = mode.Stopped st

abbrev pub ended_with : OpAnswer × HeapOf → Configuration → Next
ended_with a x = (ended_as a.0, with_heap a.1 x)

-- raises a text, with the line at work before it
abbrev pub failing : (lines text : List ℕ) → Configuration → Next
failing lines text x = ended_with (op_fails lines text x.heap) x

-- where a list of arguments or results has at most 250 values
abbrev pub few_by : Bool → (lines : List ℕ) → Mode → Configuration → Next
few_by true lines b x = failing lines (codes "too many values") x
few_by false lines b x = (b, x)

abbrev pub if_few : (lines : List ℕ) → List Value → Mode → Configuration → Next
if_few lines vs b x = few_by (nat_lt 250 (length vs)) lines b x

-- what an operator's answer comes to; a metamethod is called after an instruction
abbrev pub operated : Option BinOp → (lines : List ℕ) → OpAnswer → Configuration → Next
operated op lines (Done v) x = (mode.Give (told_of op v ∷ []), x)
operated op lines (Meta f args negated) x = ticking (λ y. (mode.Call f args lines false, with_frame (frame.Operand (operand.Metamethod op negated)) y)) x
operated op lines (Raise v) x = (mode.Raise v, x)
operated op lines (Stopped st) x = (mode.Stopped st, x)

abbrev pub operating : Option BinOp → (lines : List ℕ) → OpAnswer × HeapOf → Configuration → Next
operating op lines a x = operated op lines a.0 (with_heap a.1 x)

-- Locals in scope, with the heap: whether there was memory for them, and both afterwards.
pub record Declared : Type 0 where
  pub done : Bool
  pub heap : HeapOf
  pub locals : Locals

abbrev pub shared_by : (over : Bool) → (variable : ℕ) → Value → HeapOf → Locals → Declared
shared_by true v x h ls = record { done = false; heap = h; locals = ls }
shared_by false v x h ls = record { done = true; heap = with_cell (paid cell_bytes h) x; locals = ls ++ (v, slot.Cell (length h.cells)) ∷ [] }

-- one local more; a captured one costs memory
abbrev pub declared_by : (captured : Bool) → (variable : ℕ) → Value → HeapOf → Locals → Declared
declared_by true v x h ls = shared_by (is_over cell_bytes h.used) v x h ls
declared_by false v x h ls = record { done = true; heap = h; locals = ls ++ (v, slot.Held x) ∷ [] }

module _ (code : Code) where
  abbrev pub declared : (variable : ℕ) → Value → HeapOf → Locals → Declared
  declared v x h ls = declared_by (code.is_captured v) v x h ls

  abbrev pub declared_if : Bool → Declared → (HeapOf → Locals → Declared) → Declared
  declared_if true d further = further d.heap d.locals
  declared_if false d further = d

  abbrev pub declared_then : Declared → (HeapOf → Locals → Declared) → Declared
  declared_then d further = declared_if d.done d further

  -- n variables from v on, the values adjusted to them
  abbrev pub declared_all : (variable count : ℕ) → List Value → HeapOf → Locals → Declared
  declared_all v zero xs h ls = record { done = true; heap = h; locals = ls }
  declared_all v (suc n) xs h ls = declared_then (declared v (first xs) h ls) (λ h ls. declared_all (v + 1) n (drop 1 xs) h ls)

-- A value put into a table: none where it is put, else how that ended, and the heap.

abbrev pub new_key_by : (over : Bool) → (t : ℕ) → (key v : Value) → HeapOf → Option Mode × HeapOf
new_key_by true t key v h = (Some (mode.Stopped stop.Memory), h)
new_key_by false t key v h = (None, with_entry (paid key_bytes h) t key v)

abbrev pub put_by : (there nothing : Bool) → (t : ℕ) → (key v : Value) → HeapOf → Option Mode × HeapOf
put_by true nothing t key v h = (None, with_entry h t key v)
put_by false true t key v h = (None, h)
put_by false false t key v h = new_key_by (is_over key_bytes h.used) t key v h

abbrev pub failed_put : OpAnswer × HeapOf → Option Mode × HeapOf
failed_put a = (Some (ended_as a.0), a.1)

abbrev pub put_in : (lines : List ℕ) → (t : ℕ) → (key v : Value) → HeapOf → Option Mode × HeapOf
put_in lines t value.Nil v h = failed_put (op_fails lines (codes "table index is nil") h)
put_in lines t key v h = put_by (was_put (table_at h t).pairs key) (is_nil v) t key v h

-- what follows where it is put
abbrev pub or_else : Option Mode → Mode → Mode
or_else None b = b
or_else (Some a) b = a

abbrev pub putting : Option Mode × HeapOf → Mode → Configuration → Next
putting p b x = (or_else p.0 b, with_heap p.1 x)

-- Values put at n and the numbers behind it: the number behind the last, and how that ended.
pub record PutAll : Type 0 where
  pub fault : Option Mode
  pub heap : HeapOf
  pub count : ℕ

abbrev pub put_then : Option Mode × HeapOf → (count : ℕ) → (HeapOf → PutAll) → PutAll
put_then (None, h) n further = further h
put_then (Some b, h) n further = record { fault = Some b; heap = h; count = n }

abbrev pub put_all : (lines : List ℕ) → (t n : ℕ) → List Value → HeapOf → PutAll
put_all lines t n [] h = record { fault = None; heap = h; count = n }
put_all lines t n (v ∷ vs) h = put_then (put_in lines t (value.Int (pos n)) v h) n (λ h. put_all lines t (n + 1) vs h)
