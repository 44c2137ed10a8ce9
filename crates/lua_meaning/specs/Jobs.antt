-- What lowers the fuel by one: calls, further steps of an index, turns of loops and jumps to labels. Each stands after an instruction.
use Rattle.std.specs.Prelude.{ℕ, ℤ, Bool, List}
use Rattle.lua_ast.specs.Tree.{Tree, Trees}
use Rattle.lua_meaning.specs.declared.builtin.Builtin.{Builtin as BuiltinOf}
use Rattle.lua_meaning.specs.declared.value.Value.{Value}
use Rattle.lua_meaning.specs.declared.status.After.{After}
use Rattle.zc_budget.specs.declared.budget.Stop.{Stop}
use Rattle.lua_meaning.specs.Store.{State, Store, Result}
use Rattle.lua_meaning.specs.Runs.{Run}

pub data Job : Type 0 where
  -- A call. `lines` are those of the node that makes it, `inner` those at which the calls in progress were made: the same list, and for a coroutine's own function none.
  Apply : (function : Value) (args : List Value) (lines inner : List ℕ) → Job
  -- one more step of `object[key]` and of `object[key] = value`
  Look : (object key : Value) (lines : List ℕ) → Job
  Put : (object key value : Value) (lines : List ℕ) → Job
  -- a turn of each kind of loop
  Turn : (test block : Tree) → Job
  Round : (block test : Tree) → Job
  Count : (variable : ℕ) (block : Tree) (at limit step : ℤ) → Job
  Each : (variable count : ℕ) (block : Tree) (function state control : Value) (line : ℕ) → Job
  -- the statements of a block from a label on
  From : (stats part : Trees) (outer : ℕ) → Job

-- What a built-in or an iterator function answers: values, an error, a stop, a function that is to be called with what is made of its results, a coroutine that is to be resumed, or a yield.
pub data Answer : Type 0 where
  Values : List Value → Answer
  Raise : Value → Answer
  Stopped : Stop → Answer
  CallThen : (function : Value) (args : List Value) (after : After) → Answer
  Resume : (thread : ℕ) (args : List Value) (wrapped : Bool) → Answer
  Yield : List Value → Answer

-- The meaning of a host: the answer, and what it leaves, by the arguments, the lines of the call and what there was.
pub record HostOf (H : Type 0) : Type 0 where
  pub call : BuiltinOf → List Value → (lines : List ℕ) → State H → Answer × State H
  pub step : ℕ → List Value → (lines : List ℕ) → State H → Answer × State H

-- how a job is done
abbrev pub Again : Type 0 → Type 0
Again H = Job → Run H

-- Resumes a coroutine. The result says how it ended: with values, a yield, an error or a stop.
abbrev pub Resumes : Type 0 → Type 0
Resumes H = (thread : ℕ) → List Value → (lines inner : List ℕ) → Store H → Result H
