-- How a function of the pool answers a program: values, an error with the line at work before it, or a stop (zfs-program(8), "Lua API").
use Rattle.std.specs.Prelude.{ℕ, pos, List, [], ◌∷◌, ◌++◌, codes}
use Rattle.lua_meaning.specs.declared.value.Value.{Value}
use Rattle.lua_meaning.specs.declared.value.Value.TheVariants as value
use Rattle.lua_meaning.specs.Heap.{HeapOf}
use Rattle.lua_meaning.specs.Jobs.{Answer, Values, Raise, Stopped}
use Rattle.lua_meaning.specs.Operators as op

-- an answer, and the heap that is left
abbrev pub Answering : Type 0
Answering = HeapOf → Answer × HeapOf

abbrev pub gives : List Value → Answering
gives vs h = (Values vs, h)

abbrev pub gives_number : ℕ → Answering
gives_number n = gives (value.Int (pos n) ∷ [])

-- the answer where an operator fails: it raises or stops
abbrev pub failure : op.OpAnswer → Answer
failure (op.Raise v) = Raise v
failure (op.Stopped s) = Stopped s
failure a = Values []

-- raises a text, with the line at work before it, as operators do
abbrev pub raises : (lines text : List ℕ) → Answering
raises lines text h = (failure (op.op_fails lines text h).0, (op.op_fails lines text h).1)

-- This project's own: the texts of errors.
abbrev pub bad_arguments_text : (function : List ℕ) → List ℕ
bad_arguments_text name = codes "bad arguments to " ++ name

abbrev pub other_pool_text : (dataset pool : List ℕ) → List ℕ
other_pool_text name pool = codes "dataset '" ++ name ++ codes "' is not in pool '" ++ pool ++ codes "'"

abbrev pub no_name_text : List ℕ → List ℕ
no_name_text text = codes "invalid dataset name '" ++ text ++ codes "'"

abbrev pub read_only_text : List ℕ
read_only_text = codes "zfs.sync is not available in a read-only program"
