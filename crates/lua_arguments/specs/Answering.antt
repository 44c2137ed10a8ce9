-- What the call of a built-in answers, and the heap that it leaves.
use Rattle.std.specs.Prelude.{ℕ, List, [], ◌∷◌}
use Rattle.lua_meaning.specs.declared.value.Value.{Value}
use Rattle.lua_meaning.specs.declared.value.Value.TheVariants as value
use Rattle.lua_meaning.specs.Runs.{error_text}
use Rattle.lua_meaning.specs.Heap.{HeapOf, text_bytes}
use Rattle.lua_meaning.specs.Jobs.{Answer, Values, Raise, Stopped, CallThen}
use Rattle.lua_meaning.specs.declared.status.After.TheVariants.{OneText}
use Rattle.lua_meaning.specs.Operators as op

abbrev pub Calling : Type 0
Calling = HeapOf → Answer × HeapOf

abbrev pub gives_values : List Value → Calling
gives_values vs h = (Values vs, h)

abbrev pub gives_value : Value → Calling
gives_value v = gives_values (v ∷ [])

abbrev pub raises_value : Value → Calling
raises_value v h = (Raise v, h)

-- the answer of an operator without metamethods
abbrev pub plain_answer : op.OpAnswer → Answer
plain_answer (op.Done v) = Values (v ∷ [])
plain_answer (op.Raise v) = Raise v
plain_answer (op.Stopped s) = Stopped s
plain_answer (op.Meta f args negated) = CallThen f args OneText

abbrev pub by_operator : op.Op → Calling
by_operator operator h = (plain_answer (operator h).0, (operator h).1)

-- a text that comes to be
abbrev pub gives_text : List ℕ → Calling
gives_text text = by_operator (op.op_charge (text_bytes text) (op.done (value.Text text)))

-- an error whose text comes to be
abbrev pub raises_text : List ℕ → Calling
raises_text text = by_operator (op.op_charge (text_bytes text) (λ h. (op.Raise (value.Text text), h)))

-- an error with the line at work before its text
abbrev pub raises_at : (lines text : List ℕ) → Calling
raises_at lines text = raises_text (error_text lines text)
