-- Operators on values (Lua 5.2 manual, 3.4.1 to 3.4.6), and their metamethods (2.4).
-- This project's own: the texts of errors, what `..` and the call of a metamethod cost, and which metamethod is taken: that of the left operand first, `__le` of either before `__lt`, and for `a <= b` by `__lt` that of `b` first.
use Rattle.std.specs.Prelude.{ℕ, zero, suc, ◌/◌, ℤ, pos, neg_ℤ, int_lt, Bool, true, false, not, List, [], ◌∷◌, ◌++◌, length, codes, if◌then◌else◌, Option, Some, None}
use Rattle.std.specs.Ordering.{nat_cmp, is_lt, is_le}
use Rattle.std.specs.Cmp.Lexicographic.{slice_cmp}
use Rattle.lua_ast.specs.declared.node.BinOp.{BinOp}
use Rattle.lua_ast.specs.declared.node.BinOp.TheVariants as bin
use Rattle.lua_ast.specs.declared.node.UnOp.{UnOp}
use Rattle.lua_ast.specs.declared.node.UnOp.TheVariants as un
use Rattle.lua_meaning.specs.declared.value.Value.{Value}
use Rattle.lua_meaning.specs.declared.value.Value.TheVariants as value
use Rattle.lua_meaning.specs.Values.{same, truth, type_name, first}
use Rattle.lua_meaning.specs.Numbers.{to_int, as_text, wrapped, Numbers, both, not_both, numbers, Worked, number, refused, work_out}
use Rattle.lua_meaning.specs.Tables.{border}
use Rattle.lua_meaning.specs.Heap.{HeapOf, table_at, metamethod, text_bytes}
use Rattle.zc_budget.specs.Used.{is_spent, ticked, is_over, charged}
use Rattle.zc_budget.specs.declared.budget.Stop.{Stop}
use Rattle.zc_budget.specs.declared.budget.Stop.TheVariants as stop
use Rattle.lua_meaning.specs.Store.{Raises, Stops, heap_of, with_heap}
use Rattle.lua_meaning.specs.Runs.{Run, go, halt, after, tick, error_text, attempt_text}
use Rattle.lua_meaning.specs.Jobs.{Again, Apply}

-- the metamethod of the first value that has one
abbrev pub either : HeapOf → List ℕ → Value → Value → Value
either h name a b = elim (metamethod h a name) [ value.Nil ↦ metamethod h b name | f ↦ f ]

-- the name of the metamethod of an arithmetic operator
abbrev pub event : BinOp → List ℕ
event bin.Add = codes "__add"
event bin.Sub = codes "__sub"
event bin.Mul = codes "__mul"
event bin.Div = codes "__div"
event bin.Mod = codes "__mod"
event bin.Pow = codes "__pow"
event _ = []

-- of two operands that are not both of a kind, the first that isn't
abbrev pub first_without : {X : Type 0} → (Value → Option X) → Value → Value → Value
first_without kind a b = elim (kind a) [ None ↦ a | Some _ ↦ b ]

-- two operands that count as texts
pub data Texts : Type 0 where
  texts : List ℕ → List ℕ → Texts
  not_texts : Texts

abbrev pub two_texts : Option (List ℕ) → Option (List ℕ) → Texts
two_texts (Some s) (Some t) = texts s t
two_texts _ _ = not_texts

-- What an operator answers, and the heap that it leaves: a value, a metamethod to be called (whose result is negated, or not), an error, or a stop.
pub data OpAnswer : Type 0 where
  Done : Value → OpAnswer
  Meta : (function : Value) (args : List Value) (negated : Bool) → OpAnswer
  Raise : Value → OpAnswer
  Stopped : Stop → OpAnswer

abbrev pub Op : Type 0
Op = HeapOf → OpAnswer × HeapOf

abbrev pub done : Value → Op
done v h = (Done v, h)

-- n bytes of memory, and n instructions
abbrev pub op_charge : ℕ → Op → Op
op_charge n k h = if is_over n h.used then (Stopped stop.Memory, h) else k (record h { used = charged n h.used })

abbrev pub op_ticks : ℕ → Op → Op
op_ticks zero k h = k h
op_ticks (suc n) k h = if is_spent h.used then (Stopped stop.Instructions, h) else op_ticks n k (record h { used = ticked h.used })

abbrev pub op_fails : List ℕ → List ℕ → Op
op_fails lines text = op_charge (text_bytes (error_text lines text)) (λ h. (Raise (value.Text (error_text lines text)), h))

abbrev pub op_fails_on : List ℕ → List ℕ → Value → Op
op_fails_on lines what v = op_fails lines (attempt_text what v)

-- by the metamethod, or else by the other way
abbrev pub by_meta_or : Value → List Value → Bool → Op → Op
by_meta_or value.Nil args negated other = other
by_meta_or f args negated other = λ h. (Meta f args negated, h)

-- what comes of numbers, or the error
abbrev pub worked : Worked → List ℕ → Op
worked (number z) lines = done (value.Int z)
worked (refused text) lines = op_fails lines text

-- `+ - * / % ^`
abbrev pub arith : BinOp → Numbers → Value → Value → List ℕ → Op
arith op (both x y) a b lines = worked (work_out op x y) lines
arith op not_both a b lines = λ h. by_meta_or (either h (event op) a b) (a ∷ b ∷ []) false (op_fails_on lines (codes "perform arithmetic on") (first_without to_int a b)) h

-- unary `-`
abbrev pub negative : Option ℤ → Value → List ℕ → Op
negative (Some z) a lines = done (value.Int (wrapped (neg_ℤ z)))
negative None a lines = λ h. by_meta_or (metamethod h a (codes "__unm")) (a ∷ []) false (op_fails_on lines (codes "perform arithmetic on") a) h

-- the result of `..`: its memory, then an instruction for each 64 bytes of it
abbrev pub concat_text : List ℕ → Op
concat_text s = op_charge (text_bytes s) (op_ticks (length s / 64) (done (value.Text s)))

-- `..`
abbrev pub concat : Texts → Value → Value → List ℕ → Op
concat (texts s t) a b lines = concat_text (s ++ t)
concat not_texts a b lines = λ h. by_meta_or (either h (codes "__concat") a b) (a ∷ b ∷ []) false (op_fails_on lines (codes "concatenate") (first_without as_text a b)) h

abbrev pub fails_compare : Value → Value → List ℕ → Op
fails_compare a b lines = op_fails lines (codes "attempt to compare " ++ type_name a ++ codes " with " ++ type_name b)

-- `<` by `__lt`
abbrev pub less_by : Value → Value → List ℕ → Op
less_by a b lines = λ h. by_meta_or (either h (codes "__lt") a b) (a ∷ b ∷ []) false (fails_compare a b lines) h

-- `<`
abbrev pub less : Value → Value → List ℕ → Op
less (value.Int x) (value.Int y) lines = done (value.Bool (int_lt x y))
less (value.Text x) (value.Text y) lines = done (value.Bool (is_lt (slice_cmp nat_cmp x y)))
less a b lines = less_by a b lines

-- `<=` by `__le` of either, or else by `not (b < a)`
abbrev pub not_greater_by : Value → Value → List ℕ → Op
not_greater_by a b lines = λ h. by_meta_or (either h (codes "__le") a b) (a ∷ b ∷ []) false
    (by_meta_or (either h (codes "__lt") b a) (b ∷ a ∷ []) true (fails_compare a b lines)) h

-- `<=`
abbrev pub less_or_same : Value → Value → List ℕ → Op
less_or_same (value.Int x) (value.Int y) lines = done (value.Bool (not (int_lt y x)))
less_or_same (value.Text x) (value.Text y) lines = done (value.Bool (is_le (slice_cmp nat_cmp x y)))
less_or_same a b lines = not_greater_by a b lines

-- the `__eq` that two tables both have
abbrev pub common : HeapOf → Value → Value → Value
common h (value.Table i) (value.Table j) =
    if same (metamethod h (value.Table i) (codes "__eq")) (metamethod h (value.Table j) (codes "__eq")) then metamethod h (value.Table i) (codes "__eq") else value.Nil
common h a b = value.Nil

-- `==`
abbrev pub equal : Value → Value → Op
equal a b h = if same a b then (Done (value.Bool true), h) else by_meta_or (common h a b) (a ∷ b ∷ []) false (done (value.Bool false)) h

abbrev pub own_length : Value → List ℕ → Op
own_length (value.Table t) lines = λ h. (Done (value.Int (pos (border (table_at h t).pairs))), h)
own_length a lines = op_fails_on lines (codes "get length of") a

-- `#`
abbrev pub len : Value → List ℕ → Op
len (value.Text x) lines = done (value.Int (pos (length x)))
len a lines = λ h. by_meta_or (metamethod h a (codes "__len")) (a ∷ []) false (own_length a lines) h

-- `a > b` is `b < a`, `a >= b` is `b <= a`, and of `~=` the node negates the answer
abbrev pub binary_op : BinOp → Value → Value → List ℕ → Op
binary_op bin.Concat a b lines = concat (two_texts (as_text a) (as_text b)) a b lines
binary_op bin.Eq a b lines = equal a b
binary_op bin.Ne a b lines = equal a b
binary_op bin.Less a b lines = less a b lines
binary_op bin.LessEq a b lines = less_or_same a b lines
binary_op bin.Greater a b lines = less b a lines
binary_op bin.GreaterEq a b lines = less_or_same b a lines
binary_op op a b lines = arith op (numbers a b) a b lines

abbrev pub unary_op : UnOp → Value → List ℕ → Op
unary_op un.Neg a lines = negative (to_int a) a lines
unary_op un.Not a lines = done (value.Bool (not (truth a)))
unary_op un.Len a lines = len a lines

-- what a node makes of the answer: of a comparison it is true or false
abbrev pub told : BinOp → Value → Value
told bin.Eq v = value.Bool (truth v)
told bin.Ne v = value.Bool (not (truth v))
told bin.Less v = value.Bool (truth v)
told bin.LessEq v = value.Bool (truth v)
told bin.Greater v = value.Bool (truth v)
told bin.GreaterEq v = value.Bool (truth v)
told op v = v

abbrev pub negated_if : Bool → Value → Value
negated_if true v = value.Bool (not (truth v))
negated_if false v = v

module _ {H : Type 0} (again : Again H) where
  -- calls a metamethod, and takes its first result
  abbrev pub by_meta : Value → List Value → List ℕ → (Value → Value) → Run H
  by_meta f args lines made = tick (λ s r. after (again (Apply f args lines lines) s r) (λ vs. go (made (first vs) ∷ [])))

  abbrev pub answered_op : OpAnswer → List ℕ → (Value → Value) → Run H
  answered_op (Done v) lines made = go (made v ∷ [])
  answered_op (Meta f args negated) lines made = by_meta f args lines (λ v. made (negated_if negated v))
  answered_op (Raise v) lines made = halt (Raises v)
  answered_op (Stopped st) lines made = halt (Stops st)

  abbrev pub operate : Op → List ℕ → (Value → Value) → Run H
  operate op lines made s = answered_op (op (heap_of s)).0 lines made (with_heap (op (heap_of s)).1 s)

  abbrev pub binary : BinOp → Value → Value → List ℕ → Run H
  binary op a b lines = operate (binary_op op a b lines) lines (told op)

  abbrev pub unary : UnOp → Value → List ℕ → Run H
  unary op a lines = operate (unary_op op a lines) lines (λ v. v)
