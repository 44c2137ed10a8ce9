-- What operators answer holds numbers of the heap alone, where their operands do.
use Rattle.std.proofs.Common.{◌≡◌, ℕ, zero, suc, List, [], ◌∷◌, ◌++◌, length, Bool, true, false, Option, Some, None, ap}
use Rattle.std.specs.Prelude.{ℤ, ⊤, ◌/◌, codes, if◌then◌else◌}
use Rattle.zc_budget.specs.Used.{is_spent, ticked, is_over, charged}
use Rattle.zc_budget.specs.declared.budget.Stop.TheVariants as stop
use Rattle.lua_ast.specs.declared.node.BinOp.{BinOp}
use Rattle.lua_ast.specs.declared.node.BinOp.TheVariants as bin
use Rattle.lua_ast.specs.declared.node.UnOp.{UnOp}
use Rattle.lua_ast.specs.declared.node.UnOp.TheVariants as un
use Rattle.lua_meaning.specs.declared.value.Value.{Value}
use Rattle.lua_meaning.specs.declared.value.Value.TheVariants as value
use Rattle.lua_meaning.specs.Values.{same, type_name}
use Rattle.lua_meaning.specs.Numbers.{to_int, as_text, Numbers, both, not_both, numbers, Worked, number, refused, work_out}
use Rattle.lua_meaning.specs.Heap.{HeapOf, metamethod, metatable, entry_of, text_bytes}
use Rattle.lua_meaning.specs.Runs.{error_text, attempt_text}
use Rattle.lua_meaning.specs.Operators.{Op, OpAnswer, Done, Meta, Raise, Stopped, Texts, texts, not_texts, two_texts, either, event, first_without, done, op_ticks, op_fails, op_fails_on, fails_compare, by_meta_or, worked, arith, concat, concat_text, negative, less, less_or_same, equal, common, own_length, len, binary_op, unary_op}
use Rattle.lua_meaning.proofs.Operating.{binary_alone, unary_alone}
use Rattle.lua_values.specs.Ids.{Ids, ids_of, IsOf, AreOwn}
use Rattle.lua_values.proofs.OwnTables.{own_entry}
use Rattle.lua_steps.specs.Own.{AreOf}
use Rattle.lua_steps.proofs.OwnGiven.{one_own}
use Rattle.std.proofs.lemmas.List.Elements.{All-cons}

abbrev pub IsOwnAnswer : Ids → OpAnswer → Type 0
IsOwnAnswer ids (Done v) = IsOf ids v
IsOwnAnswer ids (Meta f args negated) = IsOf ids f × AreOf ids args
IsOwnAnswer ids (Raise v) = IsOf ids v
IsOwnAnswer ids (Stopped st) = ⊤

-- the answer, beside the heap that is left
abbrev IsOwnOut : Ids → OpAnswer × HeapOf → Type 0
IsOwnOut ids out = IsOwnAnswer ids out.0

pub two_own : (ids : Ids) (a b : Value) → IsOf ids a → IsOf ids b → AreOf ids (a ∷ b ∷ [])
two_own ids a b p q = All-cons (IsOf ids) a (b ∷ []) p (one_own ids b q)

fails_own : (ids : Ids) (lines text : List ℕ) (h : HeapOf) → IsOwnAnswer ids (op_fails lines text h).0
fails_own ids lines text h = by (is_over (text_bytes (error_text lines text)) h.used)
  where
    by : (t : Bool) → IsOwnOut ids (if t then (Stopped stop.Memory, h) else (Raise (value.Text (error_text lines text)), record h { used = charged (text_bytes (error_text lines text)) h.used }))
    by true = tt
    by false = tt

text_own : (ids : Ids) (n : ℕ) (s : List ℕ) (h : HeapOf) → IsOwnAnswer ids (op_ticks n (done (value.Text s)) h).0
text_own ids zero s h = tt
text_own ids (suc n) s h = by (is_spent h.used) (text_own ids n s (record h { used = ticked h.used }))
  where
    by : (t : Bool) → IsOwnAnswer ids (op_ticks n (done (value.Text s)) (record h { used = ticked h.used })).0 → IsOwnOut ids (if t then (Stopped stop.Instructions, h) else op_ticks n (done (value.Text s)) (record h { used = ticked h.used }))
    by true rest = tt
    by false rest = rest

concat_text_own : (ids : Ids) (s : List ℕ) (h : HeapOf) → IsOwnAnswer ids (concat_text s h).0
concat_text_own ids s h = by (is_over (text_bytes s) h.used)
  where
    by : (t : Bool) → IsOwnOut ids (if t then (Stopped stop.Memory, h) else op_ticks (length s / 64) (done (value.Text s)) (record h { used = charged (text_bytes s) h.used }))
    by true = tt
    by false = text_own ids (length s / 64) s (record h { used = charged (text_bytes s) h.used })

meta_own : (ids : Ids) (f : Value) (args : List Value) (negated : Bool) (other : Op) (h : HeapOf) → IsOf ids f → AreOf ids args → IsOwnAnswer ids (other h).0 → IsOwnAnswer ids (by_meta_or f args negated other h).0
meta_own ids value.Nil args negated other h own all rest = rest
meta_own ids f args negated other h own all rest = (own, all)

module _ (h : HeapOf) (own : AreOwn h) where
  entry_of_own : (m : Option ℕ) (name : List ℕ) → IsOf (ids_of h) (entry_of h m name)
  entry_of_own None name = tt
  entry_of_own (Some m) name = own_entry h own m (value.Text name)

  pub metamethod_own : (v : Value) (name : List ℕ) → IsOf (ids_of h) (metamethod h v name)
  metamethod_own v name = entry_of_own (metatable h v) name

  either_own : (name : List ℕ) (a b : Value) → IsOf (ids_of h) (either h name a b)
  either_own name a b = by (metamethod h a name) (metamethod_own a name)
    where
      by : (f : Value) → IsOf (ids_of h) f → IsOf (ids_of h) (elim f [ value.Nil ↦ metamethod h b name | f ↦ f ])
      by value.Nil q = metamethod_own b name
      by f q = q

  common_own : (a b : Value) → IsOf (ids_of h) (common h a b)
  common_own (value.Table i) (value.Table j) = by (same (metamethod h (value.Table i) (codes "__eq")) (metamethod h (value.Table j) (codes "__eq")))
    where
      by : (t : Bool) → IsOf (ids_of h) (if t then metamethod h (value.Table i) (codes "__eq") else value.Nil)
      by true = metamethod_own (value.Table i) (codes "__eq")
      by false = tt
  common_own a b = tt

  worked_own : (w : Worked) (lines : List ℕ) → IsOwnAnswer (ids_of h) (worked w lines h).0
  worked_own (number z) lines = tt
  worked_own (refused text) lines = fails_own (ids_of h) lines text h

  arith_own : (op : BinOp) (ns : Numbers) (a b : Value) (lines : List ℕ) → IsOf (ids_of h) a → IsOf (ids_of h) b → IsOwnAnswer (ids_of h) (arith op ns a b lines h).0
  arith_own op (both x y) a b lines p q = worked_own (work_out op x y) lines
  arith_own op not_both a b lines p q = meta_own (ids_of h) (either h (event op) a b) (a ∷ b ∷ []) false (op_fails_on lines (codes "perform arithmetic on") (first_without to_int a b)) h (either_own (event op) a b) (two_own (ids_of h) a b p q) (fails_own (ids_of h) lines (attempt_text (codes "perform arithmetic on") (first_without to_int a b)) h)

  negative_own : (z : Option ℤ) (a : Value) (lines : List ℕ) → IsOf (ids_of h) a → IsOwnAnswer (ids_of h) (negative z a lines h).0
  negative_own (Some z) a lines p = tt
  negative_own None a lines p = meta_own (ids_of h) (metamethod h a (codes "__unm")) (a ∷ []) false (op_fails_on lines (codes "perform arithmetic on") a) h (metamethod_own a (codes "__unm")) (one_own (ids_of h) a p) (fails_own (ids_of h) lines (attempt_text (codes "perform arithmetic on") a) h)

  concat_own : (ts : Texts) (a b : Value) (lines : List ℕ) → IsOf (ids_of h) a → IsOf (ids_of h) b → IsOwnAnswer (ids_of h) (concat ts a b lines h).0
  concat_own (texts s t) a b lines p q = concat_text_own (ids_of h) (s ++ t) h
  concat_own not_texts a b lines p q = meta_own (ids_of h) (either h (codes "__concat") a b) (a ∷ b ∷ []) false (op_fails_on lines (codes "concatenate") (first_without as_text a b)) h (either_own (codes "__concat") a b) (two_own (ids_of h) a b p q) (fails_own (ids_of h) lines (attempt_text (codes "concatenate") (first_without as_text a b)) h)

  compare_own : (a b : Value) (lines : List ℕ) → IsOwnAnswer (ids_of h) (fails_compare a b lines h).0
  compare_own a b lines = fails_own (ids_of h) lines (codes "attempt to compare " ++ type_name a ++ codes " with " ++ type_name b) h

  less_own : (a b : Value) (lines : List ℕ) → IsOf (ids_of h) a → IsOf (ids_of h) b → IsOwnAnswer (ids_of h) (less a b lines h).0
  less_own (value.Int x) (value.Int y) lines p q = tt
  less_own (value.Text x) (value.Text y) lines p q = tt
  less_own a b lines p q = meta_own (ids_of h) (either h (codes "__lt") a b) (a ∷ b ∷ []) false (fails_compare a b lines) h (either_own (codes "__lt") a b) (two_own (ids_of h) a b p q) (compare_own a b lines)

  less_or_same_own : (a b : Value) (lines : List ℕ) → IsOf (ids_of h) a → IsOf (ids_of h) b → IsOwnAnswer (ids_of h) (less_or_same a b lines h).0
  less_or_same_own (value.Int x) (value.Int y) lines p q = tt
  less_or_same_own (value.Text x) (value.Text y) lines p q = tt
  less_or_same_own a b lines p q = meta_own (ids_of h) (either h (codes "__le") a b) (a ∷ b ∷ []) false (by_meta_or (either h (codes "__lt") b a) (b ∷ a ∷ []) true (fails_compare a b lines)) h (either_own (codes "__le") a b) (two_own (ids_of h) a b p q)
      (meta_own (ids_of h) (either h (codes "__lt") b a) (b ∷ a ∷ []) true (fails_compare a b lines) h (either_own (codes "__lt") b a) (two_own (ids_of h) b a q p) (compare_own a b lines))

  equal_own : (a b : Value) → IsOf (ids_of h) a → IsOf (ids_of h) b → IsOwnAnswer (ids_of h) (equal a b h).0
  equal_own a b p q = by (same a b)
    where
      by : (t : Bool) → IsOwnOut (ids_of h) (if t then (Done (value.Bool true), h) else by_meta_or (common h a b) (a ∷ b ∷ []) false (done (value.Bool false)) h)
      by true = tt
      by false = meta_own (ids_of h) (common h a b) (a ∷ b ∷ []) false (done (value.Bool false)) h (common_own a b) (two_own (ids_of h) a b p q) tt

  own_length_own : (a : Value) (lines : List ℕ) → IsOwnAnswer (ids_of h) (own_length a lines h).0
  own_length_own (value.Table t) lines = tt
  own_length_own a lines = fails_own (ids_of h) lines (attempt_text (codes "get length of") a) h

  len_own : (a : Value) (lines : List ℕ) → IsOf (ids_of h) a → IsOwnAnswer (ids_of h) (len a lines h).0
  len_own (value.Text x) lines p = tt
  len_own a lines p = meta_own (ids_of h) (metamethod h a (codes "__len")) (a ∷ []) false (own_length a lines) h (metamethod_own a (codes "__len")) (one_own (ids_of h) a p) (own_length_own a lines)

  pub binary_own : (op : BinOp) (a b : Value) (lines : List ℕ) → IsOf (ids_of h) a → IsOf (ids_of h) b → IsOwnAnswer (ids_of h) (binary_op op a b lines h).0
  binary_own bin.Concat a b lines p q = concat_own (two_texts (as_text a) (as_text b)) a b lines p q
  binary_own bin.Eq a b lines p q = equal_own a b p q
  binary_own bin.Ne a b lines p q = equal_own a b p q
  binary_own bin.Less a b lines p q = less_own a b lines p q
  binary_own bin.LessEq a b lines p q = less_or_same_own a b lines p q
  binary_own bin.Greater a b lines p q = less_own b a lines q p
  binary_own bin.GreaterEq a b lines p q = less_or_same_own b a lines q p
  binary_own bin.Add a b lines p q = arith_own bin.Add (numbers a b) a b lines p q
  binary_own bin.Sub a b lines p q = arith_own bin.Sub (numbers a b) a b lines p q
  binary_own bin.Mul a b lines p q = arith_own bin.Mul (numbers a b) a b lines p q
  binary_own bin.Div a b lines p q = arith_own bin.Div (numbers a b) a b lines p q
  binary_own bin.Mod a b lines p q = arith_own bin.Mod (numbers a b) a b lines p q
  binary_own bin.Pow a b lines p q = arith_own bin.Pow (numbers a b) a b lines p q

  pub unary_own : (op : UnOp) (a : Value) (lines : List ℕ) → IsOf (ids_of h) a → IsOwnAnswer (ids_of h) (unary_op op a lines h).0
  unary_own un.Neg a lines p = negative_own (to_int a) a lines p
  unary_own un.Not a lines p = tt
  unary_own un.Len a lines p = len_own a lines p

-- an operator makes nothing that has a number
pub binary_makes_none : (op : BinOp) (a b : Value) (lines : List ℕ) (h : HeapOf) → ids_of (binary_op op a b lines h).1 ≡ ids_of h
binary_makes_none op a b lines h = ap ids_of (binary_alone op a b lines h)

pub unary_makes_none : (op : UnOp) (a : Value) (lines : List ℕ) (h : HeapOf) → ids_of (unary_op op a lines h).1 ≡ ids_of h
unary_makes_none op a lines h = ap ids_of (unary_alone op a lines h)
