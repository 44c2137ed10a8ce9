-- An operator changes nothing of the heap but what is used.
use Rattle.std.proofs.Common.{◌≡◌, ℕ, zero, suc, List, [], ◌∷◌, ◌++◌, length, Option, Some, None, true, false, Bool, refl}
use Rattle.std.specs.Prelude.{ℤ, if◌then◌else◌, codes, ◌/◌}
use Rattle.zc_budget.specs.Used.{is_spent, ticked, is_over, charged}
use Rattle.zc_budget.specs.declared.budget.Stop.TheVariants as stop
use Rattle.lua_ast.specs.declared.node.BinOp.{BinOp}
use Rattle.lua_ast.specs.declared.node.BinOp.TheVariants as bin
use Rattle.lua_ast.specs.declared.node.UnOp.{UnOp}
use Rattle.lua_ast.specs.declared.node.UnOp.TheVariants as un
use Rattle.lua_meaning.specs.declared.value.Value.{Value}
use Rattle.lua_meaning.specs.declared.value.Value.TheVariants as value
use Rattle.lua_meaning.specs.Values.{same}
use Rattle.lua_meaning.specs.Numbers.{to_int, as_text, Numbers, both, not_both, numbers, Worked, number, refused, work_out}
use Rattle.lua_meaning.specs.Heap.{HeapOf, metamethod}
use Rattle.lua_meaning.specs.Runs.{error_text}
use Rattle.lua_meaning.specs.Operators.{Op, OpAnswer, Done, Raise, Stopped, Texts, texts, not_texts, two_texts, either, event, first_without, done, op_fails_on, fails_compare, op_charge, op_ticks, op_fails, by_meta_or, worked, arith, concat, negative, less, less_or_same, equal, common, own_length, len, binary_op, unary_op}
use Rattle.lua_meaning.specs.Laws.{ChangesUsedAlone}

-- what is left of the heap h differs from it in what is used alone
abbrev Alone : HeapOf → OpAnswer × HeapOf → Type 0
Alone h a = a.1 ≡ record h { used = a.1.used }

if_alone : (h : HeapOf) (t : Bool) (a b : OpAnswer × HeapOf) → Alone h a → Alone h b → Alone h (if t then a else b)
if_alone h true a b f g = f
if_alone h false a b f g = g

charge_alone : (n : ℕ) (k : Op) → ChangesUsedAlone k → ChangesUsedAlone (op_charge n k)
charge_alone n k f h = if_alone h (is_over n h.used) (Stopped stop.Memory, h) (k (record h { used = charged n h.used })) refl (f (record h { used = charged n h.used }))

ticks_alone : (n : ℕ) (k : Op) → ChangesUsedAlone k → ChangesUsedAlone (op_ticks n k)
ticks_alone zero k f h = f h
ticks_alone (suc n) k f h = if_alone h (is_spent h.used) (Stopped stop.Instructions, h) (op_ticks n k (record h { used = ticked h.used })) refl (ticks_alone n k f (record h { used = ticked h.used }))

fails_alone : (lines text : List ℕ) → ChangesUsedAlone (op_fails lines text)
fails_alone lines text = charge_alone _ (λ h. (Raise (value.Text (error_text lines text)), h)) (λ h. refl)

meta_alone : (f : Value) (args : List Value) (negated : Bool) (other : Op) → ChangesUsedAlone other → ChangesUsedAlone (by_meta_or f args negated other)
meta_alone value.Nil args negated other g = g
meta_alone _ args negated other g = λ h. refl

worked_alone : (w : Worked) (lines : List ℕ) → ChangesUsedAlone (worked w lines)
worked_alone (number z) lines = λ h. refl
worked_alone (refused text) lines = fails_alone lines text

arith_alone : (op : BinOp) (n : Numbers) (a b : Value) (lines : List ℕ) → ChangesUsedAlone (arith op n a b lines)
arith_alone op (both x y) a b lines = worked_alone (work_out op x y) lines
arith_alone op not_both a b lines = λ h. meta_alone (either h (event op) a b) (a ∷ b ∷ []) false (op_fails_on lines (codes "perform arithmetic on") (first_without to_int a b)) (fails_alone lines _) h

negative_alone : (z : Option ℤ) (a : Value) (lines : List ℕ) → ChangesUsedAlone (negative z a lines)
negative_alone (Some z) a lines = λ h. refl
negative_alone None a lines = λ h. meta_alone (metamethod h a (codes "__unm")) (a ∷ []) false (op_fails_on lines (codes "perform arithmetic on") a) (fails_alone lines _) h

concat_alone : (t : Texts) (a b : Value) (lines : List ℕ) → ChangesUsedAlone (concat t a b lines)
concat_alone (texts x y) a b lines = charge_alone _ (op_ticks (length (x ++ y) / 64) (done (value.Text (x ++ y)))) (ticks_alone (length (x ++ y) / 64) (done (value.Text (x ++ y))) (λ h. refl))
concat_alone not_texts a b lines = λ h. meta_alone (either h (codes "__concat") a b) (a ∷ b ∷ []) false (op_fails_on lines (codes "concatenate") (first_without as_text a b)) (fails_alone lines _) h

less_alone : (a b : Value) (lines : List ℕ) → ChangesUsedAlone (less a b lines)
less_alone (value.Int x) (value.Int y) lines = λ h. refl
less_alone (value.Text x) (value.Text y) lines = λ h. refl
less_alone a b lines = λ h. meta_alone (either h (codes "__lt") a b) (a ∷ b ∷ []) false (fails_compare a b lines) (fails_alone lines _) h

less_or_same_alone : (a b : Value) (lines : List ℕ) → ChangesUsedAlone (less_or_same a b lines)
less_or_same_alone (value.Int x) (value.Int y) lines = λ h. refl
less_or_same_alone (value.Text x) (value.Text y) lines = λ h. refl
less_or_same_alone a b lines = λ h. meta_alone (either h (codes "__le") a b) (a ∷ b ∷ []) false (by_meta_or (either h (codes "__lt") b a) (b ∷ a ∷ []) true (fails_compare a b lines)) (meta_alone (either h (codes "__lt") b a) (b ∷ a ∷ []) true (fails_compare a b lines) (fails_alone lines _)) h

equal_alone : (a b : Value) → ChangesUsedAlone (equal a b)
equal_alone a b h = if_alone h (same a b) (Done (value.Bool true), h) (by_meta_or (common h a b) (a ∷ b ∷ []) false (done (value.Bool false)) h) refl (meta_alone (common h a b) (a ∷ b ∷ []) false (done (value.Bool false)) (λ h. refl) h)

own_length_alone : (a : Value) (lines : List ℕ) → ChangesUsedAlone (own_length a lines)
own_length_alone (value.Table t) lines = λ h. refl
own_length_alone a lines = fails_alone lines _

length_alone : (a : Value) (lines : List ℕ) → ChangesUsedAlone (len a lines)
length_alone (value.Text x) lines = λ h. refl
length_alone a lines = λ h. meta_alone (metamethod h a (codes "__len")) (a ∷ []) false (own_length a lines) (own_length_alone a lines) h

pub binary_alone : (op : BinOp) (a b : Value) (lines : List ℕ) → ChangesUsedAlone (binary_op op a b lines)
binary_alone bin.Concat a b lines = concat_alone (two_texts (as_text a) (as_text b)) a b lines
binary_alone bin.Eq a b lines = equal_alone a b
binary_alone bin.Ne a b lines = equal_alone a b
binary_alone bin.Less a b lines = less_alone a b lines
binary_alone bin.LessEq a b lines = less_or_same_alone a b lines
binary_alone bin.Greater a b lines = less_alone b a lines
binary_alone bin.GreaterEq a b lines = less_or_same_alone b a lines
binary_alone bin.Add a b lines = arith_alone bin.Add (numbers a b) a b lines
binary_alone bin.Sub a b lines = arith_alone bin.Sub (numbers a b) a b lines
binary_alone bin.Mul a b lines = arith_alone bin.Mul (numbers a b) a b lines
binary_alone bin.Div a b lines = arith_alone bin.Div (numbers a b) a b lines
binary_alone bin.Mod a b lines = arith_alone bin.Mod (numbers a b) a b lines
binary_alone bin.Pow a b lines = arith_alone bin.Pow (numbers a b) a b lines

pub unary_alone : (op : UnOp) (a : Value) (lines : List ℕ) → ChangesUsedAlone (unary_op op a lines)
unary_alone un.Neg a lines = negative_alone (to_int a) a lines
unary_alone un.Not a lines = λ h. refl
unary_alone un.Len a lines = length_alone a lines
