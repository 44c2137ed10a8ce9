-- What operators use.
use Rattle.std.proofs.Common.{◌≡◌, ℕ, zero, suc, List, [], ◌∷◌, ◌++◌, length, Option, Some, None, true, false, Bool, refl}
use Rattle.std.specs.Prelude.{ℤ, if◌then◌else◌, codes, ◌/◌}
use Rattle.zc_budget.specs.Used.{IsWithin, is_spent, ticked, is_over, charged}
use Rattle.zc_budget.specs.declared.budget.Stop.TheVariants as stop
use Rattle.lua_ast.specs.declared.node.BinOp.{BinOp}
use Rattle.lua_ast.specs.declared.node.BinOp.TheVariants as bin
use Rattle.lua_ast.specs.declared.node.UnOp.{UnOp}
use Rattle.lua_ast.specs.declared.node.UnOp.TheVariants as un
use Rattle.lua_meaning.specs.declared.value.Value.{Value}
use Rattle.lua_meaning.specs.declared.value.Value.TheVariants as value
use Rattle.lua_meaning.specs.Values.{same, type_name}
use Rattle.lua_meaning.specs.Numbers.{to_int, as_text, Numbers, both, not_both, numbers, Worked, number, refused, work_out}
use Rattle.lua_meaning.specs.Heap.{HeapOf, metamethod, text_bytes}
use Rattle.lua_meaning.specs.Runs.{error_text, attempt_text}
use Rattle.lua_meaning.specs.Laws.{Grows}
use Rattle.lua_meaning.specs.Operators.{Op, Done, Raise, Stopped, Texts, texts, not_texts, two_texts, either, event, first_without, done, op_charge, op_ticks, op_fails, op_fails_on, fails_compare, by_meta_or, worked, arith, concat, negative, less, less_or_same, equal, common, own_length, len, binary_op, unary_op}
use Rattle.lua_steps.proofs.Arriving.{grows_none, grows_on, grows_ticked, grows_charged}

-- nothing is given back, and no limit is passed
abbrev GrowsBy : Op → Type 0
GrowsBy op = (h : HeapOf) → IsWithin h.used → Grows h.used (op h).1.used

charge_grows : (n : ℕ) (k : Op) → GrowsBy k → GrowsBy (op_charge n k)
charge_grows n k f h w = by (is_over n h.used) refl
  where
    by : (t : Bool) → is_over n h.used ≡ t → Grows h.used (if t then (Stopped stop.Memory, h) else k (record h { used = charged n h.used })).1.used
    by true e = grows_none h.used w
    by false e = (let g = grows_charged n h.used e w in grows_on h.used (charged n h.used) (k (record h { used = charged n h.used })).1.used g (f (record h { used = charged n h.used }) g.within))

ticks_grow : (n : ℕ) (k : Op) → GrowsBy k → GrowsBy (op_ticks n k)
ticks_grow zero k f h w = f h w
ticks_grow (suc n) k f h w = by (ticks_grow n k f) (is_spent h.used) refl
  where
    by : GrowsBy (op_ticks n k) → (t : Bool) → is_spent h.used ≡ t → Grows h.used (if t then (Stopped stop.Instructions, h) else op_ticks n k (record h { used = ticked h.used })).1.used
    by rest true e = grows_none h.used w
    by rest false e = (let g = grows_ticked h.used e w in grows_on h.used (ticked h.used) (op_ticks n k (record h { used = ticked h.used })).1.used g (rest (record h { used = ticked h.used }) g.within))

done_grows : (v : Value) → GrowsBy (done v)
done_grows v h w = grows_none h.used w

fails_grow : (lines text : List ℕ) → GrowsBy (op_fails lines text)
fails_grow lines text = charge_grows (text_bytes (error_text lines text)) (λ h. (Raise (value.Text (error_text lines text)), h)) (λ h w. grows_none h.used w)

meta_grows : (f : Value) (args : List Value) (negated : Bool) (other : Op) → GrowsBy other → GrowsBy (by_meta_or f args negated other)
meta_grows value.Nil args negated other f = f
meta_grows _ args negated other f = λ h w. grows_none h.used w

worked_grows : (worked' : Worked) (lines : List ℕ) → GrowsBy (worked worked' lines)
worked_grows (number z) lines = done_grows (value.Int z)
worked_grows (refused text) lines = fails_grow lines text

arith_grows : (op : BinOp) (ns : Numbers) (a b : Value) (lines : List ℕ) → GrowsBy (arith op ns a b lines)
arith_grows op (both x y) a b lines = worked_grows (work_out op x y) lines
arith_grows op not_both a b lines = λ h. meta_grows (either h (event op) a b) (a ∷ b ∷ []) false (op_fails_on lines (codes "perform arithmetic on") (first_without to_int a b)) (fails_grow lines (attempt_text (codes "perform arithmetic on") (first_without to_int a b))) h

negative_grows : (z : Option ℤ) (a : Value) (lines : List ℕ) → GrowsBy (negative z a lines)
negative_grows (Some z) a lines = λ h w. grows_none h.used w
negative_grows None a lines = λ h. meta_grows (metamethod h a (codes "__unm")) (a ∷ []) false (op_fails_on lines (codes "perform arithmetic on") a) (fails_grow lines (attempt_text (codes "perform arithmetic on") a)) h

concat_grows : (ts : Texts) (a b : Value) (lines : List ℕ) → GrowsBy (concat ts a b lines)
concat_grows (texts s t) a b lines = charge_grows (text_bytes (s ++ t)) (op_ticks (length (s ++ t) / 64) (done (value.Text (s ++ t)))) (ticks_grow (length (s ++ t) / 64) (done (value.Text (s ++ t))) (done_grows (value.Text (s ++ t))))
concat_grows not_texts a b lines = λ h. meta_grows (either h (codes "__concat") a b) (a ∷ b ∷ []) false (op_fails_on lines (codes "concatenate") (first_without as_text a b)) (fails_grow lines (attempt_text (codes "concatenate") (first_without as_text a b))) h

compare_grows : (a b : Value) (lines : List ℕ) → GrowsBy (fails_compare a b lines)
compare_grows a b lines = fails_grow lines (codes "attempt to compare " ++ type_name a ++ codes " with " ++ type_name b)

less_grows : (a b : Value) (lines : List ℕ) → GrowsBy (less a b lines)
less_grows (value.Int x) (value.Int y) lines = λ h w. grows_none h.used w
less_grows (value.Text x) (value.Text y) lines = λ h w. grows_none h.used w
less_grows a b lines = λ h. meta_grows (either h (codes "__lt") a b) (a ∷ b ∷ []) false (fails_compare a b lines) (compare_grows a b lines) h

less_or_same_grows : (a b : Value) (lines : List ℕ) → GrowsBy (less_or_same a b lines)
less_or_same_grows (value.Int x) (value.Int y) lines = λ h w. grows_none h.used w
less_or_same_grows (value.Text x) (value.Text y) lines = λ h w. grows_none h.used w
less_or_same_grows a b lines = λ h. meta_grows (either h (codes "__le") a b) (a ∷ b ∷ []) false (by_meta_or (either h (codes "__lt") b a) (b ∷ a ∷ []) true (fails_compare a b lines))
    (meta_grows (either h (codes "__lt") b a) (b ∷ a ∷ []) true (fails_compare a b lines) (compare_grows a b lines)) h

equal_grows : (a b : Value) → GrowsBy (equal a b)
equal_grows a b h w = by (same a b)
  where
    by : (t : Bool) → Grows h.used (if t then (Done (value.Bool true), h) else by_meta_or (common h a b) (a ∷ b ∷ []) false (done (value.Bool false)) h).1.used
    by true = grows_none h.used w
    by false = meta_grows (common h a b) (a ∷ b ∷ []) false (done (value.Bool false)) (done_grows (value.Bool false)) h w

own_length_grows : (a : Value) (lines : List ℕ) → GrowsBy (own_length a lines)
own_length_grows (value.Table t) lines = λ h w. grows_none h.used w
own_length_grows a lines = fails_grow lines (attempt_text (codes "get length of") a)

length_grows : (a : Value) (lines : List ℕ) → GrowsBy (len a lines)
length_grows (value.Text x) lines = λ h w. grows_none h.used w
length_grows a lines = λ h. meta_grows (metamethod h a (codes "__len")) (a ∷ []) false (own_length a lines) (own_length_grows a lines) h

pub binary_grows : (op : BinOp) (a b : Value) (lines : List ℕ) (h : HeapOf) → IsWithin h.used → Grows h.used (binary_op op a b lines h).1.used
binary_grows bin.Concat a b lines = concat_grows (two_texts (as_text a) (as_text b)) a b lines
binary_grows bin.Eq a b lines = equal_grows a b
binary_grows bin.Ne a b lines = equal_grows a b
binary_grows bin.Less a b lines = less_grows a b lines
binary_grows bin.LessEq a b lines = less_or_same_grows a b lines
binary_grows bin.Greater a b lines = less_grows b a lines
binary_grows bin.GreaterEq a b lines = less_or_same_grows b a lines
binary_grows bin.Add a b lines = arith_grows bin.Add (numbers a b) a b lines
binary_grows bin.Sub a b lines = arith_grows bin.Sub (numbers a b) a b lines
binary_grows bin.Mul a b lines = arith_grows bin.Mul (numbers a b) a b lines
binary_grows bin.Div a b lines = arith_grows bin.Div (numbers a b) a b lines
binary_grows bin.Mod a b lines = arith_grows bin.Mod (numbers a b) a b lines
binary_grows bin.Pow a b lines = arith_grows bin.Pow (numbers a b) a b lines

pub unary_grows : (op : UnOp) (a : Value) (lines : List ℕ) (h : HeapOf) → IsWithin h.used → Grows h.used (unary_op op a lines h).1.used
unary_grows un.Neg a lines = negative_grows (to_int a) a lines
unary_grows un.Not a lines = λ h w. grows_none h.used w
unary_grows un.Len a lines = length_grows a lines
