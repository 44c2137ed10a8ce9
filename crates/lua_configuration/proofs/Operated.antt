-- An operator looks at the first of the lines alone.
use Rattle.std.proofs.Common.{◌≡◌, ℕ, List, [], ◌∷◌, Option, Some, None, Bool, true, false, refl}
use Rattle.std.specs.Prelude.{ℤ, codes}
use Rattle.lua_ast.specs.declared.node.BinOp.{BinOp}
use Rattle.lua_ast.specs.declared.node.BinOp.TheVariants as bin
use Rattle.lua_ast.specs.declared.node.UnOp.{UnOp}
use Rattle.lua_ast.specs.declared.node.UnOp.TheVariants as un
use Rattle.lua_meaning.specs.declared.value.Value.{Value}
use Rattle.lua_meaning.specs.declared.value.Value.TheVariants as value
use Rattle.lua_meaning.specs.Numbers.{to_int, as_text, Numbers, both, not_both, numbers, Worked, number, refused, work_out}
use Rattle.lua_meaning.specs.Heap.{HeapOf, metamethod}
use Rattle.lua_meaning.specs.Operators.{Op, Texts, texts, not_texts, two_texts, either, event, by_meta_or, op_fails_on, fails_compare, first_without, worked, arith, concat, negative, less_by, less, not_greater_by, less_or_same, own_length, len, binary_op, unary_op}
use Rattle.lua_ops.specs.declared.result.OpResult.{OpResult}
use Rattle.lua_ops.specs.Answers.{IsOpAnswer}
use Rattle.lua_configuration.specs.Answers.{IsAnswer}
use Rattle.lua_configuration.proofs.Answered.{is_answer}

module _ (h : HeapOf) (line : ℕ) (rest : List ℕ) where
  worked_line : (w : Worked) → worked w (line ∷ []) h ≡ worked w (line ∷ rest) h
  worked_line (number z) = refl
  worked_line (refused text) = refl

  meta_line : (f : Value) (args : List Value) (negated : Bool) (k l : Op) → k h ≡ l h → by_meta_or f args negated k h ≡ by_meta_or f args negated l h
  meta_line value.Nil args negated k l e = e
  meta_line _ args negated k l e = refl

  arith_line : (op : BinOp) (ns : Numbers) (a b : Value) → arith op ns a b (line ∷ []) h ≡ arith op ns a b (line ∷ rest) h
  arith_line op (both x y) a b = worked_line (work_out op x y)
  arith_line op not_both a b = meta_line (either h (event op) a b) (a ∷ b ∷ []) false (op_fails_on (line ∷ []) (codes "perform arithmetic on") (first_without to_int a b)) (op_fails_on (line ∷ rest) (codes "perform arithmetic on") (first_without to_int a b)) refl

  concat_line : (ts : Texts) (a b : Value) → concat ts a b (line ∷ []) h ≡ concat ts a b (line ∷ rest) h
  concat_line (texts s t) a b = refl
  concat_line not_texts a b = meta_line (either h (codes "__concat") a b) (a ∷ b ∷ []) false (op_fails_on (line ∷ []) (codes "concatenate") (first_without as_text a b)) (op_fails_on (line ∷ rest) (codes "concatenate") (first_without as_text a b)) refl

  less_by_line : (a b : Value) → less_by a b (line ∷ []) h ≡ less_by a b (line ∷ rest) h
  less_by_line a b = meta_line (either h (codes "__lt") a b) (a ∷ b ∷ []) false (fails_compare a b (line ∷ [])) (fails_compare a b (line ∷ rest)) refl

  less_line : (a b : Value) → less a b (line ∷ []) h ≡ less a b (line ∷ rest) h
  less_line (value.Int x) (value.Int y) = refl
  less_line (value.Text x) (value.Text y) = refl
  less_line a b = less_by_line a b

  not_greater_line : (a b : Value) → not_greater_by a b (line ∷ []) h ≡ not_greater_by a b (line ∷ rest) h
  not_greater_line a b = meta_line (either h (codes "__le") a b) (a ∷ b ∷ []) false
      (by_meta_or (either h (codes "__lt") b a) (b ∷ a ∷ []) true (fails_compare a b (line ∷ []))) (by_meta_or (either h (codes "__lt") b a) (b ∷ a ∷ []) true (fails_compare a b (line ∷ rest)))
      (meta_line (either h (codes "__lt") b a) (b ∷ a ∷ []) true (fails_compare a b (line ∷ [])) (fails_compare a b (line ∷ rest)) refl)

  less_or_same_line : (a b : Value) → less_or_same a b (line ∷ []) h ≡ less_or_same a b (line ∷ rest) h
  less_or_same_line (value.Int x) (value.Int y) = refl
  less_or_same_line (value.Text x) (value.Text y) = refl
  less_or_same_line a b = not_greater_line a b

  binary_line : (op : BinOp) (a b : Value) → binary_op op a b (line ∷ []) h ≡ binary_op op a b (line ∷ rest) h
  binary_line bin.Add a b = arith_line bin.Add (numbers a b) a b
  binary_line bin.Sub a b = arith_line bin.Sub (numbers a b) a b
  binary_line bin.Mul a b = arith_line bin.Mul (numbers a b) a b
  binary_line bin.Div a b = arith_line bin.Div (numbers a b) a b
  binary_line bin.Mod a b = arith_line bin.Mod (numbers a b) a b
  binary_line bin.Pow a b = arith_line bin.Pow (numbers a b) a b
  binary_line bin.Concat a b = concat_line (two_texts (as_text a) (as_text b)) a b
  binary_line bin.Eq a b = refl
  binary_line bin.Ne a b = refl
  binary_line bin.Less a b = less_line a b
  binary_line bin.LessEq a b = less_or_same_line a b
  binary_line bin.Greater a b = less_line b a
  binary_line bin.GreaterEq a b = less_or_same_line b a

  negative_line : (z : Option ℤ) (a : Value) → negative z a (line ∷ []) h ≡ negative z a (line ∷ rest) h
  negative_line (Some z) a = refl
  negative_line None a = meta_line (metamethod h a (codes "__unm")) (a ∷ []) false (op_fails_on (line ∷ []) (codes "perform arithmetic on") a) (op_fails_on (line ∷ rest) (codes "perform arithmetic on") a) refl

  own_length_line : (a : Value) → own_length a (line ∷ []) h ≡ own_length a (line ∷ rest) h
  own_length_line (value.Table t) = refl
  own_length_line a = refl

  len_line : (a : Value) → len a (line ∷ []) h ≡ len a (line ∷ rest) h
  len_line (value.Text x) = refl
  len_line a = meta_line (metamethod h a (codes "__len")) (a ∷ []) false (own_length a (line ∷ [])) (own_length a (line ∷ rest)) (own_length_line a)

  unary_line : (op : UnOp) (a : Value) → unary_op op a (line ∷ []) h ≡ unary_op op a (line ∷ rest) h
  unary_line un.Neg a = negative_line (to_int a) a
  unary_line un.Not a = refl
  unary_line un.Len a = len_line a

  pub binary_is_answer : (op : BinOp) (a b : Value) (r : OpResult) (after : HeapOf) → IsOpAnswer (binary_op op a b (line ∷ [])) h r after → IsAnswer (binary_op op a b (line ∷ rest) h) r after
  binary_is_answer op a b r after told = rw (← binary_line op a b) (is_answer (binary_op op a b (line ∷ [])) h r after told)

  pub unary_is_answer : (op : UnOp) (a : Value) (r : OpResult) (after : HeapOf) → IsOpAnswer (unary_op op a (line ∷ [])) h r after → IsAnswer (unary_op op a (line ∷ rest) h) r after
  unary_is_answer op a r after told = rw (← unary_line op a) (is_answer (unary_op op a (line ∷ [])) h r after told)
