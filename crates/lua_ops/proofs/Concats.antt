-- `..` by whether both operands are texts.
use Rattle.std.proofs.Common.{◌≡◌, List, ◌++◌, ℕ, Some, None, subst}
use Rattle.lua_meaning.specs.declared.value.Value.{Value}
use Rattle.lua_meaning.specs.Heap.{HeapOf}
use Rattle.lua_meaning.specs.Operators.{Texts, texts, not_texts, concat, concat_text}
use Rattle.lua_ops.specs.Answers.{IsOpAnswer}
use Rattle.lua_ops.specs.Texts.{joined_texts}
use Rattle.lua_ops.specs.declared.result.OpResult.{OpResult}

pub concat_joined : (ts : Texts) (text whole : List ℕ) (a b : Value) (lines : List ℕ) (h h' : HeapOf) (r : OpResult) → Some whole ≡ joined_texts ts → text ≡ whole → IsOpAnswer (concat_text text) h r h' → IsOpAnswer (concat ts a b lines) h r h'
concat_joined (texts s t) text whole a b lines h h' r e f k = let same : text ≡ s ++ t = cc in subst (λ x. IsOpAnswer (concat_text x) h r h') same k
concat_joined not_texts text whole a b lines h h' r e f k = absurd (let nothing : Some whole ≡ None = e in cc)

pub concat_apart : (ts : Texts) (a b : Value) (lines : List ℕ) (h h' : HeapOf) (r : OpResult) → None ≡ joined_texts ts → IsOpAnswer (concat not_texts a b lines) h r h' → IsOpAnswer (concat ts a b lines) h r h'
concat_apart (texts s t) a b lines h h' r e k = absurd (let something : None ≡ Some (s ++ t) = e in cc)
concat_apart not_texts a b lines h h' r e k = k
