use Rattle.std.proofs.Common.{◌≡◌, ℕ, List, Some, None, Option, Err, ◌≤◌, sym, ap, ◌∙◌, subst, length, cond, inl, inr}
use Rattle.std.proofs.lemmas.Bool.{le-ltb, cases_Bool, false≢true}
use Rattle.std.proofs.lemmas.Str.{is_utf8-from_IsUtf8, IsUtf8-from_is_utf8}
use Rattle.std.specs.Str.{IsUtf8, is_utf8}
use Rattle.serde_json.specs.Data.{Data}
use Rattle.serde_json.specs.Read.{read}
use Rattle.zc_doc.specs.declared.document.Need.{Need}
use Rattle.zc_doc.specs.declared.error.DocError.TheVariants.{TooLong, NotJson}
use Rattle.zc_doc.specs.Document.{GivesContents, document_of, document_in, document_at, data_of, most_bytes}
use Rattle.zc_doc.proofs.document.read_document.Goals as goal

short : (n : Need) (bytes : List ℕ) → length bytes ≤ most_bytes → document_of n bytes ≡ document_in n (data_of bytes)
unfolding document_of
short n bytes le = ap (λ b. cond b (Err (TooLong (length bytes))) (document_in n (data_of bytes))) (le-ltb most_bytes (length bytes) le)

read-ok : (n : Need) (bytes : List ℕ) (d : Data) → length bytes ≤ most_bytes → IsUtf8 bytes → read bytes ≡ Some d → document_of n bytes ≡ document_at n d
read-ok n bytes d le utf8 is = short n bytes le ∙ ap (λ b. document_in n (cond b (read bytes) None)) (is_utf8-from_IsUtf8 bytes utf8) ∙ ap (document_in n) is

read-none : (n : Need) (bytes : List ℕ) → length bytes ≤ most_bytes → (IsUtf8 bytes → read bytes ≡ None) → document_of n bytes ≡ Err NotJson
read-none n bytes le none = short n bytes le ∙ elim (cases_Bool (is_utf8 bytes)) [
  | inl text ↦ ap (λ b. document_in n (cond b (read bytes) None)) text ∙ ap (document_in n) (none (IsUtf8-from_is_utf8 bytes text))
  | inr other ↦ ap (λ b. document_in n (cond b (read bytes) None)) other
]

pub returns-in-Ok-clause-document : goal.returns-in-Ok-clause-document
returns-in-Ok-clause-document c =
    let a = c.in-Ok.ensures in
    subst (GivesContents c.read_members.result) (sym (read-ok c.args.need c.args.bytes.now _ c.if-count-gt-MOST_BYTES.false a.ok.0 a.ok.1)) c.read_members.ensures.document

pub returns-in-Err-2-clause-document : goal.returns-in-Err-2-clause-document
returns-in-Err-2-clause-document c =
    let a = c.in-Err.ensures in
    read-none c.args.need c.args.bytes.now c.if-count-gt-MOST_BYTES.false (a.err (λ m. false≢true (c.if-is_memory.ensures.1 m)))
