-- Programs that are read member by member.
use Rattle.std.proofs.Common.{◌≡◌, ℕ, List, [], ◌∷◌, ◌++◌, append_assoc, string_bytes, Result, Ok, Err, refl, sym, ap, ◌∙◌, String, Global}
use Rattle.serde_json.specs.View.{view, members_view}
use Rattle.serde_json.specs.declared.value.Value.{Value}
use Rattle.zc_doc.specs.declared.error.DocError.{DocError}
use Rattle.zc_doc.specs.declared.program.Program.{Program}
use Rattle.zc_doc.specs.Reading.{◌>>=◌}
use Rattle.zc_doc.specs.Programs.{program_at, programs_in}
use Rattle.zc_doc.proofs.Items.{with_front}

-- one program more was found
pub one-program : (left rest : List (String Global × Value)) (key : String Global) (v : Value) (name : List ℕ) (found : List Program) (p : Program) (all : Result (List Program) DocError) →
    left ≡ (key, v) ∷ rest → name ≡ string_bytes key → program_at name (view v) ≡ Ok p →
    with_front found (programs_in (members_view left)) ≡ all → with_front (found ++ p ∷ []) (programs_in (members_view rest)) ≡ all
one-program left rest key v name found p all is named reads e =
    let at : program_at (string_bytes key) (view v) ≡ Ok p = ap (λ (n : List ℕ). program_at n (view v)) (sym named) ∙ reads in
    later (programs_in (members_view rest))
    ∙ sym (ap (λ (es : List (String Global × Value)). with_front found (programs_in (members_view es))) is
    ∙ ap (λ (r : Result Program DocError). with_front found (r >>= λ q. programs_in (members_view rest) >>= λ ps. Ok (q ∷ ps))) at)
    ∙ e
  where
    later : (r : Result (List Program) DocError) → with_front (found ++ p ∷ []) r ≡ with_front found (r >>= λ ps. Ok (p ∷ ps))
    later (Err e) = refl
    later (Ok ps) = ap Ok (append_assoc found (p ∷ []) ps)
