-- The load results of the programs of a document.
use Rattle.std.proofs.Common.{◌≡◌, ℕ, List, [], ◌∷◌, ◌++◌, fold, Option, Some, None, false, refl, sym, ap, ◌∙◌}
use Rattle.std.proofs.lemmas.List.{map-append}
use Rattle.std.proofs.lemmas.List.Sums.{fold_push}
use Rattle.std.proofs.lemmas.List.Elements.{All-append, All-cons, All-nil}
use Rattle.serde_json.specs.Data.{Data, object, Members, no_members, put}
use Rattle.serde_json.specs.Written.{has_float, members_have_float}
use Rattle.lua_scope.specs.declared.load_error.LoadError.{LoadError}
use Rattle.zc_reply.proofs.NoFloat.{put_float}
use Rattle.zc_doc.specs.declared.program.Program.{Program}
use Rattle.zc_offline.specs.LoadResults.{IsLoadResult, LoadResult, IsRight, AreLoadResults, load_result_data, put_load_result, check_data}

inside : (a b : Members) → object a ≡ object b → a ≡ b
inside a b e = cc

-- one program more
pub one-found : (programs : List Program) (members : Members) (p : Program) (v : Option LoadError) → AreLoadResults programs (object members) → IsLoadResult p.text v →
    AreLoadResults (programs ++ p ∷ []) (object (put p.name (load_result_data v) members))
one-found programs members p v found right =
    let c : LoadResult = record { program = p; refusal = v } in
    record {
      results = found.results ++ c ∷ [];
      each = map-append (λ (x : LoadResult). x.program) found.results (c ∷ []) ∙ ap (λ (ps : List Program). ps ++ p ∷ []) found.each;
      right = All-append IsRight found.results (c ∷ []) found.right (All-cons IsRight c [] right (All-nil IsRight));
      is = ap (λ (ms : Members). object (put_load_result ms c)) (inside members (fold put_load_result no_members found.results) found.is)
          ∙ ap object (sym (fold_push put_load_result no_members found.results c));
    }

-- ---- it has no float

result-float : (v : Option LoadError) → has_float (load_result_data v) ≡ false
result-float None = refl
result-float (Some e) = refl

results-float : (members : Members) (rs : List LoadResult) → members_have_float members ≡ false → members_have_float (fold put_load_result members rs) ≡ false
results-float ms [] h = h
results-float ms (r ∷ rs) h = results-float (put_load_result ms r) rs (put_float r.program.name (load_result_data r.refusal) ms (result-float r.refusal) h)

pub check-float : (programs : List Program) (d : Data) (records : ℕ) → AreLoadResults programs d → has_float (check_data d records) ≡ false
check-float programs d records found = rw (ap has_float found.is ∙ results-float no_members found.results refl) refl
