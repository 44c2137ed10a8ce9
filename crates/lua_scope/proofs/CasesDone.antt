-- The tasks of an If's cases, up to the end of the shorter list.
use Rattle.std.specs.Prelude.{◌≡◌, ℕ, zero, suc, ◌≤◌, min, List, [], ◌∷◌, ◌++◌, length, drop, refl}
use Rattle.std.proofs.Common.{ap, ◌∙◌, sym, arith, append-nil}
use Rattle.lua_scope.specs.declared.task.Task.{Task}
use Rattle.lua_scope.specs.Tasks.{case_tasks}

no_block : (ts : List ℕ) → case_tasks ts [] ≡ []
no_block [] = refl
no_block (t ∷ ts) = refl

no_case_left : (ts bs : List ℕ) (i : ℕ) → min (length ts) (length bs) ≤ i → case_tasks (drop i ts) (drop i bs) ≡ []
no_case_left [] bs zero h = refl
no_case_left [] bs (suc i) h = refl
no_case_left (t ∷ ts) [] zero h = refl
no_case_left (t ∷ ts) [] (suc i) h = no_block (drop i ts)
no_case_left (t ∷ ts) (b ∷ bs) zero h = absurd (omega arith)
no_case_left (t ∷ ts) (b ∷ bs) (suc i) h = no_case_left ts bs i (omega arith)

pub cases_done : (ts bs : List ℕ) (i : ℕ) (done whole : List Task) → min (length ts) (length bs) ≤ i → done ++ case_tasks (drop i ts) (drop i bs) ≡ whole → done ≡ whole
cases_done ts bs i done whole h e = sym (append-nil done) ∙ ap (λ x. done ++ x) (sym (no_case_left ts bs i h)) ∙ e
