-- A check that passes: no row held.
use Rattle.std.proofs.Common.{◌≡◌, List, [], ◌∷◌, Bool, true, false, not, cond, nat_lt, refl, sym, ap, ◌∙◌, inl, inr}
use Rattle.std.specs.List.{list_all}
use Rattle.std.proofs.lemmas.Bool.{cases_Bool, and_parts}
use Rattle.zp_names.specs.declared.verdict.Verdict.{Verdict}
use Rattle.zp_tree.specs.Rows.{passed, first_row}

-- no row holds
abbrev pub Clear : List (Bool × Verdict) → Type 0
Clear [] = Unit {0}
Clear (r ∷ rs) = (r.0 ≡ false) × Clear rs

-- each row refuses
abbrev pub refusing : List (Bool × Verdict) → Bool
refusing rows = list_all (λ r. nat_lt 0 r.1.errno) rows

-- where a check passes, no row held
pub clear : (rows : List (Bool × Verdict)) → refusing rows ≡ true → first_row rows ≡ passed → Clear rows
clear [] t e = tt
clear (r ∷ rs) t e = elim (cases_Bool r.0) [
  | inl holds ↦ let is : r.1 ≡ passed = sym (ap (λ b. cond b r.1 (first_row rs)) holds) ∙ e in
      let zero : nat_lt 0 r.1.errno ≡ false = ap (λ (v : Verdict). nat_lt 0 v.errno) is in
      let some : nat_lt 0 r.1.errno ≡ true = (and_parts (nat_lt 0 r.1.errno) (refusing rs) t).0 in cc
  | inr fails ↦ (fails, clear rs (and_parts (nat_lt 0 r.1.errno) (refusing rs) t).1 (sym (ap (λ b. cond b r.1 (first_row rs)) fails) ∙ e))
]

pub not-false : (b : Bool) → not b ≡ false → b ≡ true
not-false true h = refl
not-false false h = cc
