use Rattle.std.proofs.Common.{◌≡◌, ℕ, ◌+◌, ◌-◌, ◌<◌, Bool, ◌||◌, List, length, get_or, Some, None, Option, sym, ap, ◌∙◌, arith}
use Rattle.std.specs.Option.{option_or}
use Rattle.std.specs.Prelude.{slice_get}
use Rattle.std.proofs.lemmas.List.Folds.{list_any_more}
use Rattle.std.proofs.lemmas.Option.{slice_get-get_or}
use Rattle.zp_names.specs.Names.{is_mark}
use Rattle.zp_names.specs.NameFaults.{first_fault, fault_at, fault_of, is_marked, starts_part}
use Rattle.zp_names.proofs.FirstFaults.{first_fault_step, starts_part_more}
use Rattle.zp_names.proofs.scan.first_fault.Goals as goal

-- what the helper was asked is what stands at this place
asked : (t : List ℕ) (i : ℕ) (o : Option ℕ) (m s : Bool) → o ≡ slice_get t i → m ≡ is_marked t i → s ≡ starts_part t i → fault_of i o m s ≡ fault_at t i
asked t i o m s eo em es = ap (λ b. fault_of i o b s) em ∙ ap (λ b. fault_of i o (is_marked t i) b) es ∙ ap (λ x. fault_of i x (is_marked t i) (starts_part t i)) eo

pub returns-in-Some : goal.returns-in-Some
returns-in-Some c =
    let t = c.args.text.now in let i = c.loop-at.at in let v = c.loop-at.invariant in
    let lt : i < length t = c.loop-at-test.true in
    let is : Some c.in-Some.fault ≡ fault_at t i = c.in-Some.ensures ∙ asked t i _ c.loop-at.marked c.loop-at.starts (sym (slice_get-get_or t i 0 lt)) v.marked v.starts in
    ap (λ o. option_or o (first_fault t (i + 1) (length t + 1 - (i + 1)))) is ∙ sym (first_fault_step t i (omega arith)) ∙ v.rest

pub loop-at-preserved : goal.loop-at-preserved
loop-at-preserved c =
    let t = c.args.text.now in let i = c.loop-at.at in let v = c.loop-at.invariant in
    let lt : i < length t = c.loop-at-test.true in
    let none : None ≡ fault_at t i = c.in_default.ensures ∙ asked t i _ c.loop-at.marked c.loop-at.starts (sym (slice_get-get_or t i 0 lt)) v.marked v.starts in
    record {
      rest = ap (λ o. option_or o (first_fault t (i + 1) (length t + 1 - (i + 1)))) none ∙ sym (first_fault_step t i (omega arith)) ∙ v.rest;
      marked = ap (λ b. c.loop-at.marked || b) c.is_mark-marked.ensures ∙ ap (λ b. b || is_mark (get_or t i 0)) v.marked ∙ sym (list_any_more is_mark t i 0 lt);
      starts = c.is_separator-starts.ensures ∙ sym (starts_part_more t i);
    }
