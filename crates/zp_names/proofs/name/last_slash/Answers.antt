use Rattle.std.proofs.Common.{◌≡◌, ◌-◌, ◌<◌, false, true, length, get_or, take, arith, ap, not}
use Rattle.std.specs.List.{suffix_len}
use Rattle.std.proofs.lemmas.Bool.{eq-eqb, not_from_false, not_from_true}
use Rattle.std.proofs.lemmas.List.Elements.{All-from_get_or}
use Rattle.std.proofs.lemmas.List.Folds.{list_any_none, list_any_at}
use Rattle.std.proofs.lemmas.List.Sums.{suffix_len_is}
use Rattle.zp_names.specs.Names.{is_slash}
use Rattle.zp_names.proofs.name.last_slash.Goals as goal

pub returns : goal.returns
returns c =
    let v = c.loop-at.invariant in
    let start : c.loop-at.at ≡ 0 = omega arith in
    list_any_none is_slash c.args.text.now (All-from_get_or (λ b. is_slash b ≡ false) c.args.text.now 0 (λ k lt. v.none_after k (omega arith) lt))

pub returns-then-text-at-eq47 : goal.returns-then-text-at-eq47
returns-then-text-at-eq47 c =
    let t = c.args.text.now in
    let v = c.loop-at.invariant in
    let at = c.loop-at.at - 1 in
    let here : is_slash (get_or t at 0) ≡ true = eq-eqb _ 47 c.if-text-at-eq47.true in
    let lt : at < length t = omega arith in
    let behind : suffix_len (λ b. not (is_slash b)) t ≡ length t - c.loop-at.at =
    suffix_len_is (λ b. not (is_slash b)) t c.loop-at.at 0 (omega arith) (λ k le below. not_from_false _ (v.none_after k le below)) (λ _. not_from_true _ here) in
    let place : at ≡ length t - suffix_len (λ b. not (is_slash b)) t - 1 = omega (arith, behind) in
    (lt, c.if-text-at-eq47.true, list_any_at is_slash t at 0 lt here, ap (λ n. take n t) place)
