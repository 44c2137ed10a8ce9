use Rattle.std.proofs.Common.{◌≡◌, ℕ, ◌+◌, ◌-◌, ◌≤◌, suc, List, length, Some, None, Option, ap, ◌∙◌, refl, arith, false, ◌||◌, get_or, nat_eq}
use Rattle.std.proofs.lemmas.Bool.{ne_eqb}
use Rattle.zp_names.specs.Names.{is_separator}
use Rattle.std.specs.Option.{option_or}
use Rattle.std.specs.List.{cons_option, filter_map, range_with_len}
use Rattle.std.specs.Prelude.{slice_get}
use Rattle.zp_names.specs.declared.bad_name.BadName.{BadName}
use Rattle.zp_names.specs.NameFaults.{first_fault, fault_at, starts_part}

-- the first of a list that may begin with one more
first_cons : (o : Option BadName) (xs : List BadName) → slice_get (cons_option o xs) 0 ≡ option_or o (slice_get xs 0)
first_cons None xs = refl
first_cons (Some x) xs = refl

-- the first fault from a place on is the one there, or the first behind it
pub first_fault_step : (t : List ℕ) (i : ℕ) → i ≤ length t → first_fault t i (length t + 1 - i) ≡ option_or (fault_at t i) (first_fault t (i + 1) (length t + 1 - (i + 1)))
first_fault_step t i le =
    let one : length t + 1 - i ≡ suc (length t + 1 - (i + 1)) = omega arith in
    ap (first_fault t i) one ∙ first_cons (fault_at t i) (filter_map (fault_at t) (range_with_len (i + 1) (length t + 1 - (i + 1))))

-- behind a place starts what the byte there makes start
pub starts_part_more : (t : List ℕ) (i : ℕ) → starts_part t (i + 1) ≡ is_separator (get_or t i 0)
starts_part_more t i =
    let zero : nat_eq (i + 1) 0 ≡ false = ne_eqb (i + 1) 0 (λ e. omega arith) in
    let back : i + 1 - 1 ≡ i = omega arith in
    ap (λ a. a || is_separator (get_or t (i + 1 - 1) 0)) zero ∙ ap (λ k. is_separator (get_or t k 0)) back
