-- How often a number stands in what a seat has seen.
use Rattle.std.proofs.Common.{◌≡◌, ◌≢◌, ℕ, suc, zero, ◌+◌, ◌-◌, ◌<◌, Result, Ok, Err, List, [], ◌∷◌, ◌++◌, length, reverse, refl, ap, sym, ◌∙◌, subst, arith, eqb, true, false, eq-eqb, ne_eqb}
use Rattle.std.specs.Prelude.{OnOk, OnErr}
use Rattle.std.proofs.lemmas.List.{reverse-append}
use mathlib.Core.Logic.{dite}
use native.Mathlib.Decide.{ℕ_discrete}
use Rattle.turn_lock.specs.Entries.{times, below, without_first, NoneByThese, GoesOnByOthers, GoesOnByOwn}
use Rattle.turn_lock_tests.specs.Numbers.{itself}

pub times_append : (k : ℕ) (xs ys : List ℕ) → times k (xs ++ ys) ≡ times k xs + times k ys
times_append k [] ys = omega arith
times_append k (x ∷ xs) ys = let i = times_append k xs ys in omega arith

-- a number that is held stands nowhere among the entries of others
none_held : (k : ℕ) (ns xs : List ℕ) → 0 < times k ns → NoneByThese itself ns xs → times k xs ≡ 0
none_held k ns [] held none = refl
none_held k ns (x ∷ xs) held none = dite (ℕ_discrete x k)
    (λ e. let z : times k ns ≡ 0 = subst (λ (n : ℕ). times n ns ≡ 0) e none.0 in absurd (omega arith))
    (λ ne. let other : eqb x k ≡ false = ne_eqb x k ne in let i = none_held k ns xs held none.1 in rw other (omega arith))

pub same_times : (k : ℕ) (ns seen list : List ℕ) → 0 < times k ns → GoesOnByOthers itself ns seen list → times k list ≡ times k seen
same_times k ns seen list held on = let a = ap (times k) on.1 in let b = times_append k on.0 seen in let c = none_held k ns on.0 held on.2 in omega arith

pub times_itself : (k : ℕ) (ns : List ℕ) → 0 < times k (k ∷ ns)
times_itself k ns = let yes : eqb k k ≡ true = eq-eqb k k refl in rw yes (omega arith)

pub times_one : (k : ℕ) (ns : List ℕ) → times k (k ∷ ns) ≡ times k ns + 1
times_one k ns = let yes : eqb k k ≡ true = eq-eqb k k refl in rw yes (omega arith)

-- a number added last is the newest
newest : (old new : List ℕ) (k : ℕ) → new ≡ old ++ k ∷ [] → reverse new ≡ k ∷ reverse old
newest old new k e = ap reverse e ∙ reverse-append old (k ∷ [])

pub adds : {A E : Type 0} (r : Result A E) (old new seen list ns : List ℕ) (k : ℕ) → OnOk r (new ≡ old ++ k ∷ []) → OnErr r (new ≡ old) → seen ≡ reverse old → list ≡ reverse new → ns ≡ k ∷ [] → GoesOnByOwn itself ns seen list
adds (Ok a) old new seen list ns k added same s l n = (k ∷ [], l ∙ (newest old new k added ∙ ap (λ (z : List ℕ). k ∷ z) (sym s)), (subst (λ (z : List ℕ). 0 < times k z) (sym n) (times_itself k []), tt))
adds (Err e) old new seen list ns k added same s l n = ([], l ∙ (ap reverse same ∙ sym s), tt)

pub adds_one : {A E : Type 0} (r : Result A E) (first old new seen list ns after : List ℕ) (k : ℕ) → OnOk r (new ≡ old ++ k ∷ []) → seen ≡ reverse old → list ≡ reverse new → ns ≡ k ∷ [] → GoesOnByOthers itself ns first seen → after ≡ list → OnOk r (times k after ≡ times k first + 1)
adds_one (Ok a) first old new seen list ns after k added s l n on is =
    let e : after ≡ k ∷ seen = is ∙ (l ∙ (newest old new k added ∙ ap (λ (z : List ℕ). k ∷ z) (sym s))) in
    let f = ap (times k) e in
    let g = times_one k seen in
    let h = same_times k ns first seen (subst (λ (z : List ℕ). 0 < times k z) (sym n) (times_itself k [])) on in
    omega arith
adds_one (Err e) first old new seen list ns after k added s l n on is = tt

length_below : (n : ℕ) → length (below n) ≡ n
length_below zero = refl
length_below (suc n) = let i = length_below n in omega arith

pub times_below : (k n : ℕ) → k < n → 0 < times k (below n)
times_below k zero less = absurd (omega arith)
times_below k (suc n) less = dite (ℕ_discrete n k)
    (λ e. let is : eqb n k ≡ true = eq-eqb n k e in rw is (omega arith))
    (λ ne. let other : eqb n k ≡ false = ne_eqb n k ne in let i = times_below k n (omega arith) in omega arith)

last_of : (t : ℕ) → 0 < t → t ≡ suc (t - 1)
last_of t some = omega arith

-- more than one thread has more than one number
pub more_numbers : (t : ℕ) (ns : List ℕ) → 0 < t → t ≢ 1 → ns ≡ below t → 1 < length ns
more_numbers t ns some many is = let l = ap length is in let b = length_below t in omega arith

without_head : (m : ℕ) (ns : List ℕ) → without_first m (m ∷ ns) ≡ ns
without_head m ns = let is : eqb m m ≡ true = eq-eqb m m refl in rw is refl

-- the numbers without the last
numbers_left : (t : ℕ) (ns left : List ℕ) → 0 < t → ns ≡ below t → left ≡ without_first (t - 1) ns → left ≡ below (t - 1)
numbers_left t ns left some is parted =
    let b : below t ≡ (t - 1) ∷ below (t - 1) = ap below (last_of t some) in
    parted ∙ (ap (λ (z : List ℕ). without_first (t - 1) z) (is ∙ b) ∙ without_head (t - 1) (below (t - 1)))

pub without_last : (t k : ℕ) (ns left : List ℕ) → 0 < t → ns ≡ below t → left ≡ without_first (t - 1) ns → times k left ≡ times k (below (t - 1))
without_last t k ns left some is parted = ap (times k) (numbers_left t ns left some is parted)

pub joined_numbers : (t k : ℕ) (ns left mine theirs joined : List ℕ) → 0 < t → ns ≡ below t → left ≡ without_first (t - 1) ns → ((k : ℕ) → times k mine ≡ times k left) → theirs ≡ (t - 1) ∷ [] → joined ≡ mine ++ theirs → times k joined ≡ times k ns
joined_numbers t k ns left mine theirs joined some is parted m o j =
    let a = ap (times k) j in
    let b = times_append k mine theirs in
    let d = ap (times k) o in
    let e = m k in
    let f = without_last t k ns left some is parted in
    let g : times k (below t) ≡ times k ((t - 1) ∷ below (t - 1)) = ap (λ (z : ℕ). times k (below z)) (last_of t some) in
    let h = ap (times k) is in
    omega arith

pub joined_seen : {A E : Type 0} (rest last : Result A E) (x : A) (t turns : ℕ) (seen left given mine theirs joined numbers others : List ℕ) → 0 < t → rest ≡ Ok x
    → OnOk rest ((k : ℕ) → k < t - 1 → times k mine ≡ times k left + turns) → OnOk last (times (t - 1) theirs ≡ times (t - 1) given + turns) → left ≡ seen → given ≡ seen
    → ((k : ℕ) → times k numbers ≡ times k (below (t - 1))) → others ≡ (t - 1) ∷ [] → GoesOnByOthers itself numbers mine joined → GoesOnByOthers itself others theirs joined → OnOk last ((k : ℕ) → k < t → times k joined ≡ times k seen + turns)
joined_seen rest (Err e) x t turns seen left given mine theirs joined numbers others some ok more one l g ns os on by = tt
joined_seen {A} {E} rest (Ok y) x t turns seen left given mine theirs joined numbers others some ok more one l g ns os on by = λ k less. dite (ℕ_discrete k (t - 1))
    (λ e.
    let h : times (t - 1) joined ≡ times (t - 1) theirs = same_times (t - 1) others theirs joined (subst (λ (z : List ℕ). 0 < times (t - 1) z) (sym os) (times_itself (t - 1) [])) by in
    let f = ap (times (t - 1)) g in
    let last_one : times (t - 1) joined ≡ times (t - 1) seen + turns = omega arith in
    subst (λ (z : ℕ). times z joined ≡ times z seen + turns) (sym e) last_one)
    (λ ne.
    let few : k < t - 1 = omega arith in
    let all : (k : ℕ) → k < t - 1 → times k mine ≡ times k left + turns = subst (λ (r : Result A E). OnOk r ((k : ℕ) → k < t - 1 → times k mine ≡ times k left + turns)) ok more in
    let b = times_below k (t - 1) few in
    let n = ns k in
    let h = same_times k numbers mine joined (omega arith) on in
    let a = all k few in
    let f = ap (times k) l in
    omega arith)

pub every_number : (t n : ℕ) (first numbers : List ℕ) → n ≡ t → first ≡ below t → ((k : ℕ) → times k numbers ≡ times k first) → (k : ℕ) → k < n → 0 < times k numbers
every_number t n first numbers same is joined k less = let a = joined k in let b = ap (times k) is in let d = times_below k t (omega arith) in omega arith

times_reverse : (k : ℕ) (xs : List ℕ) → times k (reverse xs) ≡ times k xs
times_reverse k [] = refl
times_reverse k (x ∷ xs) =
    let e : reverse (x ∷ xs) ≡ reverse xs ++ x ∷ [] = reverse-append (x ∷ []) xs in
    let a = ap (times k) e in
    let b = times_append k (reverse xs) (x ∷ []) in
    let i = times_reverse k xs in
    omega arith

-- what is left at the end
pub all_left : (t turns : ℕ) (first numbers none seen list items : List ℕ) → first ≡ below t → ((k : ℕ) → times k numbers ≡ times k first) → none ≡ [] → ((k : ℕ) → k < t → times k seen ≡ times k none + turns) → list ≡ reverse items → GoesOnByOthers itself numbers seen list → (k : ℕ) → k < t → times k items ≡ turns
all_left t turns first numbers none seen list items is joined empty added stands on k less =
    let held = every_number t t first numbers refl is joined k less in
    let a = same_times k numbers seen list held on in
    let b = added k less in
    let d = ap (times k) empty in
    let e = ap (times k) stands in
    let f = times_reverse k items in
    omega arith
