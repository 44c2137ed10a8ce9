-- A change over the whole list of records.
use Rattle.std.proofs.Common.{◌≡◌, ℕ, zero, suc, ◌+◌, ◌<◌, ◌≤◌, List, [], ◌∷◌, ◌++◌, take, nat_eq, Bool, true, false, cond, Option, Some, None, IsSome, is_some, refl, sym, ap, subst, ◌∙◌, arith, add-one, inl, inr, option_and_then, option_map, unwrap_or, Result, Ok, Err, OnOk, OnErr, Bor, IfSome}
use Rattle.std.specs.Prelude.{slice_get}
use Rattle.std.specs.List.{filter_map, cons_option, AllByRecursion}
use Rattle.std.proofs.lemmas.Bool.{eq-eqb, cases_eq, ne_eqb}
use Rattle.std.proofs.lemmas.List.Elements.{filter_map-append}
use Rattle.zp_tree.specs.declared.item.Item.{Item}
use Rattle.zp_tree.specs.Tree.{Tree, at, id_of, put, Rises, changed}
use Rattle.zp_tree.proofs.Edits.{at-here}
use Rattle.zp_changes.specs.Replacements.{listed, put_all}

-- ---- record by record

take-more : (rs : List Item) (k : ℕ) → take (suc k) rs ≡ take k rs ++ listed (slice_get rs k)
take-more [] zero = refl
take-more [] (suc k) = refl
take-more (r ∷ rs) zero = refl
take-more (r ∷ rs) (suc k) = ap (λ xs. r ∷ xs) (take-more rs k)

one-listed : (f : Item → Option Item) (o : Option Item) → filter_map f (listed o) ≡ listed (option_and_then f o)
one-listed f None = refl
one-listed f (Some r) = elim (f r) as (λ o. cons_option o [] ≡ listed o) [ None ↦ refl | Some y ↦ refl ]

pub changed-up-to : (f : Item → Option Item) (rs : List Item) (k : ℕ) (old new : List Item) (o : Option Item) → o ≡ slice_get rs k → old ≡ filter_map f (take k rs) → new ≡ old ++ listed (option_and_then f o) → new ≡ filter_map f (take (k + 1) rs)
changed-up-to f rs k old new o there before after =
    after ∙ ap (λ xs. xs ++ listed (option_and_then f o)) before ∙ ap (λ (r : Option Item). filter_map f (take k rs) ++ listed (option_and_then f r)) there
    ∙ ap (λ xs. filter_map f (take k rs) ++ xs) (sym (one-listed f (slice_get rs k))) ∙ sym (filter_map-append f (take k rs) (listed (slice_get rs k)))
    ∙ ap (filter_map f) (sym (take-more rs k)) ∙ ap (λ n. filter_map f (take n rs)) (sym (add-one k))

-- what holds of each record holds of the one that is lent
pub lent-relied : (P : Item → Type 0) (rs : List Item) (k : ℕ) (o : Option (Bor Item)) → option_map (λ r. r.now) o ≡ slice_get rs k → ((place : ℕ) (r : Item) → slice_get rs place ≡ Some r → P r) → IfSome o (λ r. P r.now)
lent-relied P rs k None e f = tt
lent-relied P rs k (Some r) e f = f k r.now (sym e)

-- ---- put in one after another

some-put : (x : Item) (rs : List Item) (i : ℕ) → is_some (at (put x rs) i) ≡ is_some (at rs i)
some-put x [] i = refl
some-put x (r ∷ rs) i = elim (cases_eq (id_of r) (id_of x)) [
  | inl same ↦ ap (λ b. is_some (at (cond b (x ∷ rs) (r ∷ put x rs)) i)) (eq-eqb (id_of r) (id_of x) same) ∙ ap (λ k. is_some (cond (nat_eq k i) (Some x) (at rs i))) (sym same) ∙ either (nat_eq (id_of r) i) (at rs i)
  | inr other ↦ ap (λ b. is_some (at (cond b (x ∷ rs) (r ∷ put x rs)) i)) (ne_eqb (id_of r) (id_of x) other) ∙ rest (nat_eq (id_of r) i) (some-put x rs i)
]
  where
    either : (b : Bool) (o : Option Item) → is_some (cond b (Some x) o) ≡ is_some (cond b (Some r) o)
    either true o = refl
    either false o = refl

    rest : (b : Bool) → is_some (at (put x rs) i) ≡ is_some (at rs i) → is_some (cond b (Some r) (at (put x rs) i)) ≡ is_some (cond b (Some r) (at rs i))
    rest true e = refl
    rest false e = e

put_all-last : (xs : List Item) (x : Item) (rs : List Item) → put_all (xs ++ x ∷ []) rs ≡ put_all xs (put x rs)
put_all-last [] x rs = refl
put_all-last (y ∷ xs) x rs = ap (put y) (put_all-last xs x rs)

-- the changed ones leave an earlier record
put-past : (f : Item → Option Item) → ((r x : Item) → f r ≡ Some x → id_of x ≡ id_of r) → (low n : ℕ) (rs ys : List Item) (r : Item) → Rises low rs n → id_of r < low → put_all (filter_map f rs) (r ∷ ys) ≡ r ∷ put_all (filter_map f rs) ys
put-past f keeps low n [] ys r h lt = refl
put-past f keeps low n (x ∷ rs) ys r h lt = rest (f x) (put-past f keeps (id_of x + 1) n rs ys r h.1 (let first : low ≤ id_of x = h.0 in omega arith)) refl
  where
    rest : (o : Option Item) → put_all (filter_map f rs) (r ∷ ys) ≡ r ∷ put_all (filter_map f rs) ys → f x ≡ o → put_all (cons_option o (filter_map f rs)) (r ∷ ys) ≡ r ∷ put_all (cons_option o (filter_map f rs)) ys
    rest None e is = e
    rest (Some y) e is =
        let same : id_of y ≡ id_of x = keeps x y is in
        let first : low ≤ id_of x = h.0 in
        let apart : id_of r ≡ id_of y → ⊥ = λ s. omega arith in
        ap (put y) e ∙ ap (λ b. cond b (y ∷ put_all (filter_map f rs) ys) (r ∷ put y (put_all (filter_map f rs) ys))) (ne_eqb (id_of r) (id_of y) apart)

put-changed : (f : Item → Option Item) → ((r x : Item) → f r ≡ Some x → id_of x ≡ id_of r) → (low n : ℕ) (rs : List Item) → Rises low rs n → put_all (filter_map f rs) rs ≡ changed f rs
put-changed f keeps low n [] h = refl
put-changed f keeps low n (r ∷ rs) h = go (f r) refl
    (put-past f keeps (id_of r + 1) n rs rs r h.1 (omega arith) ∙ ap (λ ys. r ∷ ys) (put-changed f keeps (id_of r + 1) n rs h.1))
  where
    go : (o : Option Item) → f r ≡ o → put_all (filter_map f rs) (r ∷ rs) ≡ r ∷ changed f rs → put_all (cons_option o (filter_map f rs)) (r ∷ rs) ≡ unwrap_or o r ∷ changed f rs
    go None is e = e
    go (Some y) is e = ap (put y) e ∙ ap (λ b. cond b (y ∷ changed f rs) (r ∷ put y (changed f rs))) (eq-eqb (id_of r) (id_of y) (sym (keeps r y is)))

-- ---- the loop

-- each of the items stands at its id
abbrev AreThere : List Item → List Item → Type 0
AreThere rs xs = AllByRecursion (λ x. IsSome (at rs (id_of x))) xs

weaker : (P Q : Item → Type 0) → ((x : Item) → P x → Q x) → (xs : List Item) → AllByRecursion P xs → AllByRecursion Q xs
weaker P Q f [] h = tt
weaker P Q f (x ∷ xs) h = (f x h.0, weaker P Q f xs h.1)

there-changed : (f : Item → Option Item) → ((r x : Item) → f r ≡ Some x → id_of x ≡ id_of r) → (rs : List Item) → AreThere rs (filter_map f rs)
there-changed f keeps [] = tt
there-changed f keeps (r ∷ rs) = go (f r) refl (weaker _ _ (λ x h. later x (nat_eq (id_of r) (id_of x)) h) (filter_map f rs) (there-changed f keeps rs))
  where
    later : (x : Item) (b : Bool) → IsSome (at rs (id_of x)) → IsSome (cond b (Some r) (at rs (id_of x)))
    later x true h = refl
    later x false h = h

    go : (o : Option Item) → f r ≡ o → AreThere (r ∷ rs) (filter_map f rs) → AreThere (r ∷ rs) (cons_option o (filter_map f rs))
    go None is e = e
    go (Some y) is e = (ap is_some (at-here r rs (id_of y) (sym (keeps r y is))), e)

but-last : (P : Item → Type 0) (xs : List Item) (x : Item) → AllByRecursion P (xs ++ x ∷ []) → AllByRecursion P xs × P x
but-last P [] x h = (tt, h.0)
but-last P (y ∷ xs) x h = let rest = but-last P xs x h.1 in ((h.0, rest.0), rest.1)

-- what is left to put makes the changed list of the old tree
pub record Putting (f : Item → Option Item) (old now : Tree) (items : List Item) : Type 0 where
  ends : put_all items now.records ≡ changed f old.records
  next : now.next ≡ old.next
  there : AreThere now.records items

pub putting-starts : (f : Item → Option Item) → ((r x : Item) → f r ≡ Some x → id_of x ≡ id_of r) → (t : Tree) (items : List Item) → Rises 0 t.records t.next → items ≡ filter_map f t.records → Putting f t t items
putting-starts f keeps t items rises is = record {
  ends = ap (λ xs. put_all xs t.records) is ∙ put-changed f keeps 0 t.next t.records rises;
  next = refl;
  there = subst (AreThere t.records) (sym is) (there-changed f keeps t.records);
}

pub last-there : (f : Item → Option Item) (old now : Tree) (items left : List Item) (x : Item) → items ≡ left ++ x ∷ [] → Putting f old now items → IsSome (at now.records (id_of x))
last-there f old now items left x is p = (but-last (λ x. IsSome (at now.records (id_of x))) left x (subst (AreThere now.records) is p.there)).1

pub putting-goes : (f : Item → Option Item) (old now then_on : Tree) (items left : List Item) (x : Item) → items ≡ left ++ x ∷ [] → then_on ≡ record now { records = put x now.records } → Putting f old now items → Putting f old then_on left
putting-goes f old now then_on items left x is put-is p = subst (λ (t : Tree). Putting f old t left) (sym put-is) (record {
  ends = sym (put_all-last left x now.records) ∙ sym (ap (λ xs. put_all xs now.records) is) ∙ p.ends;
  next = p.next;
  there = weaker _ _ (λ y some. some-put x now.records (id_of y) ∙ some) left (but-last (λ x. IsSome (at now.records (id_of x))) left x (subst (AreThere now.records) is p.there)).0;
})

pub putting-ends : (f : Item → Option Item) (old now : Tree) → Putting f old now [] → now ≡ record old { records = changed f old.records }
putting-ends f old now p = λ i. record { records = p.ends i; next = p.next i }

-- what holds of the old tree and of the changed one holds of the one that a change leaves, with or without memory
pub either-way : {A E : Type 0} (P : Tree → Type 0) (r : Result A E) (old next now : Tree) → OnOk r (now ≡ next) → OnErr r (now ≡ old) → P next → P old → P now
either-way P (Ok a) old next now ok err p q = subst P (sym ok) p
either-way P (Err e) old next now ok err p q = subst P (sym err) q
