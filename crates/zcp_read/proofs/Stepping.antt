-- A list one name after the other: what comes next is the first of what is left.
use Rattle.std.proofs.Common.{◌≡◌, ℕ, suc, ◌-◌, ◌<◌, List, [], ◌∷◌, ◌++◌, Bool, true, false, cond, ◌&&◌, ◌||◌, take, bytes_eq, None, inl, inr, refl, sym, ap, ◌∙◌, append-nil, append_assoc, arith}
use Rattle.std.specs.List.{list_any}
use Rattle.std.proofs.lemmas.Bool.{cases_Bool, or_parts, and_from}
use Rattle.std.proofs.lemmas.Slice.Eq.{bytes_eq-Decides}
use lib.Seq.{take-nil}
use Rattle.zp_tree.specs.ShortNames.{in_byte_order}
use Rattle.zp_tree.specs.NextByName.{is_above}
use Rattle.zp_tree.proofs.ByteOrder.{any-ordered, above-itself, above-beyond, not-beyond, AllAbove, Climbs, climbs-ordered}
use Rattle.zcp_read.specs.Lists.{above, names_listed, ComesNext, IsNextName}

-- where no name is above the text, none is left
none-above : (after : List ℕ) (names : List (List ℕ)) → list_any (λ n. is_above n after) names ≡ false → above after names ≡ []
none-above after [] h = refl
none-above after (x ∷ xs) h =
    let parts = or_parts (is_above x after) (list_any (λ n. is_above n after) xs) h in
    ap (λ b. cond b (x ∷ above after xs) (above after xs)) parts.0 ∙ none-above after xs parts.1

-- names of which each is above the text are all left
all-above : (x : List ℕ) (names : List (List ℕ)) → AllAbove x names → above x names ≡ names
all-above x [] h = refl
all-above x (y ∷ ys) h = ap (λ b. cond b (y ∷ above x ys) (above x ys)) h.0 ∙ ap (λ zs. y ∷ zs) (all-above x ys h.1)

all-further : (after x : List ℕ) (names : List (List ℕ)) → is_above x after ≡ true → AllAbove x names → above after names ≡ names
all-further after x [] e h = refl
all-further after x (y ∷ ys) e h = ap (λ b. cond b (y ∷ above after ys) (above after ys)) (above-beyond y x after h.0 e) ∙ ap (λ zs. y ∷ zs) (all-further after x ys e h.1)

-- one of the names is above what they all are above
member-above : (y x : List ℕ) (names : List (List ℕ)) → AllAbove y names → list_any (bytes_eq x) names ≡ true → is_above x y ≡ true
member-above y x [] h one = cc
member-above y x (z ∷ zs) h one = by (bytes_eq x z) refl one (member-above y x zs h.1)
  where
    by : (b : Bool) → bytes_eq x z ≡ b → (b || list_any (bytes_eq x) zs) ≡ true → (list_any (bytes_eq x) zs ≡ true → is_above x y ≡ true) → is_above x y ≡ true
    by true e g later = ap (λ n. is_above n y) ((bytes_eq-Decides x z).0 e) ∙ h.0
    by false e g later = later g

-- the first of the names, and what is known of the others
first-step : (after x y : List ℕ) (ys : List (List ℕ)) → AllAbove y ys → ComesNext (y ∷ ys) after x → (ComesNext ys after x → above after ys ≡ x ∷ above x ys) → above after (y ∷ ys) ≡ x ∷ above x (y ∷ ys)
first-step after x y ys c h rest = elim (cases_Bool (is_above y after)) [ inl over ↦ here over | inr under ↦ below under ]
  where
    parts : ((is_above y after && is_above x y) ≡ false) × (list_any (λ n. is_above n after && is_above x n) ys ≡ false)
    parts = or_parts (is_above y after && is_above x y) (list_any (λ n. is_above n after && is_above x n) ys) h.least

    later : list_any (bytes_eq x) ys ≡ true → above after ys ≡ x ∷ above x ys
    later one = rest (record { one = one; beyond = h.beyond; least = parts.1 })

    other : bytes_eq x y ≡ false → list_any (bytes_eq x) ys ≡ true
    other e = ap (λ b. b || list_any (bytes_eq x) ys) (sym e) ∙ h.one

    below : is_above y after ≡ false → above after (y ∷ ys) ≡ x ∷ above x (y ∷ ys)
    below under = elim (cases_Bool (bytes_eq x y)) [
      | inl same ↦ (let is : is_above x after ≡ false = ap (λ n. is_above n after) ((bytes_eq-Decides x y).0 same) ∙ under in let no : true ≡ false = sym h.beyond ∙ is in cc)
      | inr apart ↦ ap (λ b. cond b (y ∷ above after ys) (above after ys)) under ∙ later (other apart)
          ∙ sym (ap (λ b. x ∷ cond b (y ∷ above x ys) (above x ys)) (not-beyond y x after under h.beyond))
    ]

    here : is_above y after ≡ true → above after (y ∷ ys) ≡ x ∷ above x (y ∷ ys)
    here over = elim (cases_Bool (bytes_eq x y)) [
      | inl same ↦ (let is : x ≡ y = (bytes_eq-Decides x y).0 same in
          let itself : is_above y x ≡ false = ap (is_above y) is ∙ above-itself y in
          let left : above x ys ≡ ys = ap (λ n. above n ys) is ∙ all-above y ys c in
          ap (λ b. cond b (y ∷ above after ys) (above after ys)) over ∙ ap (λ zs. y ∷ zs) (all-further after y ys over c)
          ∙ ap (λ n. n ∷ ys) (sym is)
          ∙ sym (ap (λ b. x ∷ cond b (y ∷ above x ys) (above x ys)) itself ∙ ap (λ zs. x ∷ zs) left))
      | inr apart ↦ (let past : is_above x y ≡ true = member-above y x ys c (other apart) in
          let both : (is_above y after && is_above x y) ≡ true = and_from (is_above y after) (is_above x y) over past in
          let no : true ≡ false = sym both ∙ parts.0 in cc)
    ]

-- of names of which each is above those before it, those above the text are the one that comes next and those above that
one-step : (after x : List ℕ) (names : List (List ℕ)) → Climbs names → ComesNext names after x → above after names ≡ x ∷ above x names
one-step after x [] c h = let no : false ≡ true = h.one in cc
one-step after x (y ∷ ys) c h = first-step after x y ys c.0 h (one-step after x ys c.1)

-- what comes next among the names comes next among them in byte order
ordered-next : (names : List (List ℕ)) (after x : List ℕ) → ComesNext names after x → ComesNext (in_byte_order names) after x
ordered-next names after x h = record {
  one = any-ordered (bytes_eq x) names ∙ h.one;
  beyond = h.beyond;
  least = any-ordered (λ n. is_above n after && is_above x n) names ∙ h.least;
}

-- where none comes, the list has no more
pub listed-none : (names : List (List ℕ)) (after : List ℕ) (limit : ℕ) → IsNextName names after None → names_listed after limit names ≡ []
listed-none names after limit h = ap (take limit) (none-above after (in_byte_order names) (any-ordered (λ n. is_above n after) names ∙ h)) ∙ take-nil {A = List ℕ} limit

-- else the list goes on with the one that comes, and with what comes behind it
pub listed-more : (names : List (List ℕ)) (after x : List ℕ) (limit : ℕ) → 0 < limit → ComesNext names after x → names_listed after limit names ≡ x ∷ names_listed x (limit - 1) names
listed-more names after x limit some h =
    let is : suc (limit - 1) ≡ limit = omega arith in
    ap (λ n. names_listed after n names) (sym is) ∙ ap (take (suc (limit - 1))) (one-step after x (in_byte_order names) (climbs-ordered names) (ordered-next names after x h))

-- ---- what a loop has given

-- where none comes, the whole is given
pub all-given : (names given whole : List (List ℕ)) (after : List ℕ) (limit : ℕ) → (given ++ names_listed after limit names) ≡ whole → IsNextName names after None → given ≡ whole
all-given names given whole after limit so-far h = sym (append-nil given) ∙ ap (λ rest. given ++ rest) (sym (listed-none names after limit h)) ∙ so-far

-- where one comes, it is given, and the list goes on behind it
pub one-given : (names given more whole : List (List ℕ)) (after x : List ℕ) (limit : ℕ) → 0 < limit → (given ++ names_listed after limit names) ≡ whole → ComesNext names after x → more ≡ given ++ x ∷ [] → (more ++ names_listed x (limit - 1) names) ≡ whole
one-given names given more whole after x limit some so-far h e =
    ap (λ ns. ns ++ names_listed x (limit - 1) names) e
    ∙ append_assoc given (x ∷ []) (names_listed x (limit - 1) names)
    ∙ ap (λ rest. given ++ rest) (sym (listed-more names after x limit some h))
    ∙ so-far
