-- Names in front of a slash, and what a rename makes of them.
use Rattle.std.proofs.Common.{◌≡◌, ℕ, ◌+◌, ◌-◌, ◌<◌, ◌≤◌, true, false, not, cond, ◌&&◌, ◌||◌, List, [], ◌∷◌, ◌++◌, length, take, drop, get_or, Some, None, Option, ◌⊎◌, inl, inr, sym, ap, ◌∙◌, refl, arith, append_assoc, append-nil, length-append, add-one, bytes_eq, nat_eq}
use Rattle.std.specs.Prelude.{find, is_none}
use Rattle.std.specs.List.{list_any, before_last, starts_with, suffix_len}
use Rattle.std.specs.Option.{option_or}
use Rattle.std.proofs.lemmas.Bool.{cases_Bool, and_parts, or_cases, and_from, or_left, or_right, both_ways}
use Rattle.std.proofs.lemmas.Bool.Decides.{Decides-eqb}
use Rattle.std.proofs.lemmas.Slice.Eq.{bytes_eq-Decides, starts_is}
use Rattle.std.proofs.lemmas.List.{drop_at, take_at, get_or_at, get_or-append_right}
use Rattle.std.proofs.lemmas.List.Folds.{list_any_at, find-append}
use Rattle.std.proofs.lemmas.List.Sums.{suffix_len_is}
use Rattle.zp_names.specs.Names.{is_slash, is_mark, is_head}
use Rattle.zp_names.specs.NameParts.{parent_of, is_below}
use Rattle.zp_names.specs.NameMoves.{is_at_or_below, moved}
use Rattle.zp_names.proofs.Marks.{is_head-front}

-- ---- names at or below another

-- a name is another with what follows it: nothing, or a slash and more
pub record Beyond (x y : List ℕ) : Type 0 where
  pub rest : List ℕ
  pub is : x ≡ y ++ rest
  pub start : (rest ≡ []) ⊎ ((more : List ℕ) × (rest ≡ 47 ∷ more))

-- a name below another is that one, a slash and more
pub below_cut : (x y : List ℕ) → is_below x y ≡ true → (more : List ℕ) × (x ≡ y ++ 47 ∷ more)
below_cut x y e =
    let both = and_parts (is_head x && is_head y) (starts_with nat_eq x (y ++ 47 ∷ [])) e in
    let cut = (starts_is Decides-eqb x (y ++ 47 ∷ []) (starts_with nat_eq x (y ++ 47 ∷ [])) refl).0 both.1 in
    let more = drop (length (y ++ 47 ∷ [])) x in
    (more, cut ∙ append_assoc y (47 ∷ []) more)

pub below_from : (x y more : List ℕ) → is_head x ≡ true → x ≡ y ++ 47 ∷ more → is_below x y ≡ true
below_from x y more head e =
    and_from (is_head x && is_head y) (starts_with nat_eq x (y ++ 47 ∷ [])) (and_from (is_head x) (is_head y) head (is_head-front y (47 ∷ more) (sym (ap is_head e) ∙ head)))
    ((starts_is Decides-eqb x (y ++ 47 ∷ []) (starts_with nat_eq x (y ++ 47 ∷ [])) refl).1 more (e ∙ sym (append_assoc y (47 ∷ []) more)))

pub beyond : (x y : List ℕ) → is_at_or_below x y ≡ true → Beyond x y
beyond x y e = elim (or_cases (bytes_eq x y) (is_below x y) e) [
  | inl same ↦ record { rest = []; is = (bytes_eq-Decides x y).0 same ∙ sym (append-nil y); start = inl refl }
  | inr below ↦ let cut = below_cut x y below in record { rest = 47 ∷ cut.0; is = cut.1; start = inr (cut.0, refl) }
]

pub is_beyond : (x y : List ℕ) → is_head x ≡ true → Beyond x y → is_at_or_below x y ≡ true
is_beyond x y head b = elim b.start [
  | inl none ↦ or_left (bytes_eq x y) (is_below x y) ((bytes_eq-Decides x y).1 (b.is ∙ ap (λ r. y ++ r) none ∙ append-nil y))
  | inr some ↦ or_right (bytes_eq x y) (is_below x y) (below_from x y some.0 head (b.is ∙ ap (λ r. y ++ r) some.1))
]

-- what is at or below a dataset is one
pub head_at_or_below : (x y : List ℕ) → is_head y ≡ true → is_at_or_below x y ≡ true → is_head x ≡ true
head_at_or_below x y head e = elim (or_cases (bytes_eq x y) (is_below x y) e) [
  | inl same ↦ ap is_head ((bytes_eq-Decides x y).0 same) ∙ head
  | inr below ↦ (and_parts (is_head x) (is_head y) (and_parts (is_head x && is_head y) (starts_with nat_eq x (y ++ 47 ∷ [])) below).0).0
]

-- what follows the old front follows the new one
pub moved_at : (old new name rest : List ℕ) → name ≡ old ++ rest → moved old new name ≡ new ++ rest
moved_at old new name rest e = ap (moved old new) e ∙ ap (λ r. new ++ r) (drop_at old rest (length old) refl)

-- ---- marks

head_option : (a b : Option ℕ) → is_none (option_or a b) ≡ true → is_none b ≡ true
head_option None b e = e
head_option (Some x) b e = cc

pub is_head-back : (xs ys : List ℕ) → is_head (xs ++ ys) ≡ true → is_head ys ≡ true
is_head-back xs ys e = head_option (find is_mark xs) (find is_mark ys) (sym (ap is_none (find-append is_mark xs ys)) ∙ e)

pub is_head-append : (xs ys : List ℕ) → is_head xs ≡ true → is_head ys ≡ true → is_head (xs ++ ys) ≡ true
is_head-append xs ys h k = ap is_none (find-append is_mark xs ys) ∙ go (find is_mark xs) h
  where
    go : (o : Option ℕ) → is_none o ≡ true → is_none (option_or o (find is_mark ys)) ≡ true
    go None e = k
    go (Some x) e = cc

-- ---- parents

-- the last slash of a text, if it has one
pub record Cut (t : List ℕ) : Type 0 where
  pub front : List ℕ
  pub last : List ℕ
  pub is : t ≡ front ++ 47 ∷ last
  pub plain : list_any is_slash last ≡ false

pub cut_last : (t : List ℕ) → (list_any is_slash t ≡ false) ⊎ Cut t
cut_last [] = inl refl
cut_last (b ∷ t) = elim (cut_last t) [
  | inl none ↦ elim (cases_Bool (is_slash b)) [
    | inl s ↦ inr (record { front = []; last = t; is = ap (λ x. x ∷ t) ((Decides-eqb b 47).0 s); plain = none })
    | inr n ↦ inl (ap (λ x. x || list_any is_slash t) n ∙ none)
  ]
  | inr c ↦ inr (record { front = b ∷ c.front; last = c.last; is = ap (λ x. b ∷ x) c.is; plain = c.plain })
]

-- what stands before the last slash is the parent
pub parent_is : (p last : List ℕ) → list_any is_slash last ≡ false → is_head (p ++ 47 ∷ last) ≡ true → parent_of (p ++ 47 ∷ last) ≡ Some p
parent_is p last plain head =
    let t = p ++ 47 ∷ last in
    let n = length p in
    let size : length t ≡ n + (length last + 1) = omega (arith, length-append p (47 ∷ last)) in
    let here : is_slash (get_or t n 0) ≡ true = ap is_slash (get_or_at p 47 last 0 n refl) in
    let some : list_any is_slash t ≡ true = list_any_at is_slash t n 0 (omega arith) here in
    let behind : suffix_len (λ b. not (is_slash b)) t ≡ length t - (n + 1) = suffix_len_is (λ b. not (is_slash b)) t (n + 1) 0 (omega arith) (plain_at t n size refl)
    (λ _. ap (λ k. not (is_slash (get_or t k 0))) (let one : n + 1 - 1 ≡ n = omega arith in one) ∙ ap not here) in
    let place : length t - suffix_len (λ b. not (is_slash b)) t - 1 ≡ n = omega (arith, behind) in
    ap (λ b. cond b (Some (before_last is_slash t)) None) (and_from (is_head t) (list_any is_slash t) head some) ∙ ap (λ k. Some (take k t)) place ∙ ap Some (take_at p (47 ∷ last) n refl)
  where
    plain_at : (t : List ℕ) (n : ℕ) → length t ≡ n + (length last + 1) → t ≡ p ++ 47 ∷ last → (k : ℕ) → n + 1 ≤ k → k < length t → not (is_slash (get_or t k 0)) ≡ true
    plain_at t n size e k le lt =
        let j = k - n - 1 in
        let next : k - n ≡ j + 1 = omega arith in
        let at : get_or t k 0 ≡ get_or last j 0 = ap (λ u. get_or u k 0) e ∙ get_or-append_right p (47 ∷ last) n k 0 size_of (omega arith) ∙ ap (λ i. get_or (47 ∷ last) i 0) next ∙ behind j in
        let none : is_slash (get_or last j 0) ≡ false = plain_there j (omega arith) in
        ap (λ b. not (is_slash b)) at ∙ ap not none
      where
        size_of : length p ≡ n
        size_of = let h : length t ≡ length (p ++ 47 ∷ last) = ap length e in omega (arith, length-append p (47 ∷ last))

        behind : (j : ℕ) → get_or (47 ∷ last) (j + 1) 0 ≡ get_or last j 0
        behind j = ap (λ i. get_or (47 ∷ last) i 0) (add-one j)

        plain_there : (j : ℕ) → j < length last → is_slash (get_or last j 0) ≡ false
        plain_there j lt = elim (cases_Bool (is_slash (get_or last j 0))) [
          | inl s ↦ absurd (both_ways _ plain (list_any_at is_slash last j 0 lt s))
          | inr n ↦ n
        ]

pub parent_cut : (t p : List ℕ) → parent_of t ≡ Some p → (last : List ℕ) × (t ≡ p ++ 47 ∷ last)
parent_cut t p e = elim (cases_Bool (is_head t && list_any is_slash t)) [
  | inl has ↦ elim (cut_last t) [
    | inl none ↦ absurd (both_ways _ none (and_parts (is_head t) (list_any is_slash t) has).1)
    | inr c ↦
        let head : is_head (c.front ++ 47 ∷ c.last) ≡ true = sym (ap is_head c.is) ∙ (and_parts (is_head t) (list_any is_slash t) has).0 in
        let same : Some c.front ≡ Some p = sym (parent_is c.front c.last c.plain head) ∙ sym (ap parent_of c.is) ∙ e in
        let front : c.front ≡ p = cc in
        (c.last, c.is ∙ ap (λ f. f ++ 47 ∷ c.last) front)
  ]
  | inr not_so ↦ let gone : None ≡ Some p = sym (ap (λ b. cond b (Some (before_last is_slash t)) None) not_so) ∙ e in cc
]

-- the parent of a name below another is that one, or below it too, and a rename moves it in the same way
pub record MovedParent (old new more : List ℕ) : Type 0 where
  pub rest : List ℕ
  pub start : (rest ≡ []) ⊎ ((further : List ℕ) × (rest ≡ 47 ∷ further))
  pub shorter : length rest ≤ length more
  pub before : is_head (old ++ 47 ∷ more) ≡ true → parent_of (old ++ 47 ∷ more) ≡ Some (old ++ rest)
  pub after : is_head (new ++ 47 ∷ more) ≡ true → parent_of (new ++ 47 ∷ more) ≡ Some (new ++ rest)

pub moved_parent : (old new more : List ℕ) → MovedParent old new more
moved_parent old new more = elim (cut_last more) [
  | inl plain ↦ record {
    rest = [];
    start = inl refl;
    shorter = omega arith;
    before = λ h. parent_is old more plain h ∙ ap Some (sym (append-nil old));
    after = λ h. parent_is new more plain h ∙ ap Some (sym (append-nil new));
  }
  | inr c ↦ record {
    rest = 47 ∷ c.front;
    start = inr (c.front, refl);
    shorter = shorter_front c;
    before = below old c;
    after = below new c;
  }
]
  where
    shorter_front : (c : Cut more) → length (47 ∷ c.front) ≤ length more
    shorter_front c = let size = ap length c.is in omega (arith, length-append c.front (47 ∷ c.last))

    below : (a : List ℕ) (c : Cut more) → is_head (a ++ 47 ∷ more) ≡ true → parent_of (a ++ 47 ∷ more) ≡ Some (a ++ 47 ∷ c.front)
    below a c h =
        let same : a ++ 47 ∷ more ≡ (a ++ 47 ∷ c.front) ++ 47 ∷ c.last = ap (λ m. a ++ 47 ∷ m) c.is ∙ sym (append_assoc a (47 ∷ c.front) (47 ∷ c.last)) in
        ap parent_of same ∙ parent_is (a ++ 47 ∷ c.front) c.last c.plain (sym (ap is_head same) ∙ h)
