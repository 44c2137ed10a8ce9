-- What setting a property and taking a setting away do to a list of settings.
use Rattle.std.proofs.Common.{◌≡◌, ℕ, ◌+◌, ◌≤◌, List, [], ◌∷◌, ◌++◌, Bool, true, false, not, ◌||◌, cond, Option, Some, None, is_some, map, filter, refl, sym, ap, subst, ◌∙◌, bytes_eq, All, inl, inr, arith, append-nil}
use Rattle.std.specs.List.{IsDistinct, AllByRecursion, list_any}
use Rattle.std.specs.Option.{option_or}
use Rattle.std.specs.Str.{IsUtf8}
use Rattle.std.proofs.lemmas.Bool.{cases_Bool, cond_both}
use Rattle.std.proofs.lemmas.Cmp.{nat_list_eq_equiv}
use Rattle.std.proofs.lemmas.List.Elements.{All-head, All-tail, All-cons, All-nil, All-push, filter-append}
use Rattle.std.proofs.lemmas.List.Filters.{sum_by-filter_both}
use Rattle.std.proofs.lemmas.List.Folds.{find-append}
use Rattle.std.proofs.lemmas.List.Sums.{sum_by-cons, sum_by_push}
use Rattle.std.proofs.lemmas.Map.Keys.{IsDistinct-push, IsDistinct-head, IsDistinct-tail, IsDistinct-cons}
use Rattle.std.proofs.lemmas.Slice.Eq.{bytes_eq-Decides}
use Rattle.zp_props.specs.declared.setting.Setting.{Setting}
use Rattle.zp_props.specs.Settings.{AreSettings, IsValue, is_user_name, setting_named, has_setting, set_in_place, settings_with, settings_without, user_count}

-- two texts are compared alike in both orders
same-flip : (a b : List ℕ) → bytes_eq a b ≡ true → bytes_eq b a ≡ true
same-flip a b e = (bytes_eq-Decides b a).1 (sym ((bytes_eq-Decides a b).0 e))

other-flip : (a b : List ℕ) → bytes_eq a b ≡ false → bytes_eq b a ≡ false
other-flip a b e = elim (cases_Bool (bytes_eq b a)) [ inl h ↦ absurd (clash (bytes_eq a b) (same-flip b a h) e) | inr h ↦ h ]
  where
    clash : (c : Bool) → c ≡ true → c ≡ false → ⊥
    clash c t f = let no : true ≡ false = sym t ∙ f in cc

same-self : (a : List ℕ) → bytes_eq a a ≡ true
same-self a = (bytes_eq-Decides a a).1 refl

-- the name of a setting stays
in-place-name : (new old : Setting) → (set_in_place new old).name ≡ old.name
in-place-name new old = elim (cases_Bool (bytes_eq old.name new.name)) [
  | inl e ↦ ap (λ b. (cond b new old).name) e ∙ sym ((bytes_eq-Decides old.name new.name).0 e)
  | inr e ↦ ap (λ b. (cond b new old).name) e
]

in-place-names : (new : Setting) (xs : List Setting) → map (λ s. s.name) (map (set_in_place new) xs) ≡ map (λ s. s.name) xs
in-place-names new [] = refl
in-place-names new (x ∷ xs) = ap (λ n. n ∷ map (λ s. s.name) (map (set_in_place new) xs)) (in-place-name new x) ∙ ap (λ ns. x.name ∷ ns) (in-place-names new xs)

all-in-place : (P : Setting → Type 0) (new : Setting) (xs : List Setting) → P new → All P xs → All P (map (set_in_place new) xs)
all-in-place P new [] n a = All-nil P
all-in-place P new (x ∷ xs) n a = All-cons P (set_in_place new x) (map (set_in_place new) xs) (cond_both (bytes_eq x.name new.name) new x P (λ _. n) (λ _. All-head P x xs a)) (all-in-place P new xs n (All-tail P x xs a))

-- where no setting has the name, none changes
untouched : (new : Setting) (xs : List Setting) → has_setting new.name xs ≡ false → map (set_in_place new) xs ≡ xs
untouched new [] e = refl
untouched new (x ∷ xs) e = elim (cases_Bool (bytes_eq x.name new.name)) [
  | inl h ↦ (let no : true ≡ false = sym (ap (λ b. is_some (cond b (Some x) (setting_named new.name xs))) h) ∙ e in absurd (cc))
  | inr h ↦ (let rest : has_setting new.name xs ≡ false = sym (ap (λ b. is_some (cond b (Some x) (setting_named new.name xs))) h) ∙ e in
      ap (λ b. cond b new x ∷ map (set_in_place new) xs) h ∙ ap (λ ys. x ∷ ys) (untouched new xs rest))
]

absent-name : (n : List ℕ) (xs : List Setting) → has_setting n xs ≡ false → list_any (bytes_eq n) (map (λ (s : Setting). s.name) xs) ≡ false
absent-name n [] e = refl
absent-name n (x ∷ xs) e = elim (cases_Bool (bytes_eq x.name n)) [
  | inl h ↦ (let no : true ≡ false = sym (ap (λ b. is_some (cond b (Some x) (setting_named n xs))) h) ∙ e in absurd (cc))
  | inr h ↦ (let rest : has_setting n xs ≡ false = sym (ap (λ b. is_some (cond b (Some x) (setting_named n xs))) h) ∙ e in
      ap (λ b. b || list_any (bytes_eq n) (map (λ (s : Setting). s.name) xs)) (other-flip x.name n h) ∙ absent-name n xs rest)
]

map-push : {X Y : Type 0} (f : X → Y) (xs : List X) (x : X) → map f (xs ++ x ∷ []) ≡ map f xs ++ f x ∷ []
map-push f [] x = refl
map-push f (y ∷ ys) x = ap (λ zs. f y ∷ zs) (map-push f ys x)

-- the settings with a new one, by the two cases
with-cases : (P : List Setting → Type 0) (new : Setting) (xs : List Setting) → (has_setting new.name xs ≡ true → P (map (set_in_place new) xs)) → (has_setting new.name xs ≡ false → P (xs ++ new ∷ [])) → P (settings_with new xs)
with-cases P new xs there last = cond_both (has_setting new.name xs) (map (set_in_place new) xs) (map (set_in_place new) xs ++ new ∷ []) P there (λ e. subst (λ ys. P (ys ++ new ∷ [])) (sym (untouched new xs e)) (last e))

-- they are settings of one record again
pub with-good : (new : Setting) (xs : List Setting) → IsUtf8 new.name → IsValue new.value → AreSettings xs → AreSettings (settings_with new xs)
with-good new xs name value h = with-cases AreSettings new xs
    (λ e. record {
      distinct = subst (IsDistinct bytes_eq) (sym (in-place-names new xs)) h.distinct;
      names = all-in-place (λ (s : Setting). IsUtf8 s.name) new xs name h.names;
      values = all-in-place (λ (s : Setting). IsValue s.value) new xs value h.values;
    })
    (λ e. record {
      distinct = subst (IsDistinct bytes_eq) (sym (map-push (λ (s : Setting). s.name) xs new)) (IsDistinct-push nat_list_eq_equiv (map (λ (s : Setting). s.name) xs) new.name h.distinct (absent-name new.name xs e));
      names = All-push (λ (s : Setting). IsUtf8 s.name) xs new h.names name;
      values = All-push (λ (s : Setting). IsValue s.value) xs new h.values value;
    })

found-in-place : (new : Setting) (xs : List Setting) → has_setting new.name xs ≡ true → setting_named new.name (map (set_in_place new) xs) ≡ Some new
found-in-place new [] e = cc
found-in-place new (x ∷ xs) e = elim (cases_Bool (bytes_eq x.name new.name)) [
  | inl h ↦ ap (λ b. setting_named new.name (cond b new x ∷ map (set_in_place new) xs)) h ∙ ap (λ b. cond b (Some new) (setting_named new.name (map (set_in_place new) xs))) (same-self new.name)
  | inr h ↦ (let rest : has_setting new.name xs ≡ true = sym (ap (λ b. is_some (cond b (Some x) (setting_named new.name xs))) h) ∙ e in
      ap (λ b. setting_named new.name (cond b new x ∷ map (set_in_place new) xs)) h ∙ ap (λ b. cond b (Some x) (setting_named new.name (map (set_in_place new) xs))) h ∙ found-in-place new xs rest)
]

others-in-place : (new : Setting) (n : List ℕ) (xs : List Setting) → bytes_eq new.name n ≡ false → setting_named n (map (set_in_place new) xs) ≡ setting_named n xs
others-in-place new n [] other = refl
others-in-place new n (x ∷ xs) other = elim (cases_Bool (bytes_eq x.name new.name)) [
  | inl h ↦ (let is : x.name ≡ new.name = (bytes_eq-Decides x.name new.name).0 h in let miss : bytes_eq x.name n ≡ false = ap (λ m. bytes_eq m n) is ∙ other in
      ap (λ b. setting_named n (cond b new x ∷ map (set_in_place new) xs)) h ∙ ap (λ b. cond b (Some new) (setting_named n (map (set_in_place new) xs))) other ∙ others-in-place new n xs other ∙ sym (ap (λ b. cond b (Some x) (setting_named n xs)) miss))
  | inr h ↦ ap (λ b. setting_named n (cond b new x ∷ map (set_in_place new) xs)) h ∙ ap (λ o. cond (bytes_eq x.name n) (Some x) o) (others-in-place new n xs other)
]

missing : (n : List ℕ) (xs : List Setting) → has_setting n xs ≡ false → setting_named n xs ≡ None
missing n xs e = go (setting_named n xs) refl
  where
    go : (o : Option Setting) → setting_named n xs ≡ o → o ≡ None
    go None f = refl
    go (Some s) f = let no : true ≡ false = sym (ap is_some f) ∙ e in absurd (cc)

-- the new setting is the one of its name
pub with-this : (new : Setting) (xs : List Setting) → setting_named new.name (settings_with new xs) ≡ Some new
with-this new xs = with-cases (λ ys. setting_named new.name ys ≡ Some new) new xs
    (λ e. found-in-place new xs e)
    (λ e. find-append (λ s. bytes_eq s.name new.name) xs (new ∷ []) ∙ ap (λ o. option_or o (setting_named new.name (new ∷ []))) (missing new.name xs e) ∙ ap (λ b. cond b (Some new) None) (same-self new.name))

-- no other setting changes
pub with-others : (new : Setting) (n : List ℕ) (xs : List Setting) → bytes_eq new.name n ≡ false → setting_named n (settings_with new xs) ≡ setting_named n xs
with-others new n xs other = with-cases (λ ys. setting_named n ys ≡ setting_named n xs) new xs
    (λ e. others-in-place new n xs other)
    (λ e. find-append (λ s. bytes_eq s.name n) xs (new ∷ []) ∙ ap (λ b. option_or (setting_named n xs) (cond b (Some new) None)) other ∙ or-none (setting_named n xs))
  where
    or-none : (o : Option Setting) → option_or o None ≡ o
    or-none None = refl
    or-none (Some s) = refl

abbrev keep : List ℕ → Setting → Bool
keep n s = not (bytes_eq s.name n)

all-kept : (P : Setting → Type 0) (q : Setting → Bool) (xs : List Setting) → All P xs → All P (filter q xs)
all-kept P q [] a = All-nil P
all-kept P q (x ∷ xs) a = let rest = all-kept P q xs (All-tail P x xs a) in cond_both (q x) (x ∷ filter q xs) (filter q xs) (All P) (λ _. All-cons P x (filter q xs) (All-head P x xs a) rest) (λ _. rest)

apart-kept : (P : List ℕ → Type 0) (q : Setting → Bool) (xs : List Setting) → AllByRecursion P (map (λ (s : Setting). s.name) xs) → AllByRecursion P (map (λ (s : Setting). s.name) (filter q xs))
apart-kept P q [] a = tt
apart-kept P q (x ∷ xs) a = let rest = apart-kept P q xs a.1 in cond_both (q x) (x ∷ filter q xs) (filter q xs) (λ ys. AllByRecursion P (map (λ (s : Setting). s.name) ys)) (λ _. (a.0, rest)) (λ _. rest)

distinct-kept : (q : Setting → Bool) (xs : List Setting) → IsDistinct bytes_eq (map (λ (s : Setting). s.name) xs) → IsDistinct bytes_eq (map (λ (s : Setting). s.name) (filter q xs))
distinct-kept q [] d = d
distinct-kept q (x ∷ xs) d =
    let names = map (λ (s : Setting). s.name) xs in
    let rest = distinct-kept q xs (IsDistinct-tail bytes_eq x.name names d) in
    cond_both (q x) (x ∷ filter q xs) (filter q xs) (λ ys. IsDistinct bytes_eq (map (λ (s : Setting). s.name) ys))
    (λ _. IsDistinct-cons bytes_eq x.name (map (λ (s : Setting). s.name) (filter q xs)) (apart-kept (λ y. bytes_eq x.name y ≡ false) q xs (IsDistinct-head bytes_eq x.name names d)) rest)
    (λ _. rest)

-- what is left are settings of one record
pub without-good : (n : List ℕ) (xs : List Setting) → AreSettings xs → AreSettings (settings_without n xs)
without-good n xs h = record {
  distinct = distinct-kept (keep n) xs h.distinct;
  names = all-kept (λ (s : Setting). IsUtf8 s.name) (keep n) xs h.names;
  values = all-kept (λ (s : Setting). IsValue s.value) (keep n) xs h.values;
}

-- the setting is gone
pub without-this : (n : List ℕ) (xs : List Setting) → setting_named n (settings_without n xs) ≡ None
without-this n [] = refl
without-this n (x ∷ xs) = elim (cases_Bool (bytes_eq x.name n)) [
  | inl h ↦ ap (λ b. setting_named n (cond (not b) (x ∷ settings_without n xs) (settings_without n xs))) h ∙ without-this n xs
  | inr h ↦ ap (λ b. setting_named n (cond (not b) (x ∷ settings_without n xs) (settings_without n xs))) h ∙ ap (λ b. cond b (Some x) (setting_named n (settings_without n xs))) h ∙ without-this n xs
]

-- no other setting changes
pub without-others : (n m : List ℕ) (xs : List Setting) → bytes_eq n m ≡ false → setting_named m (settings_without n xs) ≡ setting_named m xs
without-others n m [] other = refl
without-others n m (x ∷ xs) other = elim (cases_Bool (bytes_eq x.name n)) [
  | inl h ↦ (let is : x.name ≡ n = (bytes_eq-Decides x.name n).0 h in let miss : bytes_eq x.name m ≡ false = ap (λ y. bytes_eq y m) is ∙ other in
      ap (λ b. setting_named m (cond (not b) (x ∷ settings_without n xs) (settings_without n xs))) h ∙ without-others n m xs other ∙ sym (ap (λ b. cond b (Some x) (setting_named m xs)) miss))
  | inr h ↦ ap (λ b. setting_named m (cond (not b) (x ∷ settings_without n xs) (settings_without n xs))) h ∙ ap (λ o. cond (bytes_eq x.name m) (Some x) o) (without-others n m xs other)
]

abbrev weight : Setting → ℕ
weight s = cond (is_user_name s.name) 1 0

-- taking a setting away adds none of a user property
pub without-count : (n : List ℕ) (xs : List Setting) → user_count (settings_without n xs) ≤ user_count xs
without-count n xs = let both = sum_by-filter_both (keep n) (λ s. not (keep n s)) (λ s. refl) weight xs in omega arith

count-in-place : (new : Setting) (xs : List Setting) → user_count (map (set_in_place new) xs) ≡ user_count xs
count-in-place new [] = refl
count-in-place new (x ∷ xs) = sum_by-cons weight (set_in_place new x) (map (set_in_place new) xs) ∙ ap (λ m. cond (is_user_name m) 1 0 + user_count (map (set_in_place new) xs)) (in-place-name new x) ∙ ap (λ k. weight x + k) (count-in-place new xs) ∙ sym (sum_by-cons weight x xs)

-- setting a property that is set counts no further one
pub with-count-known : (new : Setting) (xs : List Setting) → has_setting new.name xs ≡ true → user_count (settings_with new xs) ≡ user_count xs
with-count-known new xs e = ap (λ b. user_count (cond b (map (set_in_place new) xs) (map (set_in_place new) xs ++ new ∷ []))) e ∙ count-in-place new xs

-- setting a property counts at most one more, and only where it is a user property
pub with-count : (new : Setting) (xs : List Setting) → user_count (settings_with new xs) ≤ user_count xs + cond (is_user_name new.name) 1 0
with-count new xs = with-cases (λ ys. user_count ys ≤ user_count xs + weight new) new xs
    (λ e. let same = count-in-place new xs in omega arith)
    (λ e. let one = sum_by_push weight xs new in omega arith)

-- what was set is set
pub with-has : (new : Setting) (n : List ℕ) (xs : List Setting) → has_setting n xs ≡ true → has_setting n (settings_with new xs) ≡ true
with-has new n xs e = elim (cases_Bool (bytes_eq new.name n)) [
  | inl h ↦ ap (λ m. has_setting m (settings_with new xs)) (sym ((bytes_eq-Decides new.name n).0 h)) ∙ ap is_some (with-this new xs)
  | inr h ↦ ap is_some (with-others new n xs h) ∙ e
]

pub without-has : (n m : List ℕ) (xs : List Setting) → bytes_eq n m ≡ false → has_setting m xs ≡ true → has_setting m (settings_without n xs) ≡ true
without-has n m xs other e = ap is_some (without-others n m xs other) ∙ e

rest-in-place : (new : Setting) (xs : List Setting) → settings_without new.name (map (set_in_place new) xs) ≡ settings_without new.name xs
rest-in-place new [] = refl
rest-in-place new (x ∷ xs) = elim (cases_Bool (bytes_eq x.name new.name)) [
  | inl h ↦ ap (λ b. settings_without new.name (cond b new x ∷ map (set_in_place new) xs)) h ∙ ap (λ b. cond (not b) (new ∷ settings_without new.name (map (set_in_place new) xs)) (settings_without new.name (map (set_in_place new) xs))) (same-self new.name)
      ∙ rest-in-place new xs ∙ sym (ap (λ b. cond (not b) (x ∷ settings_without new.name xs) (settings_without new.name xs)) h)
  | inr h ↦ ap (λ b. settings_without new.name (cond b new x ∷ map (set_in_place new) xs)) h ∙ ap (λ ys. cond (not (bytes_eq x.name new.name)) (x ∷ ys) ys) (rest-in-place new xs)
]

-- the other settings are the same, in the same order
pub with-rest : (new : Setting) (xs : List Setting) → settings_without new.name (settings_with new xs) ≡ settings_without new.name xs
with-rest new xs = with-cases (λ ys. settings_without new.name ys ≡ settings_without new.name xs) new xs
    (λ e. rest-in-place new xs)
    (λ e. filter-append (keep new.name) xs (new ∷ []) ∙ ap (λ b. settings_without new.name xs ++ cond (not b) (new ∷ []) []) (same-self new.name) ∙ append-nil (settings_without new.name xs))

pub without-twice : (n : List ℕ) (xs : List Setting) → settings_without n (settings_without n xs) ≡ settings_without n xs
without-twice n [] = refl
without-twice n (x ∷ xs) = elim (cases_Bool (bytes_eq x.name n)) [
  | inl h ↦ ap (λ b. settings_without n (cond (not b) (x ∷ settings_without n xs) (settings_without n xs))) h ∙ without-twice n xs ∙ sym (ap (λ b. cond (not b) (x ∷ settings_without n xs) (settings_without n xs)) h)
  | inr h ↦ ap (λ b. settings_without n (cond (not b) (x ∷ settings_without n xs) (settings_without n xs))) h ∙ ap (λ b. cond (not b) (x ∷ settings_without n (settings_without n xs)) (settings_without n (settings_without n xs))) h ∙ ap (λ ys. x ∷ ys) (without-twice n xs) ∙ sym (ap (λ b. cond (not b) (x ∷ settings_without n xs) (settings_without n xs)) h)
]
