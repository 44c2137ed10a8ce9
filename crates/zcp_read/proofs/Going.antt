-- Going through names for the one that comes next.
use Rattle.std.proofs.Common.{◌≡◌, ℕ, zero, suc, ◌+◌, List, [], ◌∷◌, ◌++◌, Bool, true, false, cond, ◌&&◌, ◌||◌, take, map, fold, bytes_eq, Option, Some, None, inl, inr, refl, sym, ap, subst, ◌∙◌, append-nil, append_assoc, add-one}
use Rattle.std.specs.Prelude.{slice_get}
use Rattle.std.specs.List.{list_any, flat_map}
use Rattle.std.specs.Option.{option_map_or}
use Rattle.std.proofs.lemmas.Bool.{cases_Bool, and_left, and_parts, and_from, or_parts}
use Rattle.std.proofs.lemmas.List.Folds.{list_any-append}
use Rattle.std.proofs.lemmas.Slice.Eq.{bytes_eq-Decides}
use Rattle.zp_props.specs.declared.setting.Setting.{Setting}
use Rattle.zp_props.specs.Settings.{is_user_name}
use Rattle.zp_tree.specs.declared.item.Hold.{Hold}
use Rattle.zp_tree.specs.NextByName.{is_above}
use Rattle.zp_tree.proofs.ByteOrder.{above-itself, above-beyond}
use Rattle.zcp_read.specs.Lists.{user_names_in, lesser_name, better_name, better_setting, better_hold, ComesNext, IsNextName}

-- what fewer names pass
any-fewer : (p q : List ℕ → Bool) (names : List (List ℕ)) → ((n : List ℕ) → q n ≡ true → p n ≡ true) → list_any p names ≡ false → list_any q names ≡ false
any-fewer p q [] h e = refl
any-fewer p q (n ∷ ns) h e =
    let parts = or_parts (p n) (list_any p ns) e in
    ap (λ b. b || list_any q ns) (fails (q n) refl parts.0) ∙ any-fewer p q ns h parts.1
  where
    fails : (b : Bool) → q n ≡ b → p n ≡ false → q n ≡ false
    fails true f g = let yes : p n ≡ true = h n f in cc
    fails false f g = f

any-last : (p : List ℕ → Bool) (names : List (List ℕ)) (n : List ℕ) → list_any p (names ++ n ∷ []) ≡ (list_any p names || (p n || false))
any-last p names n = list_any-append p names (n ∷ [])

or-both : (a b : Bool) → a ≡ false → b ≡ false → (a || (b || false)) ≡ false
or-both true b e f = cc
or-both false true e f = cc
or-both false false e f = refl

or-first : (a b : Bool) → a ≡ true → (a || (b || false)) ≡ true
or-first true b e = refl
or-first false b e = cc

or-last : (a b : Bool) → b ≡ true → (a || (b || false)) ≡ true
or-last true b e = refl
or-last false true e = refl
or-last false false e = cc

-- a name more, which isn't above the text
passed-over : (names : List (List ℕ)) (after n : List ℕ) (o : Option (List ℕ)) → is_above n after ≡ false → IsNextName names after o → IsNextName (names ++ n ∷ []) after o
passed-over names after n None under h = any-last (λ m. is_above m after) names n ∙ or-both (list_any (λ m. is_above m after) names) (is_above n after) h under
passed-over names after n (Some x) under h = record {
  one = any-last (bytes_eq x) names n ∙ or-first (list_any (bytes_eq x) names) (bytes_eq x n) h.one;
  beyond = h.beyond;
  least = any-last (λ m. is_above m after && is_above x m) names n ∙ or-both (list_any (λ m. is_above m after && is_above x m) names) (is_above n after && is_above x n) h.least (and_left (is_above n after) (is_above x n) under);
}

-- a name more, which comes next now
comes-now : (names : List (List ℕ)) (after n : List ℕ) → is_above n after ≡ true → list_any (λ m. is_above m after && is_above n m) names ≡ false → ComesNext (names ++ n ∷ []) after n
comes-now names after n over none = record {
  one = any-last (bytes_eq n) names n ∙ or-last (list_any (bytes_eq n) names) (bytes_eq n n) ((bytes_eq-Decides n n).1 refl);
  beyond = over;
  least = any-last (λ m. is_above m after && is_above n m) names n ∙ or-both (list_any (λ m. is_above m after && is_above n m) names) (is_above n after && is_above n n) none (ap (λ b. b && is_above n n) over ∙ above-itself n);
}

lesser-next : (names : List (List ℕ)) (after n : List ℕ) (o : Option (List ℕ)) → is_above n after ≡ true → IsNextName names after o → IsNextName (names ++ n ∷ []) after (lesser_name n o)
lesser-next names after n None over h = comes-now names after n over (any-fewer (λ m. is_above m after) (λ m. is_above m after && is_above n m) names (λ m e. (and_parts (is_above m after) (is_above n m) e).0) h)
lesser-next names after n (Some x) over h = elim (cases_Bool (is_above x n)) [
  | inl before ↦ subst (IsNextName (names ++ n ∷ []) after) (sym (ap (λ b. cond b (Some n) (Some x)) before))
      (comes-now names after n over (any-fewer (λ m. is_above m after && is_above x m) (λ m. is_above m after && is_above n m) names
      (λ m e. let both = and_parts (is_above m after) (is_above n m) e in and_from (is_above m after) (is_above x m) both.0 (above-beyond x n m before both.1)) h.least))
  | inr behind ↦ subst (IsNextName (names ++ n ∷ []) after) (sym (ap (λ b. cond b (Some n) (Some x)) behind)) (let next : ComesNext (names ++ n ∷ []) after x = record {
    one = any-last (bytes_eq x) names n ∙ or-first (list_any (bytes_eq x) names) (bytes_eq x n) h.one;
    beyond = h.beyond;
    least = any-last (λ m. is_above m after && is_above x m) names n ∙ or-both (list_any (λ m. is_above m after && is_above x m) names) (is_above n after && is_above x n) h.least (ap (λ b. b && is_above x n) over ∙ behind);
  } in next)
]

-- a name more
better-next : (names : List (List ℕ)) (after n : List ℕ) (o : Option (List ℕ)) → IsNextName names after o → IsNextName (names ++ n ∷ []) after (better_name after o n)
better-next names after n o h = elim (cases_Bool (is_above n after)) [
  | inl over ↦ subst (IsNextName (names ++ n ∷ []) after) (sym (ap (λ b. cond b (lesser_name n o) o) over)) (lesser-next names after n o over h)
  | inr under ↦ subst (IsNextName (names ++ n ∷ []) after) (sym (ap (λ b. cond b (lesser_name n o) o) under)) (passed-over names after n o under h)
]

-- ---- settings

gone-settings : (names : List (List ℕ)) (after : List ℕ) (o : Option (List ℕ)) (settings : List Setting) → IsNextName names after o → IsNextName (names ++ user_names_in settings) after (fold (better_setting after) o settings)
gone-settings names after o [] h = subst (λ ns. IsNextName ns after o) (sym (append-nil names)) h
gone-settings names after o (s ∷ ss) h = by (is_user_name s.name) (λ ns p k. gone-settings ns after p ss k)
  where
    by : (b : Bool) → ((ns : List (List ℕ)) (p : Option (List ℕ)) → IsNextName ns after p → IsNextName (ns ++ user_names_in ss) after (fold (better_setting after) p ss)) → IsNextName (names ++ cond b (s.name ∷ user_names_in ss) (user_names_in ss)) after (fold (better_setting after) (cond b (better_name after o s.name) o) ss)
    by true more = subst (λ ns. IsNextName ns after (fold (better_setting after) (better_name after o s.name) ss)) (append_assoc names (s.name ∷ []) (user_names_in ss)) (more (names ++ s.name ∷ []) (better_name after o s.name) (better-next names after s.name o h))
    by false more = more names o h

pub next_setting : (settings : List Setting) (after : List ℕ) → IsNextName (user_names_in settings) after (fold (better_setting after) None settings)
next_setting settings after = gone-settings [] after None settings refl

-- ---- holds

gone-holds : (names : List (List ℕ)) (after : List ℕ) (o : Option (List ℕ)) (holds : List Hold) → IsNextName names after o → IsNextName (names ++ map (λ (h : Hold). h.tag) holds) after (fold (better_hold after) o holds)
gone-holds names after o [] h = subst (λ ns. IsNextName ns after o) (sym (append-nil names)) h
gone-holds names after o (x ∷ xs) h = subst (λ ns. IsNextName ns after (fold (better_hold after) (better_name after o x.tag) xs)) (append_assoc names (x.tag ∷ []) (map (λ (h : Hold). h.tag) xs)) (gone-holds (names ++ x.tag ∷ []) after (better_name after o x.tag) xs (better-next names after x.tag o h))

pub next_hold : (holds : List Hold) (after : List ℕ) → IsNextName (map (λ (h : Hold). h.tag) holds) after (fold (better_hold after) None holds)
next_hold holds after = gone-holds [] after None holds refl

-- ---- records by place

fold-both : {X Y : Type 0} (f : Y → X → Y) (a : Y) (xs ys : List X) → fold f a (xs ++ ys) ≡ fold f (fold f a xs) ys
fold-both f a [] ys = refl
fold-both f a (x ∷ xs) ys = fold-both f (f a x) xs ys

flat-place : {X Y : Type 0} (g : X → List Y) (xs : List X) (k : ℕ) → flat_map g (take (suc k) xs) ≡ flat_map g (take k xs) ++ option_map_or g (slice_get xs k) []
flat-place g [] zero = refl
flat-place g [] (suc k) = refl
flat-place g (x ∷ xs) zero = append-nil (g x)
flat-place g (x ∷ xs) (suc k) = ap (λ ys. g x ++ ys) (flat-place g xs k) ∙ sym (append_assoc (g x) (flat_map g (take k xs)) (option_map_or g (slice_get xs k) []))

-- a fold over what the records up to a place give, and over what the one there gives
pub fold-place : {X Y Z : Type 0} (f : Z → Y → Z) (a : Z) (g : X → List Y) (xs : List X) (k : ℕ) → fold f (fold f a (flat_map g (take k xs))) (option_map_or g (slice_get xs k) []) ≡ fold f a (flat_map g (take (k + 1) xs))
fold-place f a g xs k = sym (ap (λ n. fold f a (flat_map g (take n xs))) (add-one k) ∙ ap (fold f a) (flat-place g xs k) ∙ fold-both f a (flat_map g (take k xs)) (option_map_or g (slice_get xs k) []))

pub fold_apart : (f : Option (List ℕ) → Setting → Option (List ℕ)) (a : Option (List ℕ)) (xs ys : List Setting) → fold f a (xs ++ ys) ≡ fold f (fold f a xs) ys
fold_apart f a xs ys = fold-both f a xs ys
