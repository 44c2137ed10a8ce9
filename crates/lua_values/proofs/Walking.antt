-- Places of a walk, and what is skipped.
use Rattle.std.proofs.Common.{◌≡◌, ℕ, zero, suc, ◌+◌, ◌-◌, ◌<◌, ◌≤◌, ◌≢◌, ◌==◌, Bool, true, false, not, refl, ap, sym, ◌∙◌, Option, Some, None, List, [], ◌∷◌, length, drop, cond, if◌then◌else◌, arith, true≢false, slice_get, nat_lt, inl, inr, option_map}
use Rattle.std.proofs.lemmas.Bool.Decides.{eqb_tells, Decides-ltb}
use Rattle.std.specs.Bool.{one_answer}
use Rattle.std.proofs.lemmas.List.{length-map}
use Rattle.std.proofs.lemmas.List.Sums.{take_while-cons}
use Rattle.std.specs.List.{position_or_len, position, take_while}
use Rattle.std.specs.Map.{keys_of}
use Rattle.lua_meaning.specs.declared.value.Value.{Value}
use Rattle.lua_meaning.specs.declared.value.Value.TheVariants as value
use Rattle.lua_meaning.specs.contracts.value.ValuePartialEq.TheImpl.{eq-value}
use Rattle.lua_meaning.specs.Values.{is_nil}
use Rattle.lua_meaning.specs.Tables.{Pairs, behind_key, pairs_behind, skipped}
use Rattle.zc_budget.specs.Used.{Used, is_spent, ticked}
use Rattle.lua_values.specs.Walks.{is_gap_at, ticked_by, spent, WalksTo}
use Rattle.lua_values.proofs.Same.{eq_is_same}

skipped_cons : (p : Value × Value) (ps : Pairs) → skipped (p ∷ ps) ≡ cond (is_nil p.1) (suc (skipped ps)) 0
skipped_cons p ps = ap length (take_while-cons (λ (q : Value × Value). is_nil q.1) p ps) ∙ by (is_nil p.1) (take_while (λ (q : Value × Value). is_nil q.1) ps)
  where
    by : (b : Bool) (qs : Pairs) → length (cond b (p ∷ qs) []) ≡ cond b (suc (length qs)) 0
    by true qs = refl
    by false qs = refl

-- a place that is skipped
pub gap_skipped : (ps : Pairs) (place : ℕ) → is_gap_at (slice_get ps place) ≡ true → skipped (drop place ps) ≡ skipped (drop (suc place) ps) + 1
gap_skipped [] place e = absurd (true≢false (sym e))
gap_skipped (p ∷ ps) zero e = skipped_cons p ps ∙ ap (λ b. cond b (suc (skipped ps)) 0) e ∙ omega arith
gap_skipped (p ∷ ps) (suc place) e = gap_skipped ps place e

-- the place that a walk comes to
pub none_skipped : (ps : Pairs) (place : ℕ) → is_gap_at (slice_get ps place) ≡ false → skipped (drop place ps) ≡ 0
none_skipped [] zero e = refl
none_skipped [] (suc place) e = refl
none_skipped (p ∷ ps) zero e = skipped_cons p ps ∙ ap (λ b. cond b (suc (skipped ps)) 0) e
none_skipped (p ∷ ps) (suc place) e = none_skipped ps place e

pub get_dropped : {X : Type 0} (xs : List X) (i j : ℕ) → slice_get (drop i xs) j ≡ slice_get xs (i + j)
get_dropped xs zero j = let e : j ≡ 0 + j = omega arith in ap (slice_get xs) e
get_dropped [] (suc i) j = refl
get_dropped (x ∷ xs) (suc i) j = let e : suc (i + j) ≡ suc i + j = omega arith in get_dropped xs i j ∙ ap (slice_get (x ∷ xs)) e

lt_suc : (a b : ℕ) → nat_lt a b ≡ nat_lt (suc a) (suc b)
lt_suc a b =
    let d = Decides-ltb (suc a) (suc b) in
    one_answer (nat_lt a b) (nat_lt (suc a) (suc b)) (Decides-ltb a b) ((λ e. let l = d.0 e in omega (arith, l)), λ l. d.1 (omega (arith, l)))

-- the pairs behind a key, by its place
pub behind_at : (ps : Pairs) (k : Value) → behind_key ps k ≡ cond (nat_lt (position_or_len (eq-value.it k) (keys_of ps)) (length ps)) (Some (drop (position_or_len (eq-value.it k) (keys_of ps) + 1) ps)) None
behind_at [] k = refl
behind_at (p ∷ ps) k = ap (λ b. if b then Some ps else behind_key ps k) (sym (eq_is_same k p.0)) ∙ by (position_or_len (eq-value.it k) (keys_of ps)) (behind_at ps k) (eq-value.it k p.0)
  where
    by : (n : ℕ) → behind_key ps k ≡ cond (nat_lt n (length ps)) (Some (drop (n + 1) ps)) None → (b : Bool) →
        (if b then Some ps else behind_key ps k) ≡ cond (nat_lt (cond (not b) (1 + n) 0) (length (p ∷ ps))) (Some (drop (cond (not b) (1 + n) 0 + 1) (p ∷ ps))) None
    by n e true = ap (λ b. cond b (Some ps) None) (sym ((Decides-ltb 0 (suc (length ps))).1 (omega arith)))
    by n e false =
        let f : suc n ≡ 1 + n = omega arith in
        let g : 1 + n + 1 ≡ suc (n + 1) = omega arith in
        e ∙ ap (λ b. cond b (Some (drop (n + 1) ps)) None) (lt_suc n (length ps)) ∙ ap (λ j. cond (nat_lt j (suc (length ps))) (Some (drop (n + 1) ps)) None) f ∙ ap (λ j. cond (nat_lt (1 + n) (suc (length ps))) (Some (drop j (p ∷ ps))) None) (sym g)

-- the same, by what `position` gives
behind_by : (ps : Pairs) (n : ℕ) (b : Bool) (r : Option ℕ) → cond b (Some n) None ≡ r → cond b (Some (drop (n + 1) ps)) None ≡ option_map (λ i. drop (i + 1) ps) r
behind_by ps n true r e = ap (option_map (λ i. drop (i + 1) ps)) e
behind_by ps n false r e = ap (option_map (λ i. drop (i + 1) ps)) e

behind_position : (ps : Pairs) (k : Value) (r : Option ℕ) → position (eq-value.it k) (keys_of ps) ≡ r → behind_key ps k ≡ option_map (λ i. drop (i + 1) ps) r
behind_position ps k r e =
    let n = position_or_len (eq-value.it k) (keys_of ps) in
    behind_at ps k ∙ ap (λ l. cond (nat_lt n l) (Some (drop (n + 1) ps)) None) (sym (length-map ps (λ (p : Value × Value). p.0))) ∙ behind_by ps n (nat_lt n (length (keys_of ps))) r e

pub behind_absent : (ps : Pairs) (k : Value) → position (eq-value.it k) (keys_of ps) ≡ None → behind_key ps k ≡ None
behind_absent ps k e = behind_position ps k None e

pub behind_present : (ps : Pairs) (k : Value) (i : ℕ) → position (eq-value.it k) (keys_of ps) ≡ Some i → behind_key ps k ≡ Some (drop (i + 1) ps)
behind_present ps k i e = behind_position ps k (Some i) e

pub behind_key_of : (ps : Pairs) (k : Value) → is_nil k ≡ false → pairs_behind ps k ≡ behind_key ps k
behind_key_of ps value.Nil e = absurd (true≢false e)
behind_key_of ps k e = refl

pub behind_nil : (ps : Pairs) (k : Value) → is_nil k ≡ true → pairs_behind ps k ≡ Some ps
behind_nil ps value.Nil e = refl
behind_nil ps k e = absurd (true≢false (sym e))

eqb_true : (a b : ℕ) → a == b ≡ true → a ≡ b
eqb_true a b e = elim (eqb_tells a b) [ inl t ↦ t.1 | inr t ↦ absurd (true≢false (sym e ∙ t.0)) ]

eqb_false : (a b : ℕ) → a == b ≡ false → a ≢ b
eqb_false a b e = elim (eqb_tells a b) [ inl t ↦ absurd (true≢false (sym t.0 ∙ e)) | inr t ↦ t.1 ]

-- the places from `from` on were skipped, each for an instruction
pub record Skips (ps : Pairs) (from place : ℕ) (before now : Used) : Type 0 where
  pub within : place ≤ length ps
  pub behind : from ≤ place
  pub skips : skipped (drop from ps) ≡ (place - from) + skipped (drop place ps)
  pub enough : before.instructions + (place - from) ≤ before.most_instructions
  pub used : now ≡ ticked_by (place - from) before

module _ (ps : Pairs) (from place : ℕ) (before now : Used) (so : Skips ps from place before now) where
  count : is_gap_at (slice_get ps place) ≡ false → skipped (drop from ps) ≡ place - from
  count full = so.skips ∙ ap (λ n. (place - from) + n) (none_skipped ps place full) ∙ omega arith

  pub place_found : is_gap_at (slice_get ps place) ≡ false → place ≡ from + skipped (drop from ps)
  place_found full = omega (arith, count full, so.behind)

  pub enough_found : is_gap_at (slice_get ps place) ≡ false → before.instructions + skipped (drop from ps) ≤ before.most_instructions
  enough_found full = omega (arith, count full, so.enough)

  pub used_found : is_gap_at (slice_get ps place) ≡ false → now ≡ ticked_by (skipped (drop from ps)) before
  used_found full = so.used ∙ ap (λ n. ticked_by n before) (sym (count full))

  instructions : now.instructions ≡ before.instructions + (place - from)
  instructions = ap (λ u. u.instructions) so.used

  most : now.most_instructions ≡ before.most_instructions
  most = ap (λ u. u.most_instructions) so.used

  pub stops_short : is_gap_at (slice_get ps place) ≡ true → is_spent now ≡ true → before.most_instructions < before.instructions + skipped (drop from ps)
  stops_short gap e = omega (arith, so.skips, gap_skipped ps place gap, instructions, most, eqb_true now.instructions now.most_instructions e)

  pub stops_spent : is_spent now ≡ true → now ≡ spent before
  stops_spent e =
      let all : before.instructions + (place - from) ≡ before.most_instructions = omega (arith, instructions, most, eqb_true now.instructions now.most_instructions e) in
      so.used ∙ ap (λ n. record before { instructions = n }) all

  pub skips_more : place < length ps → is_gap_at (slice_get ps place) ≡ true → is_spent now ≡ false → Skips ps from (place + 1) before (ticked now)
  skips_more more gap e = record {
    within = omega (arith, more);
    behind = omega (arith, so.behind);
    skips = next;
    enough = omega (arith, so.enough, so.behind, instructions, most, eqb_false now.instructions now.most_instructions e);
    used = ap ticked so.used ∙ ap (λ n. record before { instructions = n }) sum;
  }
    where
      sum : before.instructions + (place - from) + 1 ≡ before.instructions + (place + 1 - from)
      sum = omega (arith, so.behind)

      next : skipped (drop from ps) ≡ (place + 1 - from) + skipped (drop (place + 1) ps)
      next =
          let e : suc place ≡ place + 1 = omega arith in
          let g = gap_skipped ps place gap ∙ ap (λ n. skipped (drop n ps) + 1) e in
          omega (arith, so.skips, g, so.behind)

pub walks_to : (ps : Pairs) (k : Value) (before after : Used) (from place : ℕ) (found : Option (Value × Value)) → pairs_behind ps k ≡ Some (drop from ps) → place ≡ from + skipped (drop from ps) →
    before.instructions + skipped (drop from ps) ≤ before.most_instructions → after ≡ ticked_by (skipped (drop from ps)) before → found ≡ slice_get ps place → WalksTo ps k before found after
walks_to ps k before after from place found behind at enough used copied = record {
  rest = drop from ps;
  behind = behind;
  pair = copied ∙ ap (slice_get ps) at ∙ sym (get_dropped ps from (skipped (drop from ps)));
  enough = enough;
  used = used;
}
