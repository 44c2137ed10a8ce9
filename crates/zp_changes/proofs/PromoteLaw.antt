-- Promoting a clone keeps a tree well formed.
use Rattle.std.proofs.Common.{◌≡◌, ℕ, List, [], ◌∷◌, length, nat_lt, Bool, true, false, ◌&&◌, ◌||◌, cond, bytes_eq, sum_by, Option, Some, None, is_some, Less, Equal, Greater, nat_cmp, refl, sym, ap, subst, ◌∙◌, arith, inl, inr, option_map, option_and_then}
use Rattle.std.specs.Option.{option_map_or}
use Rattle.std.specs.List.{filter_map, cons_option, list_any}
use Rattle.std.specs.Ordering.{match_ordering}
use Rattle.std.specs.Cmp.Lexicographic.{slice_cmp}
use Rattle.std.specs.BTreeSet.{insert_key}
use Rattle.std.proofs.lemmas.Bool.{cases_eq, eq-eqb, ne_eqb}
use Rattle.std.proofs.lemmas.Slice.Eq.{bytes_eq-Decides}
use Rattle.zp_tree.specs.declared.item.Item.{Item}
use Rattle.zp_tree.specs.declared.item.Item.TheVariants as item
use Rattle.zp_tree.specs.declared.item.Head.{Head}
use Rattle.zp_tree.specs.declared.item.Snapshot.{Snapshot}
use Rattle.zp_tree.specs.declared.promotion.Promotion.{Promotion}
use Rattle.zp_tree.specs.Tree.{Tree, at, id_of, head_named, head_at, snapshot_at, changed}
use Rattle.zp_tree.specs.WellFormed.{head_in, snapshot_in, user_settings, IsWellFormed}
use Rattle.zp_tree.specs.Rows.{passed}
use Rattle.zp_tree.specs.ShortNames.{short_name_if, in_byte_order}
use Rattle.zp_tree.specs.Promote.{promotion_from, promotion_of, moves, is_owned_by, has_short, is_in_the_way, names_in_the_way, promote_rows, promote_check, promoted, promote_change}
use Rattle.zp_tree.specs.PromoteKeeps.{promoted-keeps}
use Rattle.zp_tree.proofs.Looks.{at-id}
use Rattle.zp_tree.proofs.Found.{is-head, is-snapshot, head-found}
use Rattle.zp_tree.proofs.Clear.{clear}
use Rattle.zp_changes.proofs.Changed.{at-changed, rises-changed, length-changed, sum-changed}
use Rattle.zp_changes.proofs.Promoted.{IsPromotion, agrees-promoted, settings-after}

-- ---- nothing in the way

some-inserted : (names : List (List ℕ)) (x : List ℕ) → nat_lt 0 (length (insert_key (slice_cmp nat_cmp) names x)) ≡ true
some-inserted [] x = refl
some-inserted (y ∷ ys) x = elim (slice_cmp nat_cmp x y) as (λ o. nat_lt 0 (length (match_ordering o (x ∷ y ∷ ys) (y ∷ ys) (y ∷ insert_key (slice_cmp nat_cmp) ys x))) ≡ true) [ Less ↦ grind arith | Equal ↦ grind arith | Greater ↦ grind arith ]

none-in-way : (f : Item → Option (List ℕ)) (rs : List Item) (i : ℕ) (r : Item) → nat_lt 0 (length (in_byte_order (filter_map f rs))) ≡ false → at rs i ≡ Some r → f r ≡ None
none-in-way f [] i r e h = cc
none-in-way f (x ∷ rs) i r e h = elim (cases_eq (id_of x) i) [
  | inl same ↦ let is : Some x ≡ Some r = sym (ap (λ b. cond b (Some x) (at rs i)) (eq-eqb (id_of x) i same)) ∙ h in let it : x ≡ r = cc in ap f (sym it) ∙ first (f x) refl e
  | inr other ↦ none-in-way f rs i r (tail (f x) e) (sym (ap (λ b. cond b (Some x) (at rs i)) (ne_eqb (id_of x) i other)) ∙ h)
]
  where
    first : (o : Option (List ℕ)) → f x ≡ o → nat_lt 0 (length (in_byte_order (cons_option o (filter_map f rs)))) ≡ false → f x ≡ None
    first (Some t) is g = let some : nat_lt 0 (length (insert_key (slice_cmp nat_cmp) (in_byte_order (filter_map f rs)) t)) ≡ true = some-inserted (in_byte_order (filter_map f rs)) t in cc
    first None is g = is

    tail : (o : Option (List ℕ)) → nat_lt 0 (length (in_byte_order (cons_option o (filter_map f rs)))) ≡ false → nat_lt 0 (length (in_byte_order (filter_map f rs))) ≡ false
    tail (Some t) g = let some : nat_lt 0 (length (insert_key (slice_cmp nat_cmp) (in_byte_order (filter_map f rs)) t)) ≡ true = some-inserted (in_byte_order (filter_map f rs)) t in cc
    tail None g = g

-- what one record gives is among what all give
any-given : (f : Item → Option (List ℕ)) (p : List ℕ → Bool) (rs : List Item) (i : ℕ) (r : Item) (x : List ℕ) → at rs i ≡ Some r → f r ≡ Some x → p x ≡ true → list_any p (filter_map f rs) ≡ true
any-given f p [] i r x h e t = cc
any-given f p (y ∷ rs) i r x h e t = elim (cases_eq (id_of y) i) [
  | inl same ↦ let is : Some y ≡ Some r = sym (ap (λ b. cond b (Some y) (at rs i)) (eq-eqb (id_of y) i same)) ∙ h in let it : y ≡ r = cc in
      ap (λ (o : Option (List ℕ)). list_any p (cons_option o (filter_map f rs))) (ap f it ∙ e) ∙ ap (λ b. b || list_any p (filter_map f rs)) t
  | inr other ↦ more (f y) (any-given f p rs i r x (sym (ap (λ b. cond b (Some y) (at rs i)) (ne_eqb (id_of y) i other)) ∙ h) e t)
]
  where
    behind : (b : Bool) → list_any p (filter_map f rs) ≡ true → (b || list_any p (filter_map f rs)) ≡ true
    behind true g = refl
    behind false g = g

    more : (o : Option (List ℕ)) → list_any p (filter_map f rs) ≡ true → list_any p (cons_option o (filter_map f rs)) ≡ true
    more None g = g
    more (Some z) g = behind (p z) g

-- a snapshot of the clone stands in the way of one that would move and has its short name
clash : (t : Tree) (m : Promotion) (i j : ℕ) (s u : Snapshot) → nat_lt 0 (length (names_in_the_way t m)) ≡ false → snapshot_in (at t.records) i ≡ Some s → moves m s ≡ true → snapshot_in (at t.records) j ≡ Some u → u.owner ≡ m.clone → u.short ≡ s.short → ⊥
clash t m i j s u none hs mv hu own same =
    let gone : short_name_if (is_in_the_way t m) (item.Snap s) ≡ None = none-in-way (short_name_if (is_in_the_way t m)) t.records i (item.Snap s) none (is-snapshot (at t.records i) s hs) in
    let name : short_name_if (is_owned_by m.clone) (item.Snap u) ≡ Some u.short = ap (λ b. cond b (Some u.short) None) (eq-eqb u.owner m.clone own) in
    let has : has_short t m.clone s.short ≡ true = any-given (short_name_if (is_owned_by m.clone)) (bytes_eq s.short) t.records j (item.Snap u) u.short (is-snapshot (at t.records j) u hu) name ((bytes_eq-Decides s.short u.short).1 (sym same)) in
    let hit : short_name_if (is_in_the_way t m) (item.Snap s) ≡ Some s.short = ap (λ b. cond (b && has_short t m.clone s.short) (Some s.short) None) mv ∙ ap (λ b. cond b (Some s.short) None) has in
    cc

-- ---- what a promotion rests on

pub record Parts (t : Tree) (name : List ℕ) (m : Promotion) : Type 0 where
  pub clone : Head
  pub named : head_named t name ≡ Some clone
  pub origin : clone.origin ≡ Some m.origin
  pub id : clone.id ≡ m.clone
  pub snapshot : Snapshot
  pub snapshot_there : snapshot_in (at t.records) m.origin ≡ Some snapshot
  pub snapshot_owner : snapshot.owner ≡ m.owner
  pub old : Head
  pub old_there : head_in (at t.records) m.owner ≡ Some old
  pub old_origin : old.origin ≡ m.owner_origin

pub parts : (t : Tree) (name : List ℕ) (m : Promotion) → promotion_of t name ≡ Some m → Parts t name m
parts t name m e = by-clone (head_named t name) refl e
  where
    by-old : (clone : Head) (o : ℕ) (s : Snapshot) → head_named t name ≡ Some clone → clone.origin ≡ Some o → snapshot_at t o ≡ Some s → (old : Option Head) → head_at t s.owner ≡ old → option_map (λ (d : Head). let p : Promotion = record { clone = clone.id; origin = s.id; owner = d.id; owner_origin = d.origin } in p) old ≡ Some m → Parts t name m
    by-old clone o s hc ho hs None hd f = cc
    by-old clone o s hc ho hs (Some d) hd f =
        let q : Promotion = record { clone = clone.id; origin = s.id; owner = d.id; owner_origin = d.origin } in
        let is : q ≡ m = cc in
        let sid : s.id ≡ o = at-id o t.records (item.Snap s) (is-snapshot (at t.records o) s hs) in
        let did : d.id ≡ s.owner = at-id s.owner t.records (item.Head d) (is-head (at t.records s.owner) d hd) in
        subst (Parts t name) is (record { clone = clone; named = hc; origin = ho ∙ ap Some (sym sid); id = refl; snapshot = s; snapshot_there = ap (snapshot_in (at t.records)) sid ∙ hs; snapshot_owner = sym did; old = d; old_there = ap (head_in (at t.records)) did ∙ hd; old_origin = refl })

    by-snapshot : (clone : Head) (o : ℕ) → head_named t name ≡ Some clone → clone.origin ≡ Some o → (s : Option Snapshot) → snapshot_at t o ≡ s → option_and_then (promotion_from t clone) s ≡ Some m → Parts t name m
    by-snapshot clone o hc ho None hs f = cc
    by-snapshot clone o hc ho (Some s) hs f = by-old clone o s hc ho hs (head_at t s.owner) refl f

    by-origin : (clone : Head) → head_named t name ≡ Some clone → (o : Option ℕ) → clone.origin ≡ o → option_and_then (λ o. option_and_then (promotion_from t clone) (snapshot_at t o)) o ≡ Some m → Parts t name m
    by-origin clone hc None ho f = cc
    by-origin clone hc (Some o) ho f = by-snapshot clone o hc ho (snapshot_at t o) refl f

    by-clone : (c : Option Head) → head_named t name ≡ c → option_and_then (λ (clone : Head). option_and_then (λ o. option_and_then (promotion_from t clone) (snapshot_at t o)) clone.origin) c ≡ Some m → Parts t name m
    by-clone None hc f = cc
    by-clone (Some c) hc f = by-origin c hc c.origin refl f

pub is-promotion : (t : Tree) (name : List ℕ) (m : Promotion) → IsWellFormed t → promotion_of t name ≡ Some m → nat_lt 0 (length (names_in_the_way t m)) ≡ false → IsPromotion (at t.records) m
is-promotion t name m w e none = record {
  ids = λ i d h. at-id i t.records (item.Head d) (is-head (at t.records i) d h);
  clone = p.clone;
  clone_there = ap (head_in (at t.records)) (sym p.id) ∙ (head-found t name p.clone w p.named).0;
  clone_origin = p.origin;
  old = p.old;
  old_there = p.old_there;
  old_origin = p.old_origin;
  snapshot = ap is_some p.snapshot_there;
  free = λ i j s u hs mv hu own same. clash t m i j s u none hs mv hu own same;
}
  where
    p : Parts t name m
    p = parts t name m e

-- where the check passes, no name is in the way
pub way-free : (t : Tree) (name : List ℕ) (m : Promotion) → promotion_of t name ≡ Some m → promote_check t name ≡ passed → nat_lt 0 (length (names_in_the_way t m)) ≡ false
way-free t name m f e = sym (ap (λ (o : Option Promotion). nat_lt 0 (length (option_map_or (names_in_the_way t) o []))) f) ∙ (clear (promote_rows t name) refl e).1.1.1.0

pub promoted-well : (t : Tree) (name : List ℕ) (m : Promotion) → IsWellFormed t → promotion_of t name ≡ Some m → nat_lt 0 (length (names_in_the_way t m)) ≡ false → IsWellFormed (record t { records = changed (promoted m) t.records })
promoted-well t name m w f none = record {
  rises = rises-changed (promoted m) (promoted-keeps m) 0 t.next t.records w.rises;
  agrees = agrees-promoted (at t.records) (at (changed (promoted m) t.records)) m (λ i. at-changed (promoted m) (promoted-keeps m) t.records i) w.agrees (is-promotion t name m w f none);
  few_records = (let same : length (changed (promoted m) t.records) ≡ length t.records = length-changed (promoted m) t.records in let few = w.few_records in omega arith);
  few_settings = (let same : sum_by user_settings (changed (promoted m) t.records) ≡ sum_by user_settings t.records = sum-changed (promoted m) user_settings (settings-after m) t.records in let few = w.few_settings in omega arith);
}

pub promote-well : (t : Tree) (name : List ℕ) → IsWellFormed t → promote_check t name ≡ passed → IsWellFormed (promote_change t name)
promote-well t name w e = go (promotion_of t name) refl
  where
    go : (o : Option Promotion) → promotion_of t name ≡ o → IsWellFormed (option_map_or (λ m. record t { records = changed (promoted m) t.records }) o t)
    go None f = w
    go (Some m) f = promoted-well t name m w f (way-free t name m f e)
