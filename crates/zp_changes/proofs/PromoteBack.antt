-- A promotion leaves ids, and one there and back leaves the tree.
use Rattle.std.proofs.Common.{◌≡◌, ℕ, ◌+◌, ◌<◌, ◌≤◌, List, [], ◌∷◌, length, map, nat_eq, nat_le, nat_lt, Bool, true, false, not, ◌&&◌, ◌||◌, cond, bytes_eq, Option, Some, None, is_some, refl, sym, ap, ◌∙◌, arith, inl, inr, option_map, option_and_then}
use Rattle.std.specs.Option.{option_map_or}
use Rattle.std.specs.List.{filter_map, cons_option, list_any}
use Rattle.std.proofs.lemmas.Bool.{cases_Bool, cases_eq, eq-eqb, eqb-true, ne_eqb, and_parts, and_from, le-leb, leb-true, lt-leb}
use Rattle.std.proofs.lemmas.Slice.Eq.{bytes_eq-Decides}
use Rattle.zp_tree.specs.declared.item.Item.{Item}
use Rattle.zp_tree.specs.declared.item.Item.TheVariants as item
use Rattle.zp_tree.specs.declared.item.Head.{Head}
use Rattle.zp_tree.specs.declared.item.Snapshot.{Snapshot}
use Rattle.zp_tree.specs.declared.promotion.Promotion.{Promotion}
use Rattle.zp_tree.specs.Tree.{Tree, at, id_of, as_head, as_snapshot, head_name, head_named, head_at, snapshot_at, Rises, changed}
use Rattle.zp_tree.specs.WellFormed.{head_in, snapshot_in, IsHead, IsWellFormed}
use Rattle.zp_tree.specs.Rows.{passed, first_row}
use Rattle.zp_tree.specs.ShortNames.{short_name_if, in_byte_order}
use Rattle.zp_tree.specs.Promote.{promotion_of, promotion_from, moves, is_owned_by, has_short, is_in_the_way, names_in_the_way, promote_rows, promote_check, promoted, promote_change}
use Rattle.zp_tree.specs.PromoteKeeps.{promoted-keeps}
use Rattle.zp_tree.proofs.Looks.{at-id, at-later}
use Rattle.zp_tree.proofs.Edits.{at-here}
use Rattle.zp_tree.proofs.Found.{is-head, is-snapshot}
use Rattle.zp_tree.proofs.FullNames.{finds-named}
use Rattle.zp_tree.proofs.Clear.{Clear}
use Rattle.zp_changes.specs.PromotionLaws.{origin_owner, OwnAreYounger}
use Rattle.zp_changes.proofs.Changed.{after, at-changed, ids-changed}
use Rattle.zp_changes.proofs.Promoted.{new_head, new_snapshot, new_origin, after-head, after-snapshot, heads-after, snapshots-after, From, from-map, IsPromotion}
use Rattle.zp_changes.proofs.PromoteLaw.{Parts, parts, is-promotion, way-free, promoted-well}

-- ---- ids

pub promote-ids : (t : Tree) (name : List ℕ) → map id_of (promote_change t name).records ≡ map id_of t.records
promote-ids t name = go (promotion_of t name)
  where
    go : (o : Option Promotion) → map id_of (option_map_or (λ (m : Promotion). record t { records = changed (promoted m) t.records }) o t).records ≡ map id_of t.records
    go None = refl
    go (Some m) = ids-changed (promoted m) (promoted-keeps m) t.records

pub promote-next : (t : Tree) (name : List ℕ) → (promote_change t name).next ≡ t.next
promote-next t name = go (promotion_of t name)
  where
    go : (o : Option Promotion) → (option_map_or (λ (m : Promotion). record t { records = changed (promoted m) t.records }) o t).next ≡ t.next
    go None = refl
    go (Some m) = refl

-- ---- lists of records

-- where no record gives anything, nothing is given
none-given : (f : Item → Option (List ℕ)) (low n : ℕ) (rs : List Item) → Rises low rs n → ((i : ℕ) (r : Item) → at rs i ≡ Some r → f r ≡ None) → filter_map f rs ≡ []
none-given f low n [] rises h = refl
none-given f low n (r ∷ rs) rises h =
    ap (λ (o : Option (List ℕ)). cons_option o (filter_map f rs)) (h (id_of r) r (at-here r rs (id_of r) refl))
    ∙ none-given f (id_of r + 1) n rs rises.1 (λ i u e. h i u (at-later r n rs i u rises.1 e))

-- a record that gives something that passes
record Gives (f : Item → Option (List ℕ)) (p : List ℕ → Bool) (rs : List Item) : Type 0 where
  id : ℕ
  item : Item
  there : at rs id ≡ Some item
  text : List ℕ
  gives : f item ≡ Some text
  passes : p text ≡ true

some-given : (f : Item → Option (List ℕ)) (p : List ℕ → Bool) (low n : ℕ) (rs : List Item) → Rises low rs n → list_any p (filter_map f rs) ≡ true → Gives f p rs
some-given f p low n [] rises h = cc
some-given f p low n (r ∷ rs) rises h = go (λ e. some-given f p (id_of r + 1) n rs rises.1 e) (f r) refl h
  where
    further : (list_any p (filter_map f rs) ≡ true → Gives f p rs) → list_any p (filter_map f rs) ≡ true → Gives f p (r ∷ rs)
    further rest e = let g = rest e in record { id = g.id; item = g.item; there = at-later r n rs g.id g.item rises.1 g.there; text = g.text; gives = g.gives; passes = g.passes }

    go : (list_any p (filter_map f rs) ≡ true → Gives f p rs) → (o : Option (List ℕ)) → f r ≡ o → list_any p (cons_option o (filter_map f rs)) ≡ true → Gives f p (r ∷ rs)
    go rest None e k = further rest k
    go rest (Some x) e k = elim (cases_Bool (p x)) [
      | inl hit ↦ record { id = id_of r; item = r; there = at-here r rs (id_of r) refl; text = x; gives = e; passes = hit }
      | inr miss ↦ further rest (sym (ap (λ b. b || list_any p (filter_map f rs)) miss) ∙ k)
    ]

-- a snapshot of a head, by its short name
record Own (head : ℕ) (r : Item) (x : List ℕ) : Type 0 where
  snapshot : Snapshot
  is : r ≡ item.Snap snapshot
  owner : snapshot.owner ≡ head
  short : snapshot.short ≡ x

own : (head : ℕ) (r : Item) (x : List ℕ) → short_name_if (is_owned_by head) r ≡ Some x → Own head r x
own head (item.Head d) x e = cc
own head (item.Mark b) x e = cc
own head (item.Snap s) x e = elim (cases_eq s.owner head) [
  | inl same ↦ let is : Some s.short ≡ Some x = sym (ap (λ b. cond b (Some s.short) None) (eq-eqb s.owner head same)) ∙ e in record { snapshot = s; is = refl; owner = same; short = cc }
  | inr other ↦ let none : None ≡ Some x = sym (ap (λ b. cond b (Some s.short) None) (ne_eqb s.owner head other)) ∙ e in cc
]

-- two changes that undo each other at each record
pub undone : (f g : Item → Option Item) (low n : ℕ) (rs : List Item) → Rises low rs n → ((i : ℕ) (r : Item) → at rs i ≡ Some r → after g (after f r) ≡ r) → changed g (changed f rs) ≡ rs
undone f g low n [] rises h = refl
undone f g low n (r ∷ rs) rises h =
    ap (λ x. x ∷ changed g (changed f rs)) (h (id_of r) r (at-here r rs (id_of r) refl))
    ∙ ap (λ xs. r ∷ xs) (undone f g (id_of r + 1) n rs rises.1 (λ i u e. h i u (at-later r n rs i u rises.1 e)))

-- where no row holds, the check passes
pub clears : (rows : List _) → Clear rows → first_row rows ≡ passed
clears [] h = refl
clears (r ∷ rs) h = ap (λ b. cond b r.1 (first_row rs)) h.0 ∙ clears rs h.1

-- ---- look-ups

-- a head is found by its name
pub head-named : (t : Tree) (i : ℕ) (d : Head) → IsWellFormed t → head_in (at t.records) i ≡ Some d → head_named t d.name ≡ Some d
head-named t i d w h =
    let there = is-head (at t.records i) d h in
    ap (option_and_then as_head) (sym (finds-named t d.name i w (item.Head d, there, (bytes_eq-Decides d.name d.name).1 refl))) ∙ h

promotion-is : (t : Tree) (name : List ℕ) (c : Head) (o : ℕ) (s : Snapshot) (d : Head) → head_named t name ≡ Some c → c.origin ≡ Some o → snapshot_at t o ≡ Some s → head_at t s.owner ≡ Some d →
    promotion_of t name ≡ Some (record { clone = c.id; origin = s.id; owner = d.id; owner_origin = d.origin })
promotion-is t name c o s d hc ho hs hd =
    ap (option_and_then (λ (clone : Head). option_and_then (λ o. option_and_then (promotion_from t clone) (snapshot_at t o)) clone.origin)) hc
    ∙ ap (option_and_then (λ o. option_and_then (promotion_from t c) (snapshot_at t o))) ho
    ∙ ap (option_and_then (promotion_from t c)) hs
    ∙ ap (option_map (λ (old : Head). let p : Promotion = record { clone = c.id; origin = s.id; owner = old.id; owner_origin = old.origin } in p)) hd

-- ---- there and back

-- the promotion of the head that had the origin
abbrev back : Promotion → Promotion
back m = record { clone = m.owner; origin = m.origin; owner = m.clone; owner_origin = m.owner_origin }

-- a promotion after which the way back is free
record Way (t : Tree) (name : List ℕ) (m : Promotion) : Type 0 where
  well : IsWellFormed t
  of : promotion_of t name ≡ Some m
  free : nat_lt 0 (length (names_in_the_way t m)) ≡ false
  younger : (i : ℕ) (s : Snapshot) → snapshot_at t i ≡ Some s → s.owner ≡ m.clone → m.origin < s.id

-- the tree after a promotion
abbrev next : Tree → Promotion → Tree
next t m = record t { records = changed (promoted m) t.records }

moved-owner : (m : Promotion) (s : Snapshot) → moves m s ≡ true → s.owner ≡ m.owner
moved-owner m s e = eqb-true s.owner m.owner (and_parts (nat_eq s.owner m.owner) (nat_le s.id m.origin) e).0

moved-id : (m : Promotion) (s : Snapshot) → moves m s ≡ true → nat_le s.id m.origin ≡ true
moved-id m s e = (and_parts (nat_eq s.owner m.owner) (nat_le s.id m.origin) e).1

and-false : (b : Bool) → (b && false) ≡ false
and-false true = refl
and-false false = refl

-- a snapshot that moved belongs to the clone, another to the head that it belonged to
owner-then : (m : Promotion) (s : Snapshot) (b : Bool) → moves m s ≡ b → (new_snapshot m s).owner ≡ cond b m.clone s.owner
owner-then m s b e = ap (λ (c : Bool). cond c m.clone s.owner) e

module _ (t : Tree) (name : List ℕ) (m : Promotion) (way : Way t name m) where
  p : Parts t name m
  p = parts t name m way.of

  rests : IsPromotion (at t.records) m
  rests = is-promotion t name m way.well way.of way.free

  well-then : IsWellFormed (next t m)
  well-then = promoted-well t name m way.well way.of way.free

  snapshot-id : p.snapshot.id ≡ m.origin
  snapshot-id = at-id m.origin t.records (item.Snap p.snapshot) (is-snapshot (at t.records m.origin) p.snapshot p.snapshot_there)

  -- the clone and the head that has the origin are two
  apart : m.owner ≡ m.clone → ⊥
  apart same = let less : m.origin < p.snapshot.id = way.younger m.origin p.snapshot p.snapshot_there (p.snapshot_owner ∙ same) in let is : p.snapshot.id ≡ m.origin = snapshot-id in omega arith

  head-then : (i : ℕ) (d : Head) → head_in (at t.records) i ≡ Some d → head_at (next t m) i ≡ Some (new_head m d)
  head-then i d e = ap (option_and_then as_head) (at-changed (promoted m) (promoted-keeps m) t.records i) ∙ heads-after m (at t.records i) ∙ ap (option_map (new_head m)) e

  snapshot-then : (i : ℕ) (s : Snapshot) → snapshot_in (at t.records) i ≡ Some s → snapshot_at (next t m) i ≡ Some (new_snapshot m s)
  snapshot-then i s e = ap (option_and_then as_snapshot) (at-changed (promoted m) (promoted-keeps m) t.records i) ∙ snapshots-after m (at t.records i) ∙ ap (option_map (new_snapshot m)) e

  snapshot-was : (i : ℕ) (s : Snapshot) → snapshot_at (next t m) i ≡ Some s → From (new_snapshot m) (snapshot_in (at t.records) i) s
  snapshot-was i s e = from-map (new_snapshot m) (snapshot_in (at t.records) i) s (sym (ap (option_and_then as_snapshot) (at-changed (promoted m) (promoted-keeps m) t.records i) ∙ snapshots-after m (at t.records i)) ∙ e)

  old-id : rests.old.id ≡ m.owner
  old-id = rests.ids m.owner rests.old rests.old_there

  clone-id : rests.clone.id ≡ m.clone
  clone-id = rests.ids m.clone rests.clone rests.clone_there

  -- where the ids of the clone and of the other are told apart
  old-origin : (new_head m rests.old).origin ≡ Some m.origin
  old-origin = ap (λ b. cond b m.owner_origin (cond (nat_eq rests.old.id m.owner) (Some m.origin) rests.old.origin)) (ne_eqb rests.old.id m.clone (λ e. apart (sym old-id ∙ e))) ∙ ap (λ b. cond b (Some m.origin) rests.old.origin) (eq-eqb rests.old.id m.owner old-id)

  clone-origin : (new_head m rests.clone).origin ≡ m.owner_origin
  clone-origin = ap (λ b. cond b m.owner_origin (cond (nat_eq rests.clone.id m.owner) (Some m.origin) rests.clone.origin)) (eq-eqb rests.clone.id m.clone clone-id)

  snapshot-moves : moves m p.snapshot ≡ true
  snapshot-moves = and_from (nat_eq p.snapshot.owner m.owner) (nat_le p.snapshot.id m.origin) (eq-eqb p.snapshot.owner m.owner p.snapshot_owner) (le-leb p.snapshot.id m.origin (let is : p.snapshot.id ≡ m.origin = snapshot-id in omega arith))

  named-then : head_named (next t m) rests.old.name ≡ Some (new_head m rests.old)
  named-then = head-named (next t m) m.owner (new_head m rests.old) well-then (head-then m.owner rests.old rests.old_there)

  -- the promotion of the other head
  back-is : promotion_of (next t m) rests.old.name ≡ Some (back m)
  back-is =
      promotion-is (next t m) rests.old.name (new_head m rests.old) m.origin (new_snapshot m p.snapshot) (new_head m rests.clone) named-then old-origin (snapshot-then m.origin p.snapshot p.snapshot_there)
      (ap (head_at (next t m)) (owner-then m p.snapshot true snapshot-moves) ∙ head-then m.clone rests.clone rests.clone_there)
      ∙ (λ i. Some (record { clone = old-id i; origin = snapshot-id i; owner = clone-id i; owner_origin = clone-origin i }))

  -- ---- nothing is in the way back

  none-clashes : (i j : ℕ) (s u : Snapshot) → snapshot_at (next t m) i ≡ Some s → snapshot_at (next t m) j ≡ Some u → moves (back m) s ≡ true → u.owner ≡ m.owner → u.short ≡ s.short → ⊥
  none-clashes i j s u hs hu mv own short = by (snapshot-was i s hs) (snapshot-was j u hu)
    where
      by : From (new_snapshot m) (snapshot_in (at t.records) i) s → From (new_snapshot m) (snapshot_in (at t.records) j) u → ⊥
      by x y = either (moves m x.value) (moves m y.value) refl refl
        where
          now-owner : (new_snapshot m x.value).owner ≡ m.clone
          now-owner = ap (λ (v : Snapshot). v.owner) x.is ∙ moved-owner (back m) s mv

          now-other : (new_snapshot m y.value).owner ≡ m.owner
          now-other = ap (λ (v : Snapshot). v.owner) y.is ∙ own

          old-enough : x.value.id ≤ m.origin
          old-enough = leb-true x.value.id m.origin (ap (λ (v : Snapshot). nat_le v.id m.origin) x.is ∙ moved-id (back m) s mv)

          shorts : x.value.short ≡ y.value.short
          shorts = ap (λ (v : Snapshot). v.short) x.is ∙ sym short ∙ sym (ap (λ (v : Snapshot). v.short) y.is)

          either : (b c : Bool) → moves m x.value ≡ b → moves m y.value ≡ c → ⊥
          either b true e f = apart (sym now-other ∙ owner-then m y.value true f)
          either true false e f =
              let same : i ≡ j = way.well.agrees.shorts i j x.value y.value x.there y.there (moved-owner m x.value e ∙ sym (sym (owner-then m y.value false f) ∙ now-other)) shorts in
              let one : Some x.value ≡ Some y.value = sym x.there ∙ ap (snapshot_in (at t.records)) same ∙ y.there in
              let is : x.value ≡ y.value = cc in
              let both : moves m x.value ≡ moves m y.value = ap (moves m) is in cc
          either false false e f =
              let less : m.origin < x.value.id = way.younger i x.value x.there (sym (owner-then m x.value false e) ∙ now-owner) in
              let le : x.value.id ≤ m.origin = old-enough in omega arith

  none-back : names_in_the_way (next t m) (back m) ≡ []
  none-back = ap in_byte_order (none-given (short_name_if (is_in_the_way (next t m) (back m))) 0 (next t m).next (next t m).records well-then.rises each)
    where
      each : (i : ℕ) (r : Item) → at (next t m).records i ≡ Some r → short_name_if (is_in_the_way (next t m) (back m)) r ≡ None
      each i (item.Head d) h = refl
      each i (item.Mark b) h = refl
      each i (item.Snap s) h = elim (cases_Bool (is_in_the_way (next t m) (back m) s)) [
        | inr out ↦ ap (λ b. cond b (Some s.short) None) out
        | inl hit ↦ absurd (clash hit (some-given (short_name_if (is_owned_by m.owner)) (bytes_eq s.short) 0 (next t m).next (next t m).records well-then.rises (and_parts (moves (back m) s) (has_short (next t m) m.owner s.short) hit).1))
      ]
        where
          mv : is_in_the_way (next t m) (back m) s ≡ true → moves (back m) s ≡ true
          mv hit = (and_parts (moves (back m) s) (has_short (next t m) m.owner s.short) hit).0

          clash : is_in_the_way (next t m) (back m) s ≡ true → Gives (short_name_if (is_owned_by m.owner)) (bytes_eq s.short) (next t m).records → ⊥
          clash hit g =
              let u = own m.owner g.item g.text g.gives in
              none-clashes i g.id s u.snapshot (ap (option_and_then as_snapshot) h) (ap (option_and_then as_snapshot) (g.there ∙ ap Some u.is)) (mv hit) u.owner (u.short ∙ sym ((bytes_eq-Decides s.short g.text).0 g.passes))

  way-back-passes : promote_check (next t m) rests.old.name ≡ passed
  way-back-passes = clears (promote_rows (next t m) rests.old.name) (
    ap not (let good : IsHead (new_head m rests.old) = well-then.agrees.records m.owner (item.Head (new_head m rests.old)) (is-head (at (next t m).records m.owner) (new_head m rests.old) (head-then m.owner rests.old rests.old_there)) in good.form),
    (
      ap (λ (o : Option Head). not (is_some o)) named-then,
      (
        ap (λ (o : Option Promotion). not (is_some o)) back-is,
        (
          ap (λ (o : Option Promotion). nat_lt 0 (length (option_map_or (names_in_the_way (next t m)) o []))) back-is ∙ ap (λ (names : List (List ℕ)). nat_lt 0 (length names)) none-back,
          tt,
        ),
      ),
    ),
  )

  -- ---- each record is as it was

  head-back : (i : ℕ) (d : Head) → head_in (at t.records) i ≡ Some d → new_origin (back m) (new_head m d) ≡ d.origin
  head-back i d h = by (nat_eq d.id m.clone) (nat_eq d.id m.owner) refl refl
    where
      same-origin : (k : ℕ) (e : Head) → d.id ≡ k → head_in (at t.records) k ≡ Some e → e.origin ≡ d.origin
      same-origin k e is there =
          let both : Some d ≡ Some e = sym h ∙ ap (head_in (at t.records)) (sym (rests.ids i d h) ∙ is) ∙ there in
          let one : d ≡ e = cc in ap (λ (v : Head). v.origin) (sym one)

      by : (b c : Bool) → nat_eq d.id m.clone ≡ b → nat_eq d.id m.owner ≡ c → cond c m.owner_origin (cond b (Some m.origin) (cond b m.owner_origin (cond c (Some m.origin) d.origin))) ≡ d.origin
      by true true e f = absurd (apart (sym (eqb-true d.id m.owner f) ∙ eqb-true d.id m.clone e))
      by true false e f = sym rests.clone_origin ∙ same-origin m.clone rests.clone (eqb-true d.id m.clone e) rests.clone_there
      by false true e f = sym rests.old_origin ∙ same-origin m.owner rests.old (eqb-true d.id m.owner f) rests.old_there
      by false false e f = refl

  snapshot-back : (i : ℕ) (s : Snapshot) → snapshot_in (at t.records) i ≡ Some s → (new_snapshot (back m) (new_snapshot m s)).owner ≡ s.owner
  snapshot-back i s h = by (moves m s) refl
    where
      by : (b : Bool) → moves m s ≡ b → cond (nat_eq (cond b m.clone s.owner) m.clone && nat_le s.id m.origin) m.owner (cond b m.clone s.owner) ≡ s.owner
      by true e = ap (λ b. cond (b && nat_le s.id m.origin) m.owner m.clone) (eq-eqb m.clone m.clone refl) ∙ ap (λ b. cond b m.owner m.clone) (moved-id m s e) ∙ sym (moved-owner m s e)
      by false e = elim (cases_eq s.owner m.clone) [
        | inr other ↦ ap (λ b. cond (b && nat_le s.id m.origin) m.owner s.owner) (ne_eqb s.owner m.clone other)
        | inl same ↦ let less : m.origin < s.id = way.younger i s h same in
            ap (λ b. cond (nat_eq s.owner m.clone && b) m.owner s.owner) (lt-leb s.id m.origin less) ∙ ap (λ b. cond b m.owner s.owner) (and-false (nat_eq s.owner m.clone))
      ]

  record-back : (i : ℕ) (r : Item) → at t.records i ≡ Some r → after (promoted (back m)) (after (promoted m) r) ≡ r
  record-back i (item.Mark b) h = refl
  record-back i (item.Head d) h =
      ap (after (promoted (back m))) (after-head m d) ∙ after-head (back m) (new_head m d) ∙ ap (λ (o : Option ℕ). item.Head (record d { origin = o })) (head-back i d (ap (option_and_then as_head) h))
  record-back i (item.Snap s) h =
      ap (after (promoted (back m))) (after-snapshot m s) ∙ after-snapshot (back m) (new_snapshot m s) ∙ ap (λ (o : ℕ). item.Snap (record s { owner = o })) (snapshot-back i s (ap (option_and_then as_snapshot) h))

  way-back-gives : promote_change (next t m) rests.old.name ≡ t
  way-back-gives =
      ap (λ (o : Option Promotion). option_map_or (λ (n : Promotion). record (next t m) { records = changed (promoted n) (next t m).records }) o (next t m)) back-is
      ∙ (λ i. record { records = undone (promoted m) (promoted (back m)) 0 t.next t.records way.well.rises record-back i; next = t.next })

-- ---- the law

-- what the law is about: its promotion, and the name of the head that has the origin
record Turn (t : Tree) (name old : List ℕ) : Type 0 where
  promotion : Promotion
  way : Way t name promotion
  named : (rests t name promotion way).old.name ≡ old
  gives : promote_change t name ≡ next t promotion

turn : (t : Tree) (name old : List ℕ) → IsWellFormed t → promote_check t name ≡ passed → origin_owner t name ≡ Some old → OwnAreYounger t name → Turn t name old
turn t name old w passes owner younger = go (promotion_of t name) refl owner
  where
    go : (o : Option Promotion) → promotion_of t name ≡ o → option_and_then (λ (m : Promotion). head_name t.records m.owner) o ≡ Some old → Turn t name old
    go None e f = cc
    go (Some m) e f =
        let way : Way t name m = record { well = w; of = e; free = way-free t name m e passes; younger = younger m e } in
        let known : head_name t.records m.owner ≡ Some (rests t name m way).old.name = ap (option_map (λ (d : Head). d.name)) (rests t name m way).old_there in
        let both : Some (rests t name m way).old.name ≡ Some old = sym known ∙ f in
        record { promotion = m; way = way; named = cc; gives = ap (λ (o : Option Promotion). option_map_or (λ (n : Promotion). record t { records = changed (promoted n) t.records }) o t) e }

pub back-passes : (t : Tree) (name old : List ℕ) → IsWellFormed t → promote_check t name ≡ passed → origin_owner t name ≡ Some old → OwnAreYounger t name → promote_check (promote_change t name) old ≡ passed
back-passes t name old w passes owner younger =
    let turned = turn t name old w passes owner younger in
    ap (λ (u : Tree). promote_check u old) turned.gives ∙ ap (promote_check (next t turned.promotion)) (sym turned.named) ∙ way-back-passes t name turned.promotion turned.way

pub back-gives : (t : Tree) (name old : List ℕ) → IsWellFormed t → promote_check t name ≡ passed → origin_owner t name ≡ Some old → OwnAreYounger t name → promote_change (promote_change t name) old ≡ t
back-gives t name old w passes owner younger =
    let turned = turn t name old w passes owner younger in
    ap (λ (u : Tree). promote_change u old) turned.gives ∙ ap (promote_change (next t turned.promotion)) (sym turned.named) ∙ way-back-gives t name turned.promotion turned.way
