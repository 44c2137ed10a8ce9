-- What becomes of each record when a clone is promoted, and that the records then agree.
use Rattle.std.proofs.Common.{◌≡◌, ℕ, List, nat_eq, nat_le, Bool, true, false, cond, Option, Some, None, IsSome, is_some, refl, sym, ap, subst, ◌∙◌, inl, inr, option_map, option_and_then, unwrap_or}
use Rattle.std.proofs.lemmas.Bool.{cases_eq, eq-eqb, eqb-true, ne_eqb, and_parts}
use Rattle.zp_tree.specs.declared.item.Item.{Item}
use Rattle.zp_tree.specs.declared.item.Item.TheVariants as item
use Rattle.zp_tree.specs.declared.item.Head.{Head}
use Rattle.zp_tree.specs.declared.item.Snapshot.{Snapshot}
use Rattle.zp_tree.specs.declared.promotion.Promotion.{Promotion}
use Rattle.zp_tree.specs.Tree.{as_head, as_snapshot, as_bookmark}
use Rattle.zp_tree.specs.WellFormed.{Look, head_in, snapshot_in, bookmark_in, IsHead, IsSnapshot, IsRecord, HasParent, HasClone, Agrees, user_settings}
use Rattle.zp_tree.specs.Promote.{promoted, moves}
use Rattle.zp_changes.proofs.Changed.{after}

-- ---- each record

abbrev pub new_origin : Promotion → Head → Option ℕ
new_origin m d = cond (nat_eq d.id m.clone) m.owner_origin (cond (nat_eq d.id m.owner) (Some m.origin) d.origin)

abbrev pub new_head : Promotion → Head → Head
new_head m d = record d { origin = new_origin m d }

abbrev pub new_snapshot : Promotion → Snapshot → Snapshot
new_snapshot m s = record s { owner = cond (moves m s) m.clone s.owner }

pub after-head : (m : Promotion) (d : Head) → after (promoted m) (item.Head d) ≡ item.Head (new_head m d)
after-head m d = split (nat_eq d.id m.clone) (nat_eq d.id m.owner)
  where
    split : (b c : Bool) → unwrap_or (cond b (Some (item.Head (record d { origin = m.owner_origin }))) (cond c (Some (item.Head (record d { origin = Some m.origin }))) None)) (item.Head d) ≡ item.Head (record d { origin = cond b m.owner_origin (cond c (Some m.origin) d.origin) })
    split true c = refl
    split false true = refl
    split false false = refl

pub after-snapshot : (m : Promotion) (s : Snapshot) → after (promoted m) (item.Snap s) ≡ item.Snap (new_snapshot m s)
after-snapshot m s = split (moves m s)
  where
    split : (b : Bool) → unwrap_or (cond b (Some (item.Snap (record s { owner = m.clone }))) None) (item.Snap s) ≡ item.Snap (record s { owner = cond b m.clone s.owner })
    split true = refl
    split false = refl

pub heads-after : (m : Promotion) (o : Option Item) → option_and_then as_head (option_map (after (promoted m)) o) ≡ option_map (new_head m) (option_and_then as_head o)
heads-after m None = refl
heads-after m (Some (item.Head d)) = ap as_head (after-head m d)
heads-after m (Some (item.Snap s)) = ap as_head (after-snapshot m s)
heads-after m (Some (item.Mark b)) = refl

pub snapshots-after : (m : Promotion) (o : Option Item) → option_and_then as_snapshot (option_map (after (promoted m)) o) ≡ option_map (new_snapshot m) (option_and_then as_snapshot o)
snapshots-after m None = refl
snapshots-after m (Some (item.Head d)) = ap as_snapshot (after-head m d)
snapshots-after m (Some (item.Snap s)) = ap as_snapshot (after-snapshot m s)
snapshots-after m (Some (item.Mark b)) = refl

bookmarks-after : (m : Promotion) (o : Option Item) → option_and_then as_bookmark (option_map (after (promoted m)) o) ≡ option_and_then as_bookmark o
bookmarks-after m None = refl
bookmarks-after m (Some (item.Head d)) = ap as_bookmark (after-head m d)
bookmarks-after m (Some (item.Snap s)) = ap as_bookmark (after-snapshot m s)
bookmarks-after m (Some (item.Mark b)) = refl

good-after : (m : Promotion) (r : Item) → IsRecord r → IsRecord (after (promoted m) r)
good-after m (item.Head d) h = subst IsRecord (sym (after-head m d)) (let k : IsHead d = h in record { name = k.name; form = k.form; settings = k.settings; size = k.size })
good-after m (item.Snap s) h = subst IsRecord (sym (after-snapshot m s)) (let k : IsSnapshot s = h in record { short = k.short; settings = k.settings; tags = k.tags; texts = k.texts })
good-after m (item.Mark b) h = h

pub settings-after : (m : Promotion) (r : Item) → user_settings (after (promoted m) r) ≡ user_settings r
settings-after m (item.Head d) = ap user_settings (after-head m d)
settings-after m (item.Snap s) = ap user_settings (after-snapshot m s)
settings-after m (item.Mark b) = refl

-- ---- all of them

-- what a promotion rests on
pub record IsPromotion (look : Look) (m : Promotion) : Type 0 where
  pub ids : (i : ℕ) (d : Head) → head_in look i ≡ Some d → d.id ≡ i
  pub clone : Head
  pub clone_there : head_in look m.clone ≡ Some clone
  pub clone_origin : clone.origin ≡ Some m.origin
  pub old : Head
  pub old_there : head_in look m.owner ≡ Some old
  pub old_origin : old.origin ≡ m.owner_origin
  pub snapshot : IsSome (snapshot_in look m.origin)
  pub free : (i j : ℕ) (s u : Snapshot) → snapshot_in look i ≡ Some s → moves m s ≡ true → snapshot_in look j ≡ Some u → u.owner ≡ m.clone → u.short ≡ s.short → ⊥

pub record From {A B : Type 0} (f : A → B) (o : Option A) (b : B) : Type 0 where
  pub value : A
  pub there : o ≡ Some value
  pub is : f value ≡ b

pub from-map : {A B : Type 0} (f : A → B) (o : Option A) (b : B) → option_map f o ≡ Some b → From f o b
from-map f None b e = cc
from-map f (Some a) b e = record { value = a; there = refl; is = cc }

pub agrees-promoted : (look new : Look) (m : Promotion) → ((i : ℕ) → new i ≡ option_map (after (promoted m)) (look i)) → Agrees look → IsPromotion look m → Agrees new
agrees-promoted look new m same a p = record {
  records = λ i r h. let x = from-map (after (promoted m)) (look i) r (sym (same i) ∙ h) in subst IsRecord x.is (good-after m x.value (a.records i x.value x.there));
  pool = record {
    id = a.pool.id;
    head = new_head m a.pool.head;
    there = now-head a.pool.id a.pool.head a.pool.there;
    part = a.pool.part;
    first = λ i h. a.pool.first i (was-some i h);
  };
  names = λ i j d e hi hj eq. let x = was-head i d hi in let y = was-head j e hj in a.names i j x.value y.value x.there y.there (ap (λ (v : Head). v.name) x.is ∙ eq ∙ sym (ap (λ (v : Head). v.name) y.is));
  parents = λ i d hi. let x = was-head i d hi in elim (a.parents i x.value x.there) [ inl root ↦ inl root | inr h ↦ inr (subst (HasParent new) (ap (λ (v : Head). v.name) x.is) (parent x.value.name h)) ];
  owners = λ i u hu. let x = was-snapshot i u hu in subst (λ k. IsSome (head_in new k)) (ap (λ (v : Snapshot). v.owner) x.is) (owner (moves m x.value) x.value.owner (a.owners i x.value x.there));
  shorts = λ i j u v hu hv so ss.
      let x = was-snapshot i u hu in let y = was-snapshot j v hv in
      let owners = ap (λ (w : Snapshot). w.owner) x.is ∙ so ∙ sym (ap (λ (w : Snapshot). w.owner) y.is) in
      let names = ap (λ (w : Snapshot). w.short) x.is ∙ ss ∙ sym (ap (λ (w : Snapshot). w.short) y.is) in
      short i j x.value y.value x.there y.there (moves m x.value) (moves m y.value) refl refl owners names;
  bookmark_owners = λ i b hb. still-head b.owner (a.bookmark_owners i b (sym (bookmarks i) ∙ hb));
  bookmark_shorts = λ i j b c hb hc. a.bookmark_shorts i j b c (sym (bookmarks i) ∙ hb) (sym (bookmarks j) ∙ hc);
  origins = λ i o d hi ho. let x = was-head i d hi in still o (origin o x.value (nat_eq x.value.id m.clone) (nat_eq x.value.id m.owner) i x.there (ap (λ (v : Head). v.origin) x.is ∙ ho));
  deferred = λ i u hu hd. let x = was-snapshot i u hu in elim (a.deferred i x.value x.there (ap (λ (v : Snapshot). v.deferred) x.is ∙ hd)) [
    | inl held ↦ inl (λ e. held (ap (λ (v : Snapshot). v.holds) x.is ∙ e))
    | inr c ↦ inr (clone i c)
  ];
}
  where
    was-some : (i : ℕ) → IsSome (new i) → IsSome (look i)
    was-some i h = go (look i) (subst (λ (o : Option Item). IsSome o) (same i) h)
      where
        go : (o : Option Item) → IsSome (option_map (after (promoted m)) o) → IsSome o
        go None k = k
        go (Some r) k = refl

    bookmarks : (i : ℕ) → bookmark_in new i ≡ bookmark_in look i
    bookmarks i = ap (option_and_then as_bookmark) (same i) ∙ bookmarks-after m (look i)

    was-head : (i : ℕ) (d : Head) → head_in new i ≡ Some d → From (new_head m) (head_in look i) d
    was-head i d e = from-map (new_head m) (head_in look i) d (sym (ap (option_and_then as_head) (same i) ∙ heads-after m (look i)) ∙ e)

    was-snapshot : (i : ℕ) (s : Snapshot) → snapshot_in new i ≡ Some s → From (new_snapshot m) (snapshot_in look i) s
    was-snapshot i s e = from-map (new_snapshot m) (snapshot_in look i) s (sym (ap (option_and_then as_snapshot) (same i) ∙ snapshots-after m (look i)) ∙ e)

    now-head : (i : ℕ) (d : Head) → head_in look i ≡ Some d → head_in new i ≡ Some (new_head m d)
    now-head i d e = ap (option_and_then as_head) (same i) ∙ heads-after m (look i) ∙ ap (option_map (new_head m)) e

    parent : (n : List ℕ) → HasParent look n → HasParent new n
    parent n h = let f = h.filesystem in record { parent = h.parent; is = h.is; filesystem = record { id = f.id; head = new_head m f.head; there = now-head f.id f.head f.there; named = f.named; kind = f.kind } }

    still-head : (k : ℕ) → IsSome (head_in look k) → IsSome (head_in new k)
    still-head k h = go (head_in look k) refl h
      where
        go : (o : Option Head) → head_in look k ≡ o → IsSome o → IsSome (head_in new k)
        go None e s = cc
        go (Some d) e s = ap is_some (now-head k d e)

    still : (k : ℕ) → IsSome (snapshot_in look k) → IsSome (snapshot_in new k)
    still k h = go (snapshot_in look k) refl h
      where
        go : (o : Option Snapshot) → snapshot_in look k ≡ o → IsSome o → IsSome (snapshot_in new k)
        go None e s = cc
        go (Some d) e s = ap is_some (ap (option_and_then as_snapshot) (same k) ∙ snapshots-after m (look k) ∙ ap (option_map (new_snapshot m)) e)

    owner : (b : Bool) (k : ℕ) → IsSome (head_in look k) → IsSome (head_in new (cond b m.clone k))
    owner true k h = still-head m.clone (ap is_some p.clone_there)
    owner false k h = still-head k h

    moved-owner : (s : Snapshot) → moves m s ≡ true → s.owner ≡ m.owner
    moved-owner s e = eqb-true s.owner m.owner (and_parts (nat_eq s.owner m.owner) (nat_le s.id m.origin) e).0

    short : (i j : ℕ) (s u : Snapshot) → snapshot_in look i ≡ Some s → snapshot_in look j ≡ Some u → (b c : Bool) → moves m s ≡ b → moves m u ≡ c → cond b m.clone s.owner ≡ cond c m.clone u.owner → s.short ≡ u.short → i ≡ j
    short i j s u hs hu true true eb ec o n = a.shorts i j s u hs hu (moved-owner s eb ∙ sym (moved-owner u ec)) n
    short i j s u hs hu true false eb ec o n = absurd (p.free i j s u hs eb hu (sym o) (sym n))
    short i j s u hs hu false true eb ec o n = absurd (p.free j i u s hu ec hs o n)
    short i j s u hs hu false false eb ec o n = a.shorts i j s u hs hu o n

    origin : (o : ℕ) (d : Head) (b c : Bool) (i : ℕ) → head_in look i ≡ Some d → cond b m.owner_origin (cond c (Some m.origin) d.origin) ≡ Some o → IsSome (snapshot_in look o)
    origin o d true c i hd e = a.origins m.owner o p.old p.old_there (p.old_origin ∙ e)
    origin o d false true i hd e = let is : m.origin ≡ o = cc in subst (λ k. IsSome (snapshot_in look k)) is p.snapshot
    origin o d false false i hd e = a.origins i o d hd e

    some-same : {A : Type 0} {a b : A} → Some a ≡ Some b → a ≡ b
    some-same h = cc

    at-clone : (k : ℕ) (d : Head) → head_in look k ≡ Some d → d.id ≡ m.clone → d ≡ p.clone
    at-clone k d h e = some-same (sym h ∙ ap (head_in look) (sym (p.ids k d h) ∙ e) ∙ p.clone_there)

    at-owner : (k : ℕ) (d : Head) → head_in look k ≡ Some d → d.id ≡ m.owner → d ≡ p.old
    at-owner k d h e = some-same (sym h ∙ ap (head_in look) (sym (p.ids k d h) ∙ e) ∙ p.old_there)

    by-old : (i : ℕ) → m.origin ≡ i → HasClone new i
    by-old i is = record {
      id = m.owner;
      head = new_head m p.old;
      there = now-head m.owner p.old p.old_there;
      origin = elim (cases_eq p.old.id m.clone) [
        | inl e ↦ let both : p.old ≡ p.clone = at-clone m.owner p.old p.old_there e in ap (λ b. cond b m.owner_origin (cond (nat_eq p.old.id m.owner) (Some m.origin) p.old.origin)) (eq-eqb p.old.id m.clone e) ∙ sym p.old_origin ∙ ap (λ (v : Head). v.origin) both ∙ p.clone_origin ∙ ap Some is
        | inr e ↦ ap (λ b. cond b m.owner_origin (cond (nat_eq p.old.id m.owner) (Some m.origin) p.old.origin)) (ne_eqb p.old.id m.clone e) ∙ ap (λ b. cond b (Some m.origin) p.old.origin) (eq-eqb p.old.id m.owner (p.ids m.owner p.old p.old_there)) ∙ ap Some is
      ];
    }

    clone : (i : ℕ) → HasClone look i → HasClone new i
    clone i c = elim (cases_eq c.head.id m.clone) [
      | inl e ↦ let head : c.head ≡ p.clone = at-clone c.id c.head c.there e in let is : m.origin ≡ i = (let x = p.clone_origin in let y : p.clone.origin ≡ Some i = sym (ap (λ (v : Head). v.origin) head) ∙ c.origin in some-same (sym x ∙ y)) in by-old i is
      | inr e ↦ elim (cases_eq c.head.id m.owner) [
        | inl f ↦ let head : c.head ≡ p.old = at-owner c.id c.head c.there f in
            record { id = m.clone; head = new_head m p.clone; there = now-head m.clone p.clone p.clone_there; origin = ap (λ b. cond b m.owner_origin (cond (nat_eq p.clone.id m.owner) (Some m.origin) p.clone.origin)) (eq-eqb p.clone.id m.clone (p.ids m.clone p.clone p.clone_there)) ∙ sym p.old_origin ∙ sym (ap (λ (v : Head). v.origin) head) ∙ c.origin }
        | inr f ↦ record { id = c.id; head = new_head m c.head; there = now-head c.id c.head c.there; origin = ap (λ b. cond b m.owner_origin (cond (nat_eq c.head.id m.owner) (Some m.origin) c.head.origin)) (ne_eqb c.head.id m.clone e) ∙ ap (λ b. cond b (Some m.origin) c.head.origin) (ne_eqb c.head.id m.owner f) ∙ c.origin }
      ]
    ]
