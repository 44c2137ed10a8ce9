-- A well-formed tree in which one record changes.
use Rattle.std.proofs.Common.{◌≡◌, ℕ, List, [], true, cond, Option, Some, IsSome, is_some, refl, sym, ap, subst, ◌∙◌, inl, inr, ◌⊎◌, option_and_then}
use Rattle.std.proofs.lemmas.Bool.{cases_eq, eq-eqb}
use Rattle.zp_names.specs.NameParts.{is_pool}
use Rattle.zp_tree.specs.declared.item.Item.{Item}
use Rattle.zp_tree.specs.declared.item.Item.TheVariants as item
use Rattle.zp_tree.specs.declared.item.Head.{Head}
use Rattle.zp_tree.specs.declared.item.Snapshot.{Snapshot}
use Rattle.zp_tree.specs.Tree.{as_head, as_snapshot, as_bookmark}
use Rattle.zp_tree.specs.WellFormed.{Look, head_in, snapshot_in, bookmark_in, IsHead, IsSnapshot, IsRecord, HasFilesystem, HasParent, HasClone, Agrees}
use Rattle.zp_tree.proofs.Edits.{edit, edit-here, edit-other, edit-cases, edit-keeps}
use Rattle.zp_tree.proofs.Adding.{whole-cases}

-- a part that the old and the new record have alike is as it was everywhere
pub unmoved : {A : Type 0} (part : Item → Option A) (look : Look) (n : ℕ) (r x : Item) → look n ≡ Some r → part x ≡ part r → (i : ℕ) → option_and_then part (edit look n (Some x) i) ≡ option_and_then part (look i)
unmoved part look n r x here same i = elim (cases_eq i n) [
  | inl e ↦ ap (λ b. option_and_then part (cond b (Some x) (look i))) (eq-eqb i n e) ∙ same ∙ sym (ap (option_and_then part) (ap look e ∙ here))
  | inr o ↦ ap (option_and_then part) (edit-other look n (Some x) i o)
]

-- what is there after the edit was there before
pub was-there : (look : Look) (n : ℕ) (r x : Item) → look n ≡ Some r → (i : ℕ) → IsSome (edit look n (Some x) i) → IsSome (look i)
was-there look n r x here i h = elim (cases_eq i n) [
  | inl e ↦ ap is_some (ap look e ∙ here)
  | inr o ↦ subst (λ q. IsSome q) (edit-other look n (Some x) i o) h
]

-- ---- the heads stay

pub same-filesystem : (look next : Look) (p : List ℕ) → ((i : ℕ) → head_in next i ≡ head_in look i) → HasFilesystem look p → HasFilesystem next p
same-filesystem look next p same h = record { id = h.id; head = h.head; there = same h.id ∙ h.there; named = h.named; kind = h.kind }

pub same-parent : (look next : Look) (name : List ℕ) → ((i : ℕ) → head_in next i ≡ head_in look i) → HasParent look name → HasParent next name
same-parent look next name same h = record { parent = h.parent; is = h.is; filesystem = same-filesystem look next h.parent same h.filesystem }

pub same-clone : (look next : Look) (i : ℕ) → ((i : ℕ) → head_in next i ≡ head_in look i) → HasClone look i → HasClone next i
same-clone look next i same h = record { id = h.id; head = h.head; there = same h.id ∙ h.there; origin = h.origin }

-- ---- a head that keeps its name, its kind and its origin

record Like (look : Look) (i : ℕ) (e : Head) : Type 0 where
  head : Head
  there : head_in look i ≡ Some head
  name : head.name ≡ e.name
  kind : head.kind ≡ e.kind
  origin : head.origin ≡ e.origin

pub agrees-changed-head : (look : Look) (n : ℕ) (d e : Head) → look n ≡ Some (item.Head d) → Agrees look → IsHead e → e.name ≡ d.name → e.kind ≡ d.kind → e.origin ≡ d.origin →
    Agrees (edit look n (Some (item.Head e)))
agrees-changed-head look n d e here a good name kind origin = record {
  records = λ i r h. elim (whole-cases look n x i r h) [ inl q ↦ subst IsRecord (let is : Some y ≡ Some r = q.1 in let it : y ≡ r = cc in it) good | inr q ↦ a.records i r q.1 ];
  pool = record {
    id = a.pool.id;
    head = (after a.pool.id a.pool.head a.pool.there).head;
    there = (after a.pool.id a.pool.head a.pool.there).there;
    part = ap is_pool (after a.pool.id a.pool.head a.pool.there).name ∙ a.pool.part;
    first = λ i h. a.pool.first i (was-there look n (item.Head d) y here i h);
  };
  names = λ i j f g hi hj same. (let p = before i f hi in let q = before j g hj in a.names i j p.head q.head p.there q.there (p.name ∙ same ∙ sym q.name));
  parents = λ i f hi. (let p = before i f hi in elim (a.parents i p.head p.there) [ inl root ↦ inl root | inr h ↦ inr (still-parent f.name (subst (λ m. HasParent look m) p.name h)) ]);
  owners = λ i s hs. still-head s.owner (a.owners i s (sym (snapshots i) ∙ hs));
  shorts = λ i j s u hs hu. a.shorts i j s u (sym (snapshots i) ∙ hs) (sym (snapshots j) ∙ hu);
  bookmark_owners = λ i m hm. still-head m.owner (a.bookmark_owners i m (sym (bookmarks i) ∙ hm));
  bookmark_shorts = λ i j m o hm ho. a.bookmark_shorts i j m o (sym (bookmarks i) ∙ hm) (sym (bookmarks j) ∙ ho);
  origins = λ i o f hi ho. (let p = before i f hi in subst (λ q. IsSome q) (sym (snapshots o)) (a.origins i o p.head p.there (p.origin ∙ ho)));
  deferred = λ i s hs hd. elim (a.deferred i s (sym (snapshots i) ∙ hs) hd) [ inl held ↦ inl held | inr clone ↦ inr (still-clone i clone) ];
}
  where
    y : Item
    y = item.Head e

    x : Option Item
    x = Some y

    snapshots : (i : ℕ) → snapshot_in (edit look n x) i ≡ snapshot_in look i
    snapshots i = unmoved as_snapshot look n (item.Head d) y here refl i

    bookmarks : (i : ℕ) → bookmark_in (edit look n x) i ≡ bookmark_in look i
    bookmarks i = unmoved as_bookmark look n (item.Head d) y here refl i

    there_d : head_in look n ≡ Some d
    there_d = ap (option_and_then as_head) here

    there_e : head_in (edit look n x) n ≡ Some e
    there_e = ap (option_and_then as_head) (edit-here look n x)

    before : (i : ℕ) (f : Head) → head_in (edit look n x) i ≡ Some f → Like look i f
    before i f h = elim (edit-cases as_head look n x i f h) [
      | inl q ↦ let is : Some e ≡ Some f = q.1 in let it : e ≡ f = cc in record { head = d; there = ap (head_in look) q.0 ∙ there_d; name = sym name ∙ ap (λ (v : Head). v.name) it; kind = sym kind ∙ ap (λ (v : Head). v.kind) it; origin = sym origin ∙ ap (λ (v : Head). v.origin) it }
      | inr q ↦ record { head = f; there = q.1; name = refl; kind = refl; origin = refl }
    ]

    after : (i : ℕ) (f : Head) → head_in look i ≡ Some f → Like (edit look n x) i f
    after i f h = elim (cases_eq i n) [
      | inl same ↦ let is : Some d ≡ Some f = sym (ap (head_in look) same ∙ there_d) ∙ h in let it : d ≡ f = cc in record { head = e; there = ap (head_in (edit look n x)) same ∙ there_e; name = name ∙ ap (λ (v : Head). v.name) it; kind = kind ∙ ap (λ (v : Head). v.kind) it; origin = origin ∙ ap (λ (v : Head). v.origin) it }
      | inr other ↦ record { head = f; there = edit-keeps as_head look n x i f other h; name = refl; kind = refl; origin = refl }
    ]

    still-head : (i : ℕ) → IsSome (head_in look i) → IsSome (head_in (edit look n x) i)
    still-head i h = elim (cases_eq i n) [
      | inl same ↦ subst (λ q. IsSome q) (sym (ap (head_in (edit look n x)) same ∙ there_e)) refl
      | inr other ↦ subst (λ q. IsSome (option_and_then as_head q)) (sym (edit-other look n x i other)) h
    ]

    still-parent : (m : List ℕ) → HasParent look m → HasParent (edit look n x) m
    still-parent m h = let f = h.filesystem in let p = after f.id f.head f.there in record { parent = h.parent; is = h.is; filesystem = record { id = f.id; head = p.head; there = p.there; named = p.name ∙ f.named; kind = p.kind ∙ f.kind } }

    still-clone : (i : ℕ) → HasClone look i → HasClone (edit look n x) i
    still-clone i h = let p = after h.id h.head h.there in record { id = h.id; head = p.head; there = p.there; origin = p.origin ∙ h.origin }

-- ---- a snapshot that keeps its owner

record Behind (look : Look) (n i : ℕ) (u : Snapshot) (s : Snapshot) : Type 0 where
  snapshot : Snapshot
  there : snapshot_in look i ≡ Some snapshot
  owner : snapshot.owner ≡ u.owner
  either : ((i ≡ n) × (s ≡ u)) ⊎ ((i ≡ n → ⊥) × (snapshot ≡ u))

pub agrees-changed-snapshot : (look : Look) (n : ℕ) (r s : Snapshot) → look n ≡ Some (item.Snap r) → Agrees look → IsSnapshot s → s.owner ≡ r.owner →
    ((i : ℕ) (u : Snapshot) → snapshot_in look i ≡ Some u → (i ≡ n → ⊥) → u.owner ≡ s.owner → u.short ≡ s.short → ⊥) →
    (s.deferred ≡ true → (¬ (s.holds ≡ [])) ⊎ HasClone look n) →
    Agrees (edit look n (Some (item.Snap s)))
agrees-changed-snapshot look n r s here a good owner new why = record {
  records = λ i q h. elim (whole-cases look n x i q h) [ inl p ↦ subst IsRecord (let is : Some y ≡ Some q = p.1 in let it : y ≡ q = cc in it) good | inr p ↦ a.records i q p.1 ];
  pool = record {
    id = a.pool.id;
    head = a.pool.head;
    there = heads a.pool.id ∙ a.pool.there;
    part = a.pool.part;
    first = λ i h. a.pool.first i (was-there look n (item.Snap r) y here i h);
  };
  names = λ i j f g hi hj. a.names i j f g (sym (heads i) ∙ hi) (sym (heads j) ∙ hj);
  parents = λ i f hi. elim (a.parents i f (sym (heads i) ∙ hi)) [ inl root ↦ inl root | inr h ↦ inr (same-parent look (edit look n x) f.name heads h) ];
  owners = λ i u hu. (let p = before i u hu in subst (λ q. IsSome q) (sym (heads u.owner)) (subst (λ k. IsSome (head_in look k)) p.owner (a.owners i p.snapshot p.there)));
  shorts = λ i j u v hu hv so ss. (let p = before i u hu in let q = before j v hv in apart i j u v p q so ss);
  bookmark_owners = λ i m hm. subst (λ q. IsSome q) (sym (heads m.owner)) (a.bookmark_owners i m (sym (bookmarks i) ∙ hm));
  bookmark_shorts = λ i j m o hm ho. a.bookmark_shorts i j m o (sym (bookmarks i) ∙ hm) (sym (bookmarks j) ∙ ho);
  origins = λ i o f hi ho. still o (a.origins i o f (sym (heads i) ∙ hi) ho);
  deferred = λ i u hu hd. elim (edit-cases as_snapshot look n x i u hu) [
    | inl q ↦ let is : Some s ≡ Some u = q.1 in let it : s ≡ u = cc in elim (why (ap (λ (w : Snapshot). w.deferred) it ∙ hd)) [ inl held ↦ inl (λ e. held (ap (λ (w : Snapshot). w.holds) it ∙ e)) | inr clone ↦ inr (subst (HasClone (edit look n x)) (sym q.0) (same-clone look (edit look n x) n heads clone)) ]
    | inr q ↦ elim (a.deferred i u q.1 hd) [ inl held ↦ inl held | inr clone ↦ inr (same-clone look (edit look n x) i heads clone) ]
  ];
}
  where
    y : Item
    y = item.Snap s

    x : Option Item
    x = Some y

    heads : (i : ℕ) → head_in (edit look n x) i ≡ head_in look i
    heads i = unmoved as_head look n (item.Snap r) y here refl i

    bookmarks : (i : ℕ) → bookmark_in (edit look n x) i ≡ bookmark_in look i
    bookmarks i = unmoved as_bookmark look n (item.Snap r) y here refl i

    before : (i : ℕ) (u : Snapshot) → snapshot_in (edit look n x) i ≡ Some u → Behind look n i u s
    before i u h = elim (edit-cases as_snapshot look n x i u h) [
      | inl q ↦ let is : Some s ≡ Some u = q.1 in let it : s ≡ u = cc in record { snapshot = r; there = ap (snapshot_in look) q.0 ∙ ap (option_and_then as_snapshot) here; owner = sym owner ∙ ap (λ (w : Snapshot). w.owner) it; either = inl (q.0, it) }
      | inr q ↦ record { snapshot = u; there = q.1; owner = refl; either = inr (q.0, refl) }
    ]

    apart : (i j : ℕ) (u v : Snapshot) → Behind look n i u s → Behind look n j v s → u.owner ≡ v.owner → u.short ≡ v.short → i ≡ j
    apart i j u v p q so ss = elim p.either [
      | inl b ↦ elim q.either [
        | inl c ↦ b.0 ∙ sym c.0
        | inr c ↦ absurd (new j q.snapshot q.there c.0 (q.owner ∙ sym so ∙ ap (λ (w : Snapshot). w.owner) (sym b.1)) (ap (λ (w : Snapshot). w.short) c.1 ∙ sym ss ∙ ap (λ (w : Snapshot). w.short) (sym b.1)))
      ]
      | inr b ↦ elim q.either [
        | inl c ↦ absurd (new i p.snapshot p.there b.0 (p.owner ∙ so ∙ ap (λ (w : Snapshot). w.owner) (sym c.1)) (ap (λ (w : Snapshot). w.short) b.1 ∙ ss ∙ ap (λ (w : Snapshot). w.short) (sym c.1)))
        | inr c ↦ a.shorts i j p.snapshot q.snapshot p.there q.there (p.owner ∙ so ∙ sym q.owner) (ap (λ (w : Snapshot). w.short) b.1 ∙ ss ∙ sym (ap (λ (w : Snapshot). w.short) c.1))
      ]
    ]

    still : (o : ℕ) → IsSome (snapshot_in look o) → IsSome (snapshot_in (edit look n x) o)
    still o h = elim (cases_eq o n) [
      | inl same ↦ subst (λ q. IsSome (option_and_then as_snapshot q)) (sym (ap (edit look n x) same ∙ edit-here look n x)) refl
      | inr other ↦ subst (λ q. IsSome (option_and_then as_snapshot q)) (sym (edit-other look n x o other)) h
    ]
