-- A well-formed tree with one record more.
use Rattle.std.proofs.Common.{◌≡◌, ℕ, ◌≤◌, List, false, cond, Option, Some, None, IsSome, sym, ap, subst, ◌∙◌, inl, inr, ◌⊎◌, option_and_then}
use Rattle.std.proofs.lemmas.Bool.{cases_eq, eq-eqb}
use Rattle.zp_tree.specs.declared.item.Item.{Item}
use Rattle.zp_tree.specs.declared.item.Item.TheVariants as item
use Rattle.zp_tree.specs.declared.item.Head.{Head}
use Rattle.zp_tree.specs.declared.item.Snapshot.{Snapshot}
use Rattle.zp_tree.specs.Tree.{as_head, as_snapshot, as_bookmark}
use Rattle.zp_tree.specs.WellFormed.{Look, head_in, snapshot_in, IsHead, IsSnapshot, IsRecord, HasPool, HasFilesystem, HasParent, HasClone, Agrees}
use Rattle.zp_tree.proofs.Edits.{edit, edit-other, edit-cases, edit-keeps}

-- what was there stays, where a record comes at a free id
pub stays : {A : Type 0} (part : Item → Option A) (look : Look) (n : ℕ) (x : Item) (i : ℕ) (a : A) → look n ≡ None → option_and_then part (look i) ≡ Some a → option_and_then part (edit look n (Some x) i) ≡ Some a
stays {A} part look n x i a free h = edit-keeps part look n (Some x) i a (λ e. taken e) h
  where
    taken : i ≡ n → ⊥
    taken e = let gone : option_and_then part (look i) ≡ None = ap (option_and_then part) (ap look e ∙ free) in let is : option_and_then part (look i) ≡ Some a = h in cc

pub stays-some : {A : Type 0} (part : Item → Option A) (look : Look) (n : ℕ) (x : Item) (i : ℕ) → look n ≡ None → IsSome (option_and_then part (look i)) → IsSome (option_and_then part (edit look n (Some x) i))
stays-some part look n x i free h = elim (cases_eq i n) [
  | inl same ↦ let gone : option_and_then part (look i) ≡ None = ap (option_and_then part) (ap look same ∙ free) in cc
  | inr other ↦ subst (λ o. IsSome (option_and_then part o)) (sym (edit-other look n (Some x) i other)) h
]

pub keep-filesystem : (look : Look) (n : ℕ) (x : Item) (p : List ℕ) → look n ≡ None → HasFilesystem look p → HasFilesystem (edit look n (Some x)) p
keep-filesystem look n x p free h = record { id = h.id; head = h.head; there = stays as_head look n x h.id h.head free h.there; named = h.named; kind = h.kind }

pub keep-parent : (look : Look) (n : ℕ) (x : Item) (name : List ℕ) → look n ≡ None → HasParent look name → HasParent (edit look n (Some x)) name
keep-parent look n x name free h = record { parent = h.parent; is = h.is; filesystem = keep-filesystem look n x h.parent free h.filesystem }

pub keep-clone : (look : Look) (n : ℕ) (x : Item) (i : ℕ) → look n ≡ None → HasClone look i → HasClone (edit look n (Some x)) i
keep-clone look n x i free h = record { id = h.id; head = h.head; there = stays as_head look n x h.id h.head free h.there; origin = h.origin }

-- the whole record at an id, after the edit
pub whole-cases : (look : Look) (n : ℕ) (o : Option Item) (i : ℕ) (r : Item) → edit look n o i ≡ Some r → ((i ≡ n) × (o ≡ Some r)) ⊎ ((i ≡ n → ⊥) × (look i ≡ Some r))
whole-cases look n o i r e = elim (cases_eq i n) [
  | inl same ↦ inl (same, sym (ap (λ b. cond b o (look i)) (eq-eqb i n same)) ∙ e)
  | inr other ↦ inr (other, sym (edit-other look n o i other) ∙ e)
]

abbrev pub keep-pool : (look : Look) (n : ℕ) (x : Item) → look n ≡ None → (p : HasPool look) → p.id ≤ n → HasPool (edit look n (Some x))
keep-pool look n x free p le = record {
  id = p.id;
  head = p.head;
  there = stays as_head look n x p.id p.head free p.there;
  part = p.part;
  first = λ i h. elim (cases_eq i n) [
    | inl same ↦ subst (λ k. p.id ≤ k) (sym same) le
    | inr other ↦ p.first i (subst (λ o. IsSome o) (edit-other look n (Some x) i other) h)
  ];
}

-- a head that agrees with the records comes at a free id, above that of the pool
pub agrees-head : (look : Look) (n : ℕ) (d : Head) → look n ≡ None → (a : Agrees look) → a.pool.id ≤ n → IsHead d →
    ((i : ℕ) (e : Head) → head_in look i ≡ Some e → e.name ≡ d.name → ⊥) →
    HasParent look d.name →
    ((o : ℕ) → d.origin ≡ Some o → IsSome (snapshot_in look o)) →
    Agrees (edit look n (Some (item.Head d)))
agrees-head look n d free a le good new parent origin = record {
  records = λ i r h. elim (whole-cases look n x i r h) [ inl q ↦ subst IsRecord (let is : Some y ≡ Some r = q.1 in let it : y ≡ r = cc in it) good | inr q ↦ a.records i r q.1 ];
  pool = keep-pool look n y free a.pool le;
  names = λ i j e f hi hj same. elim (edit-cases as_head look n x i e hi) [
    | inl p ↦ elim (edit-cases as_head look n x j f hj) [ inl q ↦ p.0 ∙ sym q.0 | inr q ↦ absurd (new j f q.1 (sym same ∙ name-of e p.1)) ]
    | inr p ↦ elim (edit-cases as_head look n x j f hj) [ inl q ↦ absurd (new i e p.1 (same ∙ name-of f q.1)) | inr q ↦ a.names i j e f p.1 q.1 same ]
  ];
  parents = λ i e hi. elim (edit-cases as_head look n x i e hi) [
    | inl q ↦ inr (keep-parent look n y e.name free (subst (λ m. HasParent look m) (sym (name-of e q.1)) parent))
    | inr q ↦ elim (a.parents i e q.1) [ inl root ↦ inl root | inr p ↦ inr (keep-parent look n y e.name free p) ]
  ];
  owners = λ i s hs. elim (edit-cases as_snapshot look n x i s hs) [ inl q ↦ let is = q.1 in cc | inr q ↦ stays-some as_head look n y s.owner free (a.owners i s q.1) ];
  shorts = λ i j s u hs hu. elim (edit-cases as_snapshot look n x i s hs) [ inl q ↦ let is = q.1 in cc | inr q ↦ elim (edit-cases as_snapshot look n x j u hu) [ inl r ↦ let is = r.1 in cc | inr r ↦ a.shorts i j s u q.1 r.1 ] ];
  bookmark_owners = λ i s hs. elim (edit-cases as_bookmark look n x i s hs) [ inl q ↦ let is = q.1 in cc | inr q ↦ stays-some as_head look n y s.owner free (a.bookmark_owners i s q.1) ];
  bookmark_shorts = λ i j s u hs hu. elim (edit-cases as_bookmark look n x i s hs) [ inl q ↦ let is = q.1 in cc | inr q ↦ elim (edit-cases as_bookmark look n x j u hu) [ inl r ↦ let is = r.1 in cc | inr r ↦ a.bookmark_shorts i j s u q.1 r.1 ] ];
  origins = λ i o e hi ho. elim (edit-cases as_head look n x i e hi) [
    | inl q ↦ stays-some as_snapshot look n y o free (origin o (let is : Some d ≡ Some e = q.1 in let it : d ≡ e = cc in ap (λ (v : Head). v.origin) it ∙ ho))
    | inr q ↦ stays-some as_snapshot look n y o free (a.origins i o e q.1 ho)
  ];
  deferred = λ i s hs hd. elim (edit-cases as_snapshot look n x i s hs) [ inl q ↦ let is = q.1 in cc | inr q ↦ elim (a.deferred i s q.1 hd) [ inl held ↦ inl held | inr clone ↦ inr (keep-clone look n y i free clone) ] ];
}
  where
    y : Item
    y = item.Head d

    x : Option Item
    x = Some y

    name-of : (e : Head) → Some d ≡ Some e → e.name ≡ d.name
    name-of e is = let it : d ≡ e = cc in ap (λ (v : Head). v.name) (sym it)

-- a snapshot of a head comes at a free id, with a short name that no other snapshot of the head has
pub agrees-snapshot : (look : Look) (n : ℕ) (s : Snapshot) → look n ≡ None → (a : Agrees look) → a.pool.id ≤ n → IsSnapshot s →
    IsSome (head_in look s.owner) →
    ((i : ℕ) (u : Snapshot) → snapshot_in look i ≡ Some u → u.owner ≡ s.owner → u.short ≡ s.short → ⊥) →
    s.deferred ≡ false →
    Agrees (edit look n (Some (item.Snap s)))
agrees-snapshot look n s free a le good owner new here = record {
  records = λ i r h. elim (whole-cases look n x i r h) [ inl q ↦ subst IsRecord (let is : Some y ≡ Some r = q.1 in let it : y ≡ r = cc in it) good | inr q ↦ a.records i r q.1 ];
  pool = keep-pool look n y free a.pool le;
  names = λ i j e f hi hj same. elim (edit-cases as_head look n x i e hi) [ inl q ↦ let is = q.1 in cc | inr p ↦ elim (edit-cases as_head look n x j f hj) [ inl q ↦ let is = q.1 in cc | inr q ↦ a.names i j e f p.1 q.1 same ] ];
  parents = λ i e hi. elim (edit-cases as_head look n x i e hi) [
    | inl q ↦ let is = q.1 in cc
    | inr q ↦ elim (a.parents i e q.1) [ inl root ↦ inl root | inr p ↦ inr (keep-parent look n y e.name free p) ]
  ];
  owners = λ i u hu. elim (edit-cases as_snapshot look n x i u hu) [
    | inl q ↦ stays-some as_head look n y u.owner free (subst (λ (v : Snapshot). IsSome (head_in look v.owner)) (it u q.1) owner)
    | inr q ↦ stays-some as_head look n y u.owner free (a.owners i u q.1)
  ];
  shorts = λ i j u v hu hv so ss. elim (edit-cases as_snapshot look n x i u hu) [
    | inl p ↦ elim (edit-cases as_snapshot look n x j v hv) [
      | inl q ↦ p.0 ∙ sym q.0
      | inr q ↦ absurd (new j v q.1 (sym so ∙ ap (λ (w : Snapshot). w.owner) (sym (it u p.1))) (sym ss ∙ ap (λ (w : Snapshot). w.short) (sym (it u p.1))))
    ]
    | inr p ↦ elim (edit-cases as_snapshot look n x j v hv) [
      | inl q ↦ absurd (new i u p.1 (so ∙ ap (λ (w : Snapshot). w.owner) (sym (it v q.1))) (ss ∙ ap (λ (w : Snapshot). w.short) (sym (it v q.1))))
      | inr q ↦ a.shorts i j u v p.1 q.1 so ss
    ]
  ];
  bookmark_owners = λ i m hm. elim (edit-cases as_bookmark look n x i m hm) [ inl q ↦ let is = q.1 in cc | inr q ↦ stays-some as_head look n y m.owner free (a.bookmark_owners i m q.1) ];
  bookmark_shorts = λ i j m o hm ho. elim (edit-cases as_bookmark look n x i m hm) [ inl q ↦ let is = q.1 in cc | inr q ↦ elim (edit-cases as_bookmark look n x j o ho) [ inl r ↦ let is = r.1 in cc | inr r ↦ a.bookmark_shorts i j m o q.1 r.1 ] ];
  origins = λ i o e hi ho. elim (edit-cases as_head look n x i e hi) [ inl q ↦ let is = q.1 in cc | inr q ↦ stays-some as_snapshot look n y o free (a.origins i o e q.1 ho) ];
  deferred = λ i u hu hd. elim (edit-cases as_snapshot look n x i u hu) [
    | inl q ↦ let no_way : u.deferred ≡ false = ap (λ (w : Snapshot). w.deferred) (sym (it u q.1)) ∙ here in cc
    | inr q ↦ elim (a.deferred i u q.1 hd) [ inl held ↦ inl held | inr clone ↦ inr (keep-clone look n y i free clone) ]
  ];
}
  where
    y : Item
    y = item.Snap s

    x : Option Item
    x = Some y

    it : (u : Snapshot) → Some s ≡ Some u → s ≡ u
    it u is = cc
