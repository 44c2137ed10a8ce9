-- Records that go, and what the others say of each other.
use Rattle.std.proofs.Common.{◌≡◌, ℕ, List, [], true, false, Option, Some, None, IsSome, is_some, refl, sym, ap, subst, ◌∙◌, inl, inr, ◌⊎◌, option_and_then}
use Rattle.std.proofs.lemmas.Bool.{cases_eq, true≢false}
use Rattle.zp_names.specs.NameParts.{is_pool, parent_of}
use Rattle.zp_tree.specs.declared.item.Item.{Item}
use Rattle.zp_tree.specs.declared.item.Head.{Head}
use Rattle.zp_tree.specs.declared.item.Snapshot.{Snapshot}
use Rattle.zp_tree.specs.declared.item.Bookmark.{Bookmark}
use Rattle.zp_tree.specs.Tree.{as_head, as_snapshot, as_bookmark}
use Rattle.zp_tree.specs.WellFormed.{Look, head_in, snapshot_in, bookmark_in, HasParent, HasClone, Agrees}
use Rattle.zp_tree.proofs.Changing.{same-parent, same-clone}

-- what is there was there before
abbrev pub IsLess : Look → Look → Type 0
IsLess look next = (i : ℕ) (r : Item) → next i ≡ Some r → look i ≡ Some r

pub part-less : {A : Type 0} (part : Item → Option A) (look next : Look) (i : ℕ) (a : A) → IsLess look next → option_and_then part (next i) ≡ Some a → option_and_then part (look i) ≡ Some a
part-less {A} part look next i a less e = go (next i) refl e
  where
    go : (o : Option Item) → next i ≡ o → option_and_then part o ≡ Some a → option_and_then part (look i) ≡ Some a
    go None f g = cc
    go (Some r) f g = ap (option_and_then part) (less i r f) ∙ g

some-less : (look next : Look) (i : ℕ) → IsLess look next → IsSome (next i) → IsSome (look i)
some-less look next i less h = go (next i) refl h
  where
    go : (o : Option Item) → next i ≡ o → IsSome o → IsSome (look i)
    go None f g = cc
    go (Some r) f g = ap is_some (less i r f)

-- what is left to show where records go
pub record Stands (look next : Look) : Type 0 where
  pub heads_left : (i : ℕ) (d : Head) → head_in next i ≡ Some d → HasParent look d.name → HasParent next d.name
  pub owners_left : (i : ℕ) (s : Snapshot) → snapshot_in next i ≡ Some s → IsSome (head_in look s.owner) → IsSome (head_in next s.owner)
  pub bookmark_owners_left : (i : ℕ) (m : Bookmark) → bookmark_in next i ≡ Some m → IsSome (head_in look m.owner) → IsSome (head_in next m.owner)
  pub origins_left : (i o : ℕ) (d : Head) → head_in next i ≡ Some d → d.origin ≡ Some o → IsSome (snapshot_in look o) → IsSome (snapshot_in next o)
  pub clones_left : (i : ℕ) (s : Snapshot) → snapshot_in next i ≡ Some s → s.deferred ≡ true → HasClone look i → (¬ (s.holds ≡ [])) ⊎ HasClone next i

pub agrees-less : (look next : Look) → IsLess look next → (a : Agrees look) → head_in next a.pool.id ≡ head_in look a.pool.id → Stands look next → Agrees next
agrees-less look next less a pool left = record {
  records = λ i r h. a.records i r (less i r h);
  pool = record { id = a.pool.id; head = a.pool.head; there = pool ∙ a.pool.there; part = a.pool.part; first = λ i h. a.pool.first i (some-less look next i less h) };
  names = λ i j d e hi hj. a.names i j d e (part-less as_head look next i d less hi) (part-less as_head look next j e less hj);
  parents = λ i d h. elim (a.parents i d (part-less as_head look next i d less h)) [ inl root ↦ inl root | inr p ↦ inr (left.heads_left i d h p) ];
  owners = λ i s h. left.owners_left i s h (a.owners i s (part-less as_snapshot look next i s less h));
  shorts = λ i j s u hs hu. a.shorts i j s u (part-less as_snapshot look next i s less hs) (part-less as_snapshot look next j u less hu);
  bookmark_owners = λ i m h. left.bookmark_owners_left i m h (a.bookmark_owners i m (part-less as_bookmark look next i m less h));
  bookmark_shorts = λ i j m n hm hn. a.bookmark_shorts i j m n (part-less as_bookmark look next i m less hm) (part-less as_bookmark look next j n less hn);
  origins = λ i o d h e. left.origins_left i o d h e (a.origins i o d (part-less as_head look next i d less h) e);
  deferred = λ i s h e. elim (a.deferred i s (part-less as_snapshot look next i s less h) e) [ inl held ↦ inl held | inr clone ↦ left.clones_left i s h e clone ];
}

-- ---- all heads stay

pub agrees-heads-stay : (look next : Look) → IsLess look next → Agrees look → ((i : ℕ) → head_in next i ≡ head_in look i) →
    ((i o : ℕ) (d : Head) → head_in next i ≡ Some d → d.origin ≡ Some o → IsSome (snapshot_in look o) → IsSome (snapshot_in next o)) → Agrees next
agrees-heads-stay look next less a heads origins = agrees-less look next less a (heads a.pool.id) (record {
  heads_left = λ i d h p. same-parent look next d.name heads p;
  owners_left = λ i s h some. subst (λ o. IsSome o) (sym (heads s.owner)) some;
  bookmark_owners_left = λ i m h some. subst (λ o. IsSome o) (sym (heads m.owner)) some;
  origins_left = origins;
  clones_left = λ i s h e clone. inr (same-clone look next i heads clone);
})

-- ---- one head goes

-- a head that nothing depends on but clones of its origin
pub record IsAlone (look : Look) (d : Head) : Type 0 where
  pub there : head_in look d.id ≡ Some d
  pub part : is_pool d.name ≡ false
  pub childless : (i : ℕ) (e : Head) → head_in look i ≡ Some e → parent_of e.name ≡ Some d.name → ⊥
  pub without_snapshots : (i : ℕ) (s : Snapshot) → snapshot_in look i ≡ Some s → s.owner ≡ d.id → ⊥
  pub without_marks : (i : ℕ) (m : Bookmark) → bookmark_in look i ≡ Some m → m.owner ≡ d.id → ⊥

pub agrees-head-gone : (look next : Look) (d : Head) → IsLess look next → Agrees look → IsAlone look d → ((i : ℕ) → (i ≡ d.id → ⊥) → head_in next i ≡ head_in look i) →
    ((i o : ℕ) (e : Head) → head_in next i ≡ Some e → e.origin ≡ Some o → IsSome (snapshot_in look o) → IsSome (snapshot_in next o)) →
    ((i : ℕ) (s : Snapshot) → snapshot_in next i ≡ Some s → s.deferred ≡ true → d.origin ≡ Some i → (¬ (s.holds ≡ [])) ⊎ HasClone next i) → Agrees next
agrees-head-gone look next d less a alone heads origins kept = agrees-less look next less a pool-stays (record {
  heads_left = λ i e h p. parent-stays e.name (λ is. alone.childless i e (part-less as_head look next i e less h) is) p;
  owners_left = λ i s h some. still s.owner (alone.without_snapshots i s (part-less as_snapshot look next i s less h)) some;
  bookmark_owners_left = λ i m h some. still m.owner (alone.without_marks i m (part-less as_bookmark look next i m less h)) some;
  origins_left = origins;
  clones_left = λ i s h e clone. elim (cases_eq clone.id d.id) [
    | inl same ↦ kept i s h e (ap (λ (v : Head). v.origin) (it clone.id clone.head same clone.there) ∙ clone.origin)
    | inr other ↦ inr (record { id = clone.id; head = clone.head; there = heads clone.id other ∙ clone.there; origin = clone.origin })
  ];
})
  where
    it : (i : ℕ) (e : Head) → i ≡ d.id → head_in look i ≡ Some e → d ≡ e
    it i e same h = let is : Some d ≡ Some e = sym (ap (head_in look) same ∙ alone.there) ∙ h in cc

    pool-stays : head_in next a.pool.id ≡ head_in look a.pool.id
    pool-stays = heads a.pool.id (λ same. true≢false (sym a.pool.part ∙ ap (λ (v : Head). is_pool v.name) (sym (it a.pool.id a.pool.head same a.pool.there)) ∙ alone.part))

    still : (i : ℕ) → (i ≡ d.id → ⊥) → IsSome (head_in look i) → IsSome (head_in next i)
    still i other some = subst (λ o. IsSome o) (sym (heads i other)) some

    parent-stays : (name : List ℕ) → (parent_of name ≡ Some d.name → ⊥) → HasParent look name → HasParent next name
    parent-stays name other p =
        let f = p.filesystem in
        let apart : f.id ≡ d.id → ⊥ = λ same. other (p.is ∙ ap Some (sym f.named ∙ ap (λ (v : Head). v.name) (sym (it f.id f.head same f.there)))) in
        record { parent = p.parent; is = p.is; filesystem = record { id = f.id; head = f.head; there = heads f.id apart ∙ f.there; named = f.named; kind = f.kind } }
