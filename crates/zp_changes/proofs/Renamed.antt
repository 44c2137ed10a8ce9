-- What becomes of each record when a dataset is renamed, and that the records then agree.
use Rattle.std.proofs.Common.{◌≡◌, ℕ, List, Bool, true, false, cond, Option, Some, None, IsSome, is_some, refl, sym, ap, subst, ◌∙◌, inl, inr, option_map, option_and_then, unwrap_or}
use Rattle.zp_names.specs.Names.{is_valid_name, is_head}
use Rattle.zp_names.specs.NameParts.{is_pool}
use Rattle.zp_names.specs.NameMoves.{is_at_or_below, moved, name_after}
use Rattle.zp_tree.specs.declared.item.Item.{Item}
use Rattle.zp_tree.specs.declared.item.Item.TheVariants as item
use Rattle.zp_tree.specs.declared.item.Head.{Head}
use Rattle.zp_tree.specs.Tree.{as_head, as_snapshot, as_bookmark}
use Rattle.zp_tree.specs.WellFormed.{Look, head_in, snapshot_in, bookmark_in, IsHead, IsRecord, HasParent, HasClone, Agrees, user_settings}
use Rattle.zp_tree.specs.Rename.{renamed}
use Rattle.zp_changes.proofs.Changed.{after}
use Rattle.zp_changes.proofs.Promoted.{From, from-map}

-- ---- each record

abbrev pub new_head : List ℕ → List ℕ → Head → Head
new_head name to d = record d { name = name_after name to d.name }

pub after-head : (name to : List ℕ) (d : Head) → after (renamed name to) (item.Head d) ≡ item.Head (new_head name to d)
after-head name to d = split (is_at_or_below d.name name)
  where
    split : (b : Bool) → unwrap_or (cond b (Some (item.Head (record d { name = moved name to d.name }))) None) (item.Head d) ≡ item.Head (record d { name = cond b (moved name to d.name) d.name })
    split true = refl
    split false = refl

pub heads-after : (name to : List ℕ) (o : Option Item) → option_and_then as_head (option_map (after (renamed name to)) o) ≡ option_map (new_head name to) (option_and_then as_head o)
heads-after name to None = refl
heads-after name to (Some (item.Head d)) = ap as_head (after-head name to d)
heads-after name to (Some (item.Snap s)) = refl
heads-after name to (Some (item.Mark m)) = refl

snapshots-after : (name to : List ℕ) (o : Option Item) → option_and_then as_snapshot (option_map (after (renamed name to)) o) ≡ option_and_then as_snapshot o
snapshots-after name to None = refl
snapshots-after name to (Some (item.Head d)) = ap as_snapshot (after-head name to d)
snapshots-after name to (Some (item.Snap s)) = refl
snapshots-after name to (Some (item.Mark m)) = refl

bookmarks-after : (name to : List ℕ) (o : Option Item) → option_and_then as_bookmark (option_map (after (renamed name to)) o) ≡ option_and_then as_bookmark o
bookmarks-after name to None = refl
bookmarks-after name to (Some (item.Head d)) = ap as_bookmark (after-head name to d)
bookmarks-after name to (Some (item.Snap s)) = refl
bookmarks-after name to (Some (item.Mark m)) = refl

pub settings-after : (name to : List ℕ) (r : Item) → user_settings (after (renamed name to) r) ≡ user_settings r
settings-after name to (item.Head d) = ap user_settings (after-head name to d)
settings-after name to (item.Snap s) = refl
settings-after name to (item.Mark m) = refl

-- ---- all of them

-- what a rename rests on
pub record IsRename (look new : Look) (name to : List ℕ) : Type 0 where
  pub valid : (i : ℕ) (d : Head) → head_in look i ≡ Some d → is_valid_name (name_after name to d.name) ≡ true
  pub form : (i : ℕ) (d : Head) → head_in look i ≡ Some d → is_head (name_after name to d.name) ≡ true
  pub root : (d : Head) → is_pool d.name ≡ true → name_after name to d.name ≡ d.name
  pub apart : (i j : ℕ) (d e : Head) → head_in look i ≡ Some d → head_in look j ≡ Some e → name_after name to d.name ≡ name_after name to e.name → d.name ≡ e.name
  pub parents : (i : ℕ) (d : Head) → head_in look i ≡ Some d → HasParent look d.name → HasParent new (name_after name to d.name)

pub agrees-renamed : (look new : Look) (name to : List ℕ) → ((i : ℕ) → new i ≡ option_map (after (renamed name to)) (look i)) → Agrees look → IsRename look new name to → Agrees new
agrees-renamed look new name to same a p = record {
  records = λ i r h. (let x = from-map (after (renamed name to)) (look i) r (sym (same i) ∙ h) in subst IsRecord x.is (good i x.value x.there));
  pool = record {
    id = a.pool.id;
    head = new_head name to a.pool.head;
    there = now-head a.pool.id a.pool.head a.pool.there;
    part = ap is_pool (p.root a.pool.head a.pool.part) ∙ a.pool.part;
    first = λ i h. a.pool.first i (was-some i h);
  };
  names = λ i j d e hi hj eq. (let x = was-head i d hi in let y = was-head j e hj in
      a.names i j x.value y.value x.there y.there (p.apart i j x.value y.value x.there y.there (ap (λ (v : Head). v.name) x.is ∙ eq ∙ sym (ap (λ (v : Head). v.name) y.is))));
  parents = λ i d hi. (let x = was-head i d hi in elim (a.parents i x.value x.there) [ inl root ↦ inl root | inr h ↦ inr (subst (HasParent new) (ap (λ (v : Head). v.name) x.is) (p.parents i x.value x.there h)) ]);
  owners = λ i s hs. still-head s.owner (a.owners i s (sym (snapshots i) ∙ hs));
  shorts = λ i j s u hs hu. a.shorts i j s u (sym (snapshots i) ∙ hs) (sym (snapshots j) ∙ hu);
  bookmark_owners = λ i m hm. still-head m.owner (a.bookmark_owners i m (sym (bookmarks i) ∙ hm));
  bookmark_shorts = λ i j m o hm ho. a.bookmark_shorts i j m o (sym (bookmarks i) ∙ hm) (sym (bookmarks j) ∙ ho);
  origins = λ i o d hi ho. (let x = was-head i d hi in subst (λ q. IsSome q) (sym (snapshots o)) (a.origins i o x.value x.there (ap (λ (v : Head). v.origin) x.is ∙ ho)));
  deferred = λ i s hs hd. elim (a.deferred i s (sym (snapshots i) ∙ hs) hd) [ inl held ↦ inl held | inr c ↦ inr (clone i c) ];
}
  where
    snapshots : (i : ℕ) → snapshot_in new i ≡ snapshot_in look i
    snapshots i = ap (option_and_then as_snapshot) (same i) ∙ snapshots-after name to (look i)

    bookmarks : (i : ℕ) → bookmark_in new i ≡ bookmark_in look i
    bookmarks i = ap (option_and_then as_bookmark) (same i) ∙ bookmarks-after name to (look i)

    was-some : (i : ℕ) → IsSome (new i) → IsSome (look i)
    was-some i h = go (look i) (subst (λ (o : Option Item). IsSome o) (same i) h)
      where
        go : (o : Option Item) → IsSome (option_map (after (renamed name to)) o) → IsSome o
        go None k = k
        go (Some r) k = refl

    was-head : (i : ℕ) (d : Head) → head_in new i ≡ Some d → From (new_head name to) (head_in look i) d
    was-head i d e = from-map (new_head name to) (head_in look i) d (sym (ap (option_and_then as_head) (same i) ∙ heads-after name to (look i)) ∙ e)

    now-head : (i : ℕ) (d : Head) → head_in look i ≡ Some d → head_in new i ≡ Some (new_head name to d)
    now-head i d e = ap (option_and_then as_head) (same i) ∙ heads-after name to (look i) ∙ ap (option_map (new_head name to)) e

    good : (i : ℕ) (r : Item) → look i ≡ Some r → IsRecord (after (renamed name to) r)
    good i (item.Head d) h =
        let k : IsHead d = a.records i (item.Head d) h in
        let there = ap (option_and_then as_head) h in
        subst IsRecord (sym (after-head name to d)) (record { name = p.valid i d there; form = p.form i d there; settings = k.settings; size = k.size })
    good i (item.Snap s) h = a.records i (item.Snap s) h
    good i (item.Mark m) h = a.records i (item.Mark m) h

    still-head : (k : ℕ) → IsSome (head_in look k) → IsSome (head_in new k)
    still-head k h = go (head_in look k) refl h
      where
        go : (o : Option Head) → head_in look k ≡ o → IsSome o → IsSome (head_in new k)
        go None e s = cc
        go (Some d) e s = ap is_some (now-head k d e)

    clone : (i : ℕ) → HasClone look i → HasClone new i
    clone i c = record { id = c.id; head = new_head name to c.head; there = now-head c.id c.head c.there; origin = c.origin }

-- where a head is after a rename
pub head-now : (look new : Look) (name to : List ℕ) → ((i : ℕ) → new i ≡ option_map (after (renamed name to)) (look i)) → (i : ℕ) (d : Head) → head_in look i ≡ Some d → head_in new i ≡ Some (new_head name to d)
head-now look new name to same i d e = ap (option_and_then as_head) (same i) ∙ heads-after name to (look i) ∙ ap (option_map (new_head name to)) e
