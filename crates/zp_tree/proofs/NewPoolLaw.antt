-- The tree of a new pool is well formed.
use Rattle.std.proofs.Common.{◌≡◌, ℕ, ◌≤◌, List, [], ◌∷◌, Bool, true, false, not, ◌||◌, cond, Option, Some, None, IsSome, is_none, find, refl, sym, ap, subst, ◌∙◌, arith, inl, inr, option_and_then}
use Rattle.std.specs.List.{list_any}
use Rattle.std.proofs.lemmas.Bool.{cases_eq, eq-eqb, ne_eqb}
use Rattle.zp_names.specs.Names.{is_mark, is_slash, is_separator, is_head, is_valid_name}
use Rattle.zp_names.specs.NameParts.{is_pool}
use Rattle.zp_props.proofs.NoSettings.{no_settings}
use Rattle.zp_tree.specs.declared.item.Item.{Item}
use Rattle.zp_tree.specs.declared.item.Item.TheVariants as item
use Rattle.zp_tree.specs.declared.item.Head.{Head}
use Rattle.zp_tree.specs.declared.item.HeadKind.TheVariants.{Filesystem}
use Rattle.zp_tree.specs.Tree.{as_head, as_snapshot, as_bookmark, at, id_of}
use Rattle.zp_tree.specs.NewPool.{new_pool}
use Rattle.zp_tree.specs.WellFormed.{head_in, IsRecord, IsWellFormed}

-- a text without separators is without marks
pub unseparated : (t : List ℕ) → is_pool t ≡ true → is_head t ≡ true
unseparated [] h = refl
unseparated (b ∷ t) h = go (is_slash b) (is_mark b) (λ k. unseparated t k) h
  where
    rest : (c : Bool) → not (c || list_any is_separator t) ≡ true → not (list_any is_separator t) ≡ true
    rest true e = cc
    rest false e = same (list_any is_separator t) e
      where
        same : (d : Bool) → not (false || d) ≡ true → not d ≡ true
        same true e = cc
        same false e = refl

    go : (x m : Bool) → (is_pool t ≡ true → is_head t ≡ true) → not ((x || m) || list_any is_separator t) ≡ true → is_none (cond m (Some b) (find is_mark t)) ≡ true
    go true m later e = cc
    go false true later e = cc
    go false false later e = later (rest false e)

record Only (x : Item) (i : ℕ) (r : Item) : Type 0 where
  id : i ≡ id_of x
  record_is : x ≡ r

-- one record is all that a list of one has
only : (x : Item) (i : ℕ) (r : Item) → at (x ∷ []) i ≡ Some r → Only x i r
only x i r e = elim (cases_eq (id_of x) i) [
  | inl same ↦ (let is : Some x ≡ Some r = sym (ap (λ b. cond b (Some x) None) (eq-eqb (id_of x) i same)) ∙ e in record { id = sym same; record_is = cc })
  | inr other ↦ (let gone : None ≡ Some r = sym (ap (λ b. cond b (Some x) None) (ne_eqb (id_of x) i other)) ∙ e in cc)
]

record OnlyHead (d : Head) (i : ℕ) (e : Head) : Type 0 where
  id : i ≡ d.id
  head : d ≡ e

only-head : (d : Head) (i : ℕ) (e : Head) → head_in (at (item.Head d ∷ [])) i ≡ Some e → OnlyHead d i e
only-head d i e h = go (at (item.Head d ∷ []) i) refl h
  where
    go : (o : Option Item) → at (item.Head d ∷ []) i ≡ o → option_and_then as_head o ≡ Some e → OnlyHead d i e
    go None f g = cc
    go (Some r) f g = let o = only (item.Head d) i r f in
        let is : as_head (item.Head d) ≡ Some e = ap as_head o.record_is ∙ g in record { id = o.id; head = cc }

-- there is neither a snapshot nor a bookmark
none-else : {A : Type 0} (part : Item → Option A) (d : Head) (i : ℕ) (a : A) → part (item.Head d) ≡ None → option_and_then part (at (item.Head d ∷ []) i) ≡ Some a → ⊥
none-else {A} part d i a none h = go (at (item.Head d ∷ []) i) refl h
  where
    go : (o : Option Item) → at (item.Head d ∷ []) i ≡ o → option_and_then part o ≡ Some a → ⊥
    go None f g = let gone : None ≡ Some a = g in cc
    go (Some r) f g = let o = only (item.Head d) i r f in let gone : None ≡ Some a = sym none ∙ ap part o.record_is ∙ g in cc

-- the root alone is a well-formed tree
pub new-pool-well : (pool : List ℕ) → is_valid_name pool ≡ true → is_pool pool ≡ true → IsWellFormed (new_pool pool)
new-pool-well pool valid alone = record {
  rises = (omega arith, omega arith);
  agrees = record {
    records = λ i r h. subst IsRecord (only x i r h).record_is (record { name = valid; form = unseparated pool alone; settings = no_settings; size = λ v. cc });
    pool = record { id = 1; head = root; there = refl; part = alone; first = λ i h. first i (at (x ∷ []) i) refl h };
    names = λ i j d e hi hj same. (only-head root i d hi).id ∙ sym (only-head root j e hj).id;
    parents = λ i d hi. inl (only-head root i d hi).id;
    owners = λ i s hs. absurd (none-else as_snapshot root i s refl hs);
    shorts = λ i j s u hs hu. absurd (none-else as_snapshot root i s refl hs);
    bookmark_owners = λ i m hm. absurd (none-else as_bookmark root i m refl hm);
    bookmark_shorts = λ i j m n hm hn. absurd (none-else as_bookmark root i m refl hm);
    origins = λ i o d hd ho. (let none : None ≡ Some o = ap (λ (e : Head). e.origin) (only-head root i d hd).head ∙ ho in cc);
    deferred = λ i s hs hd. absurd (none-else as_snapshot root i s refl hs);
  };
  few_records = omega arith;
  few_settings = omega arith;
}
  where
    root : Head
    root = record { id = 1; name = pool; kind = Filesystem; origin = None; settings = []; stamp = 0; mounted = false; createtxg = 0 }

    x : Item
    x = item.Head root

    first : (i : ℕ) (o : Option Item) → at (x ∷ []) i ≡ o → IsSome o → 1 ≤ i
    first i None f h = cc
    first i (Some r) f h = let one : i ≡ 1 = (only x i r f).id in omega arith
