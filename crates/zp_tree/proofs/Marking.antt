-- A well-formed tree with one bookmark more, and what stands under a bookmark's name.
use Rattle.std.proofs.Common.{◌≡◌, ℕ, ◌≤◌, List, ◌∷◌, ◌++◌, true, false, Option, Some, None, IsSome, refl, sym, ap, subst, ◌∙◌, inl, inr, bytes_eq, option_map, option_and_then}
use Rattle.std.proofs.lemmas.Bool.{true≢false}
use Rattle.std.proofs.lemmas.Slice.Eq.{bytes_eq-Decides}
use Rattle.zp_names.specs.Names.{is_valid_short}
use Rattle.zp_names.specs.NameParts.{bookmark_name}
use Rattle.zp_tree.specs.declared.item.Item.{Item}
use Rattle.zp_tree.specs.declared.item.Item.TheVariants as item
use Rattle.zp_tree.specs.declared.item.Head.{Head}
use Rattle.zp_tree.specs.declared.item.Bookmark.{Bookmark}
use Rattle.zp_tree.specs.Tree.{Tree, at, has_id, as_head, as_snapshot, as_bookmark, head_name, is_text, is_called, exists}
use Rattle.zp_tree.specs.WellFormed.{Look, head_in, bookmark_in, IsRecord, Agrees}
use Rattle.zp_tree.proofs.Looks.{find-some}
use Rattle.zp_tree.proofs.Edits.{edit, edit-cases}
use Rattle.zp_tree.proofs.Adding.{stays-some, keep-parent, keep-clone, whole-cases, keep-pool}

-- a bookmark of a head comes at a free id, with a short name that no other bookmark of the head has
pub agrees-bookmark : (look : Look) (n : ℕ) (m : Bookmark) → look n ≡ None → (a : Agrees look) → a.pool.id ≤ n → is_valid_short m.short ≡ true →
    IsSome (head_in look m.owner) →
    ((i : ℕ) (b : Bookmark) → bookmark_in look i ≡ Some b → b.owner ≡ m.owner → b.short ≡ m.short → ⊥) →
    Agrees (edit look n (Some (item.Mark m)))
agrees-bookmark look n m free a le good owner new = record {
  records = λ i r h. elim (whole-cases look n x i r h) [ inl q ↦ subst IsRecord (let is : Some y ≡ Some r = q.1 in let it : y ≡ r = cc in it) good | inr q ↦ a.records i r q.1 ];
  pool = keep-pool look n y free a.pool le;
  names = λ i j e f hi hj same. elim (edit-cases as_head look n x i e hi) [ inl q ↦ let is = q.1 in cc | inr p ↦ elim (edit-cases as_head look n x j f hj) [ inl q ↦ let is = q.1 in cc | inr q ↦ a.names i j e f p.1 q.1 same ] ];
  parents = λ i e hi. elim (edit-cases as_head look n x i e hi) [
    | inl q ↦ let is = q.1 in cc
    | inr q ↦ elim (a.parents i e q.1) [ inl root ↦ inl root | inr p ↦ inr (keep-parent look n y e.name free p) ]
  ];
  owners = λ i s hs. elim (edit-cases as_snapshot look n x i s hs) [ inl q ↦ let is = q.1 in cc | inr q ↦ stays-some as_head look n y s.owner free (a.owners i s q.1) ];
  shorts = λ i j s u hs hu. elim (edit-cases as_snapshot look n x i s hs) [ inl q ↦ let is = q.1 in cc | inr q ↦ elim (edit-cases as_snapshot look n x j u hu) [ inl r ↦ let is = r.1 in cc | inr r ↦ a.shorts i j s u q.1 r.1 ] ];
  bookmark_owners = λ i b hb. elim (edit-cases as_bookmark look n x i b hb) [
    | inl q ↦ stays-some as_head look n y b.owner free (subst (λ (v : Bookmark). IsSome (head_in look v.owner)) (it b q.1) owner)
    | inr q ↦ stays-some as_head look n y b.owner free (a.bookmark_owners i b q.1)
  ];
  bookmark_shorts = λ i j b c hb hc so ss. elim (edit-cases as_bookmark look n x i b hb) [
    | inl p ↦ elim (edit-cases as_bookmark look n x j c hc) [
      | inl q ↦ p.0 ∙ sym q.0
      | inr q ↦ absurd (new j c q.1 (sym so ∙ ap (λ (w : Bookmark). w.owner) (sym (it b p.1))) (sym ss ∙ ap (λ (w : Bookmark). w.short) (sym (it b p.1))))
    ]
    | inr p ↦ elim (edit-cases as_bookmark look n x j c hc) [
      | inl q ↦ absurd (new i b p.1 (so ∙ ap (λ (w : Bookmark). w.owner) (sym (it c q.1))) (ss ∙ ap (λ (w : Bookmark). w.short) (sym (it c q.1))))
      | inr q ↦ a.bookmark_shorts i j b c p.1 q.1 so ss
    ]
  ];
  origins = λ i o e hi ho. elim (edit-cases as_head look n x i e hi) [ inl q ↦ let is = q.1 in cc | inr q ↦ stays-some as_snapshot look n y o free (a.origins i o e q.1 ho) ];
  deferred = λ i s hs hd. elim (edit-cases as_snapshot look n x i s hs) [ inl q ↦ let is = q.1 in cc | inr q ↦ elim (a.deferred i s q.1 hd) [ inl held ↦ inl held | inr clone ↦ inr (keep-clone look n y i free clone) ] ];
}
  where
    y : Item
    y = item.Mark m

    x : Option Item
    x = Some y

    it : (b : Bookmark) → Some m ≡ Some b → m ≡ b
    it b is = cc

pub is-bookmark : (o : Option Item) (m : Bookmark) → option_and_then as_bookmark o ≡ Some m → o ≡ Some (item.Mark m)
is-bookmark None m e = cc
is-bookmark (Some (item.Head d)) m e = cc
is-bookmark (Some (item.Snap s)) m e = cc
is-bookmark (Some (item.Mark f)) m e = let is : f ≡ m = cc in ap (λ (v : Bookmark). Some (item.Mark v)) is

-- where a bookmark's name is free, the head has no bookmark of that short name
pub free-mark : (t : Tree) (head short : List ℕ) (d : Head) (owner i : ℕ) (m : Bookmark) → exists t (bookmark_name head short) ≡ false → head_in (at t.records) owner ≡ Some d → d.name ≡ head → bookmark_in (at t.records) i ≡ Some m → m.owner ≡ owner → m.short ≡ short → ⊥
free-mark t head short d owner i m free hd hn hm so ss =
    let owner_name : head_name t.records m.owner ≡ Some head = ap (head_name t.records) so ∙ ap (option_map (λ (e : Head). e.name)) hd ∙ ap Some hn in
    let text : is_called t.records (bookmark_name head short) (item.Mark m) ≡ bytes_eq (head ++ 35 ∷ m.short) (bookmark_name head short) = ap (λ o. is_text (bookmark_name head short) (option_map (λ n. n ++ 35 ∷ m.short) o)) owner_name in
    let same : head ++ 35 ∷ m.short ≡ bookmark_name head short = ap (λ r. head ++ 35 ∷ r) ss in
    true≢false (sym (find-some (is_called t.records (bookmark_name head short)) (has_id i) t.records (item.Mark m) (is-bookmark (at t.records i) m hm) (text ∙ (bytes_eq-Decides (head ++ 35 ∷ m.short) (bookmark_name head short)).1 same)) ∙ free)
