-- In a well-formed tree no two records have one full name.
use Rattle.std.proofs.Common.{◌≡◌, ℕ, List, [], ◌∷◌, ◌++◌, Bool, true, false, Option, Some, None, refl, sym, ap, ◌∙◌, option_map, option_and_then, find, is_some, is_none, cond}
use Rattle.std.proofs.lemmas.Bool.{true≢false}
use Rattle.std.proofs.lemmas.Slice.Eq.{bytes_eq-Decides}
use Rattle.zp_names.specs.Names.{is_mark, is_head}
use Rattle.zp_tree.specs.declared.item.Item.{Item}
use Rattle.zp_tree.specs.declared.item.Item.TheVariants as item
use Rattle.zp_tree.specs.declared.item.Head.{Head}
use Rattle.zp_tree.specs.Tree.{Tree, at, has_id, id_of, as_head, as_snapshot, as_bookmark, is_text, full_name, head_name, is_called, named, Finds}
use Rattle.zp_tree.specs.WellFormed.{head_in, IsHead, IsWellFormed}
use Rattle.zp_tree.proofs.Looks.{found-at, find-passes, find-some}

-- ---- a name in its parts

-- a text with a mark in it is no head's
marked : (a s : List ℕ) (x : ℕ) → is_mark x ≡ true → is_head (a ++ x ∷ s) ≡ false
marked [] s x m = ap (λ c. is_none (cond c (Some x) (find is_mark s))) m
marked (b ∷ a) s x m = later (is_mark b) (find is_mark (a ++ x ∷ s)) (marked a s x m)
  where
    later : (c : Bool) (o : Option ℕ) → is_none o ≡ false → is_none (cond c (Some b) o) ≡ false
    later true o e = refl
    later false o e = e

no-head : (n a s : List ℕ) (x : ℕ) → is_mark x ≡ true → is_head n ≡ true → n ≡ a ++ x ∷ s → ⊥
no-head n a s x m h e = true≢false (sym h ∙ ap is_head e ∙ marked a s x m)

pub record Parts (a b s t : List ℕ) (x y : ℕ) : Type 0 where
  pub front : a ≡ b
  pub mark : x ≡ y
  pub back : s ≡ t

unmarked : (b : ℕ) (a : List ℕ) → is_head (b ∷ a) ≡ true → (is_mark b ≡ false) × (is_head a ≡ true)
unmarked b a h = go (is_mark b) (find is_mark a) h
  where
    go : (c : Bool) (o : Option ℕ) → is_none (cond c (Some b) o) ≡ true → (c ≡ false) × (is_none o ≡ true)
    go true o e = cc
    go false o e = (refl, e)

-- a text falls at its first mark in one way
pub parts : (a b s t : List ℕ) (x y : ℕ) → is_mark x ≡ true → is_mark y ≡ true → is_head a ≡ true → is_head b ≡ true → a ++ x ∷ s ≡ b ++ y ∷ t → Parts a b s t x y
parts [] [] s t x y m n h k e = record { front = refl; mark = cc; back = cc }
parts [] (d ∷ b) s t x y m n h k e = let is : x ≡ d = cc in let none : is_mark x ≡ false = ap is_mark is ∙ (unmarked d b k).0 in cc
parts (c ∷ a) [] s t x y m n h k e = let is : c ≡ y = cc in let none : is_mark y ≡ false = ap is_mark (sym is) ∙ (unmarked c a h).0 in cc
parts (c ∷ a) (d ∷ b) s t x y m n h k e =
    let head : c ≡ d = cc in
    let rest : a ++ x ∷ s ≡ b ++ y ∷ t = cc in
    let p = parts a b s t x y m n (unmarked c a h).1 (unmarked d b k).1 rest in
    record { front = ap (λ z. z ∷ a) head ∙ ap (λ z. d ∷ z) p.front; mark = p.mark; back = p.back }

-- ---- the names of owners

pub record Owned (t : Tree) (owner : ℕ) (n s : List ℕ) (x : ℕ) : Type 0 where
  pub head : Head
  pub there : head_in (at t.records) owner ≡ Some head
  pub form : is_head head.name ≡ true
  pub is : head.name ++ x ∷ s ≡ n

head-form : (t : Tree) (i : ℕ) (d : Head) → IsWellFormed t → head_in (at t.records) i ≡ Some d → is_head d.name ≡ true
head-form t i d w e = go (at t.records i) refl e
  where
    is-head : (r : Item) (d : Head) → as_head r ≡ Some d → r ≡ item.Head d
    is-head (item.Head f) d e = let is : f ≡ d = cc in ap item.Head is
    is-head (item.Snap s) d e = cc
    is-head (item.Mark m) d e = cc

    go : (o : Option Item) → at t.records i ≡ o → option_and_then as_head o ≡ Some d → is_head d.name ≡ true
    go None f g = cc
    go (Some r) f g = let h : IsHead d = w.agrees.records i (item.Head d) (f ∙ ap Some (is-head r d g)) in h.form

pub owned : (t : Tree) (owner : ℕ) (n s : List ℕ) (x : ℕ) → IsWellFormed t → option_map (λ m. m ++ x ∷ s) (head_name t.records owner) ≡ Some n → Owned t owner n s x
owned t owner n s x w e = go (head_in (at t.records) owner) refl e
  where
    go : (o : Option Head) → head_in (at t.records) owner ≡ o → option_map (λ m. m ++ x ∷ s) (option_map (λ (d : Head). d.name) o) ≡ Some n → Owned t owner n s x
    go None f g = cc
    go (Some d) f g = record { head = d; there = f; form = head-form t owner d w f; is = cc }

-- owners of one full name are one, and so are the marks and the short names
record Same (i j x y : ℕ) (s u : List ℕ) : Type 0 where
  owner : i ≡ j
  mark : x ≡ y
  short : s ≡ u

same : (t : Tree) (i j : ℕ) (n s u : List ℕ) (x y : ℕ) → IsWellFormed t → is_mark x ≡ true → is_mark y ≡ true → Owned t i n s x → Owned t j n u y → Same i j x y s u
same t i j n s u x y w m k a b =
    let p = parts a.head.name b.head.name s u x y m k a.form b.form (a.is ∙ sym b.is) in
    record { owner = w.agrees.names i j a.head b.head a.there b.there p.front; mark = p.mark; short = p.back }

-- ---- the law

-- one full name, one id
pub names-unique : (t : Tree) (i j : ℕ) (r u : Item) (n : List ℕ) → IsWellFormed t → at t.records i ≡ Some r → at t.records j ≡ Some u → full_name t.records r ≡ Some n → full_name t.records u ≡ Some n → i ≡ j
names-unique t i j (item.Head d) (item.Head e) n w a b f g = w.agrees.names i j d e (ap (option_and_then as_head) a) (ap (option_and_then as_head) b) cc
names-unique t i j (item.Head d) (item.Snap v) n w a b f g =
    let o = owned t v.owner n v.short 64 w g in
    absurd (no-head d.name o.head.name v.short 64 refl (head-form t i d w (ap (option_and_then as_head) a)) (let is : d.name ≡ n = cc in is ∙ sym o.is))
names-unique t i j (item.Head d) (item.Mark v) n w a b f g =
    let o = owned t v.owner n v.short 35 w g in
    absurd (no-head d.name o.head.name v.short 35 refl (head-form t i d w (ap (option_and_then as_head) a)) (let is : d.name ≡ n = cc in is ∙ sym o.is))
names-unique t i j (item.Snap s) (item.Head e) n w a b f g =
    let o = owned t s.owner n s.short 64 w f in
    absurd (no-head e.name o.head.name s.short 64 refl (head-form t j e w (ap (option_and_then as_head) b)) (let is : e.name ≡ n = cc in is ∙ sym o.is))
names-unique t i j (item.Mark s) (item.Head e) n w a b f g =
    let o = owned t s.owner n s.short 35 w f in
    absurd (no-head e.name o.head.name s.short 35 refl (head-form t j e w (ap (option_and_then as_head) b)) (let is : e.name ≡ n = cc in is ∙ sym o.is))
names-unique t i j (item.Snap s) (item.Snap v) n w a b f g =
    let p = same t s.owner v.owner n s.short v.short 64 64 w refl refl (owned t s.owner n s.short 64 w f) (owned t v.owner n v.short 64 w g) in
    w.agrees.shorts i j s v (ap (option_and_then as_snapshot) a) (ap (option_and_then as_snapshot) b) p.owner p.short
names-unique t i j (item.Mark s) (item.Mark v) n w a b f g =
    let p = same t s.owner v.owner n s.short v.short 35 35 w refl refl (owned t s.owner n s.short 35 w f) (owned t v.owner n v.short 35 w g) in
    w.agrees.bookmark_shorts i j s v (ap (option_and_then as_bookmark) a) (ap (option_and_then as_bookmark) b) p.owner p.short
names-unique t i j (item.Snap s) (item.Mark v) n w a b f g =
    let p = same t s.owner v.owner n s.short v.short 64 35 w refl refl (owned t s.owner n s.short 64 w f) (owned t v.owner n v.short 35 w g) in let apart = p.mark in cc
names-unique t i j (item.Mark s) (item.Snap v) n w a b f g =
    let p = same t s.owner v.owner n s.short v.short 35 64 w refl refl (owned t s.owner n s.short 35 w f) (owned t v.owner n v.short 64 w g) in let apart = p.mark in cc

pub called : (name : List ℕ) (o : Option (List ℕ)) → is_text name o ≡ true → o ≡ Some name
called name None e = cc
called name (Some u) e = ap Some ((bytes_eq-Decides u name).0 e)

-- what a look-up by name answers is the record of that name
pub finds-named : (t : Tree) (name : List ℕ) (i : ℕ) → IsWellFormed t → Finds t.records name (Some i) → at t.records i ≡ named t.records name
finds-named t name i w f = go (named t.records name) refl
  where
    r : Item
    r = f.0

    go : (o : Option Item) → named t.records name ≡ o → at t.records i ≡ named t.records name
    go None e = let some : is_some (named t.records name) ≡ true = find-some (is_called t.records name) (has_id i) t.records r f.1 f.2 in let none : is_some (named t.records name) ≡ false = ap is_some e in cc
    go (Some u) e =
        let there : at t.records (id_of u) ≡ Some u = found-at (is_called t.records name) 0 t.next t.records u w.rises e in
        let one = names-unique t i (id_of u) r u name w f.1 there (called name (full_name t.records r) f.2) (called name (full_name t.records u) (find-passes (is_called t.records name) t.records u e)) in
        ap (at t.records) one ∙ there ∙ sym e
