-- From a head up, parent by parent, the first head that has a property set is the one with the longest name.
use Rattle.std.proofs.Common.{◌≡◌, ℕ, ◌+◌, ◌<◌, nat_lt, List, [], ◌∷◌, ◌++◌, length, Bool, true, false, not, ◌||◌, ◌&&◌, cond, Option, Some, None, MatchOption, is_some, find, option_map, option_and_then, bytes_eq, refl, sym, ap, subst, ◌∙◌, ◌⊎◌, inl, inr, arith, Bor, length-append, append_assoc, append-nil}
use Rattle.std.specs.List.{list_any, before_last, filter_map, cons_option}
use Rattle.std.proofs.lemmas.Bool.{cases_Bool, and_parts, or_parts, eq-eqb, ne_eqb, cases_eq, both_ways, le-ltb, lt-ltb}
use Rattle.std.proofs.lemmas.Slice.Eq.{bytes_eq-Decides}
use Rattle.zp_names.specs.Names.{is_slash, is_mark, is_separator, is_head}
use Rattle.zp_names.specs.NameParts.{parent_of, is_below, is_pool}
use Rattle.zp_names.specs.NameMoves.{is_at_or_below}
use Rattle.zp_names.proofs.Moving.{Beyond, beyond, is_beyond, parent_cut, moved_parent}
use Rattle.zp_names.proofs.Marks.{is_head-front}
use Rattle.zp_tree.specs.declared.item.Item.{Item}
use Rattle.zp_tree.specs.declared.item.Item.TheVariants as item
use Rattle.zp_tree.specs.declared.item.Head.{Head}
use Rattle.zp_tree.specs.Tree.{at, has_id, id_of, as_head, Rises}
use Rattle.zp_tree.specs.WellFormed.{head_in, IsHead}
use Rattle.zp_tree.specs.Inherited.{holds_property, setter_over, longer_named, longest, nearest_setter}
use Rattle.zp_tree.specs.Climbing.{is_head_called, AreOfTree}
use Rattle.zp_tree.proofs.Looks.{found-at, find-passes, find-some, at-later}
use Rattle.zp_tree.proofs.Found.{is-head}

-- ---- heads of a name

-- what is found under a name is a head of that name, and stands at its id
called-head : (rs : List Item) (next : ℕ) (name : List ℕ) (r : Item) → Rises 0 rs next → find (is_head_called name) rs ≡ Some r → (d : Head) × (r ≡ item.Head d) × (d.name ≡ name) × (at rs d.id ≡ Some (item.Head d))
called-head rs next name (item.Head d) rises e = (d, refl, (bytes_eq-Decides d.name name).0 (find-passes (is_head_called name) rs (item.Head d) e), found-at (is_head_called name) 0 next rs (item.Head d) rises e)
called-head rs next name (item.Snap s) rises e = let no : false ≡ true = find-passes (is_head_called name) rs (item.Snap s) e in cc
called-head rs next name (item.Mark m) rises e = let no : false ≡ true = find-passes (is_head_called name) rs (item.Mark m) e in cc

head-there : (rs : List Item) (i : ℕ) (d : Head) → at rs i ≡ Some (item.Head d) → head_in (at rs) i ≡ Some d
head-there rs i d e = ap (option_and_then as_head) e

-- the name of a pool has no slash
no-slash : (t : List ℕ) → list_any is_separator t ≡ false → list_any is_slash t ≡ false
no-slash [] e = refl
no-slash (b ∷ t) e =
    let parts = or_parts (is_separator b) (list_any is_separator t) e in
    let slash = (or_parts (is_slash b) (is_mark b) parts.0).0 in
    ap (λ x. x || list_any is_slash t) slash ∙ no-slash t parts.1

pool-top : (t : List ℕ) → is_pool t ≡ true → parent_of t ≡ None
pool-top t e = elim (cases_Bool (list_any is_separator t)) [
  | inl s ↦ (let no : false ≡ true = sym (ap not s) ∙ e in cc)
  | inr s ↦ go (is_head t) (list_any is_slash t) (no-slash t s) (before_last is_slash t)
]
  where
    go : (h s : Bool) → s ≡ false → (p : List ℕ) → cond (h && s) (Some p) None ≡ None
    go true true f p = cc
    go true false f p = refl
    go false s f p = refl

-- a head that is no pool's has a head right above it
parent-there : (rs : List Item) → AreOfTree rs → (d : Head) → at rs d.id ≡ Some (item.Head d) → (q : List ℕ) → parent_of d.name ≡ Some q → (e : Head) × (find (is_head_called q) rs ≡ Some (item.Head e)) × (e.name ≡ q) × (at rs e.id ≡ Some (item.Head e))
parent-there rs a d there q e = elim (a.well.agrees.parents d.id d (head-there rs d.id d there)) [
  | inl top ↦ (let pool = a.well.agrees.pool in
      let here : head_in (at rs) pool.id ≡ Some d = ap (head_in (at rs)) (sym top) ∙ head-there rs d.id d there in
      let same : Some pool.head ≡ Some d = sym pool.there ∙ here in
      let it : pool.head ≡ d = cc in
      let none : None ≡ Some q = sym (pool-top d.name (ap (λ (h : Head). is_pool h.name) (sym it) ∙ pool.part)) ∙ e in cc)
  | inr h ↦ (let name : Some h.parent ≡ Some q = sym h.is ∙ e in
      let is : h.parent ≡ q = cc in
      let f = h.filesystem in
      let passes : is_head_called q (item.Head f.head) ≡ true = (bytes_eq-Decides f.head.name q).1 (f.named ∙ is) in
      found (find (is_head_called q) rs) refl (find-some (is_head_called q) (has_id f.id) rs (item.Head f.head) (is-head (at rs f.id) f.head f.there) passes))
]
  where
    found : (o : Option Item) → find (is_head_called q) rs ≡ o → is_some (find (is_head_called q) rs) ≡ true → (e : Head) × (find (is_head_called q) rs ≡ Some (item.Head e)) × (e.name ≡ q) × (at rs e.id ≡ Some (item.Head e))
    found None f some = let no : true ≡ false = sym some ∙ ap is_some f in cc
    found (Some r) f some = let c = called-head rs a.next q r a.well.rises f in (c.0, f ∙ ap Some c.1, c.2, c.3)

-- what the look-up of the parent's name gives
pub above_is : (rs : List Item) → AreOfTree rs → (d : Head) → at rs d.id ≡ Some (item.Head d) → (q : List ℕ) → parent_of d.name ≡ Some q → (o : Option (Bor Head)) → option_map (λ e. e.now) o ≡ option_and_then as_head (find (is_head_called q) rs) → MatchOption o (parent_of d.name ≡ None) (λ e. (parent_of d.name ≡ Some e.now.name) × (at rs e.now.id ≡ Some (item.Head e.now)))
above_is rs a d there q e o is = go o (is ∙ ap (option_and_then as_head) up.1)
  where
    up : (e : Head) × (find (is_head_called q) rs ≡ Some (item.Head e)) × (e.name ≡ q) × (at rs e.id ≡ Some (item.Head e))
    up = parent-there rs a d there q e

    go : (o : Option (Bor Head)) → option_map (λ e. e.now) o ≡ Some up.0 → MatchOption o (parent_of d.name ≡ None) (λ e. (parent_of d.name ≡ Some e.now.name) × (at rs e.now.id ≡ Some (item.Head e.now)))
    go None f = cc
    go (Some b) f = let it : b.now ≡ up.0 = cc in (e ∙ ap Some (sym up.2 ∙ ap (λ (h : Head). h.name) (sym it)), ap (λ (h : Head). at rs h.id) it ∙ up.3 ∙ ap (λ (h : Head). Some (item.Head h)) (sym it))

-- ---- names above a name

same-bool : (a b : Bool) → (a ≡ true → b ≡ true) → (b ≡ true → a ≡ true) → a ≡ b
same-bool true true f g = refl
same-bool true false f g = sym (f refl)
same-bool false true f g = g refl
same-bool false false f g = refl

-- a name that is above another one and isn't it is cut off at a slash
cut-above : (t x : List ℕ) → bytes_eq t x ≡ false → is_at_or_below t x ≡ true → (more : List ℕ) × (t ≡ x ++ 47 ∷ more)
cut-above t x other e = go (beyond t x e)
  where
    go : Beyond t x → (more : List ℕ) × (t ≡ x ++ 47 ∷ more)
    go b = elim b.start [
      | inl none ↦ absurd (both_ways (bytes_eq t x) other ((bytes_eq-Decides t x).1 (b.is ∙ ap (λ r. x ++ r) none ∙ append-nil x)))
      | inr some ↦ (some.0, b.is ∙ ap (λ r. x ++ r) some.1)
    ]

-- the names above a head are its parent's and those above that
above-parent : (t q x : List ℕ) → is_head t ≡ true → parent_of t ≡ Some q → bytes_eq t x ≡ false → is_at_or_below t x ≡ is_at_or_below q x
above-parent t q x head e other = same-bool (is_at_or_below t x) (is_at_or_below q x) up down
  where
    cut : (last : List ℕ) × (t ≡ q ++ 47 ∷ last)
    cut = parent_cut t q e

    head_q : is_head q ≡ true
    head_q = is_head-front q (47 ∷ cut.0) (sym (ap is_head cut.1) ∙ head)

    up : is_at_or_below t x ≡ true → is_at_or_below q x ≡ true
    up h =
        let above = cut-above t x other h in
        let m = moved_parent x x above.0 in
        let name : Some (x ++ m.rest) ≡ Some q = sym (m.before (sym (ap is_head above.1) ∙ head)) ∙ sym (ap parent_of above.1) ∙ e in
        let is : q ≡ x ++ m.rest = cc in
        is_beyond q x head_q (record { rest = m.rest; is = is; start = m.start })

    down : is_at_or_below q x ≡ true → is_at_or_below t x ≡ true
    down h = go (beyond q x h)
      where
        go : Beyond q x → is_at_or_below t x ≡ true
        go b = is_beyond t x head (record {
          rest = b.rest ++ 47 ∷ cut.0;
          is = cut.1 ∙ ap (λ r. r ++ 47 ∷ cut.0) b.is ∙ append_assoc x b.rest (47 ∷ cut.0);
          start = inr (elim b.start [
            | inl none ↦ (cut.0, ap (λ r. r ++ 47 ∷ cut.0) none)
            | inr some ↦ (some.0 ++ 47 ∷ cut.0, ap (λ r. r ++ 47 ∷ cut.0) some.1)
          ]);
        })

-- above the pool's name there is none
above-top : (t x : List ℕ) → is_head t ≡ true → parent_of t ≡ None → bytes_eq t x ≡ false → is_at_or_below t x ≡ false
above-top t x head e other = elim (cases_Bool (is_at_or_below t x)) [
  | inl h ↦ (let above = cut-above t x other h in
      let m = moved_parent x x above.0 in
      let no : Some (x ++ m.rest) ≡ None = sym (m.before (sym (ap is_head above.1) ∙ head)) ∙ sym (ap parent_of above.1) ∙ e in cc)
  | inr h ↦ h
]

-- ---- the longest of what a list gives

head-here : (x : Item) (rs : List Item) → at (x ∷ rs) (id_of x) ≡ Some x
head-here x rs = ap (λ b. cond b (Some x) (at rs (id_of x))) (eq-eqb (id_of x) (id_of x) refl)

same-map : (low n : ℕ) (rs : List Item) → Rises low rs n → (f g : Item → Option Head) → ((r : Item) → at rs (id_of r) ≡ Some r → f r ≡ g r) → filter_map f rs ≡ filter_map g rs
same-map low n [] h f g same = refl
same-map low n (x ∷ rs) h f g same = ap (λ o. cons_option o (filter_map f rs)) (same x (head-here x rs)) ∙ ap (cons_option (g x)) (same-map (id_of x + 1) n rs h.1 f g (λ r e. same r (at-later x n rs (id_of r) r h.1 e)))

none-map : (low n : ℕ) (rs : List Item) → Rises low rs n → (f : Item → Option Head) → ((r : Item) → at rs (id_of r) ≡ Some r → f r ≡ None) → filter_map f rs ≡ []
none-map low n [] h f none = refl
none-map low n (x ∷ rs) h f none = ap (λ o. cons_option o (filter_map f rs)) (none x (head-here x rs)) ∙ none-map (id_of x + 1) n rs h.1 f (λ r e. none r (at-later x n rs (id_of r) r h.1 e))

-- each head that the list gives is this one, or has a shorter name
abbrev IsUnder : Head → Head → Type 0
IsUnder d e = (e ≡ d) ⊎ (length e.name < length d.name)

longer-first : (d : Head) (o : Option Head) → ((e : Head) → o ≡ Some e → IsUnder d e) → longer_named d o ≡ d
longer-first d None h = refl
longer-first d (Some e) h = elim (h e refl) [
  | inl same ↦ (cond_same (nat_lt (length d.name) (length e.name)) same)
  | inr less ↦ ap (λ b. cond b e d) (le-ltb (length d.name) (length e.name) (omega arith))
]
  where
    cond_same : (b : Bool) → e ≡ d → cond b e d ≡ d
    cond_same true s = s
    cond_same false s = refl

longer-last : (d e : Head) → IsUnder d e → longer_named e (Some d) ≡ d
longer-last d e h = elim h [
  | inl same ↦ (cond_same (nat_lt (length e.name) (length d.name)) same)
  | inr less ↦ ap (λ b. cond b d e) (lt-ltb (length e.name) (length d.name) less)
]
  where
    cond_same : (b : Bool) → e ≡ d → cond b d e ≡ d
    cond_same true s = refl
    cond_same false s = s

-- what is longest comes from a record
longest-from : (P : Head → Type 0) (low n : ℕ) (rs : List Item) → Rises low rs n → (f : Item → Option Head) → ((r : Item) (e : Head) → at rs (id_of r) ≡ Some r → f r ≡ Some e → P e) → (e : Head) → longest (filter_map f rs) ≡ Some e → P e
longest-from P low n [] h f all e is = cc
longest-from P low n (x ∷ rs) h f all e is = go (f x) refl is (longest-from P (id_of x + 1) n rs h.1 f (λ r e a b. all r e (at-later x n rs (id_of r) r h.1 a) b))
  where
    pick : (d : Head) (o : Option Head) → P d → ((e : Head) → o ≡ Some e → P e) → P (longer_named d o)
    pick d None a b = a
    pick d (Some u) a b = choose (nat_lt (length d.name) (length u.name))
      where
        choose : (c : Bool) → P (cond c u d)
        choose true = b u refl
        choose false = a

    go : (o : Option Head) → f x ≡ o → longest (cons_option o (filter_map f rs)) ≡ Some e → ((e : Head) → longest (filter_map f rs) ≡ Some e → P e) → P e
    go None g l later = later e l
    go (Some d) g l later = let it : longer_named d (longest (filter_map f rs)) ≡ e = cc in subst P it (pick d (longest (filter_map f rs)) (all x d (head-here x rs) g) later)

-- the longest is a head that the list gives, and all others are shorter
longest-is : (low n : ℕ) (rs : List Item) → Rises low rs n → (f : Item → Option Head) (i : ℕ) (r : Item) (d : Head) → at rs i ≡ Some r → f r ≡ Some d → ((u : Item) (e : Head) → at rs (id_of u) ≡ Some u → f u ≡ Some e → IsUnder d e) → longest (filter_map f rs) ≡ Some d
longest-is low n [] h f i r d there gives all = cc
longest-is low n (x ∷ rs) h f i r d there gives all =
    let rest = λ (u : Item) (e : Head) (a : at rs (id_of u) ≡ Some u) (b : f u ≡ Some e). all u e (at-later x n rs (id_of u) u h.1 a) b in
    elim (cases_eq (id_of x) i) [
      | inl same ↦ (let here : Some x ≡ Some r = sym (ap (λ b. cond b (Some x) (at rs i)) (eq-eqb (id_of x) i same)) ∙ there in
          let is : x ≡ r = cc in
          ap (λ o. longest (cons_option o (filter_map f rs))) (ap f is ∙ gives) ∙ ap Some (longer-first d (longest (filter_map f rs)) (longest-from (IsUnder d) (id_of x + 1) n rs h.1 f rest)))
      | inr other ↦ (let later : at rs i ≡ Some r = sym (ap (λ b. cond b (Some x) (at rs i)) (ne_eqb (id_of x) i other)) ∙ there in
          behind (f x) refl (longest-is (id_of x + 1) n rs h.1 f i r d later gives rest))
    ]
  where
    behind : (o : Option Head) → f x ≡ o → longest (filter_map f rs) ≡ Some d → longest (cons_option o (filter_map f rs)) ≡ Some d
    behind None g l = l
    behind (Some e) g l = ap (λ o. Some (longer_named e o)) l ∙ ap Some (longer-last d e (all x e (head-here x rs) g))

-- ---- the climb

one-head : (rs : List Item) → AreOfTree rs → (d e : Head) → at rs d.id ≡ Some (item.Head d) → at rs e.id ≡ Some (item.Head e) → d.name ≡ e.name → e ≡ d
one-head rs a d e hd he same =
    let ids = a.well.agrees.names d.id e.id d e (head-there rs d.id d hd) (head-there rs e.id e he) same in
    let it : Some (item.Head e) ≡ Some (item.Head d) = sym he ∙ ap (at rs) (sym ids) ∙ hd in cc

good-head : (rs : List Item) → AreOfTree rs → (d : Head) → at rs d.id ≡ Some (item.Head d) → is_head d.name ≡ true
good-head rs a d there = let h : IsHead d = a.well.agrees.records d.id (item.Head d) there in h.form

-- a head that has the property set is the nearest
pub nearest_here : (rs : List Item) → AreOfTree rs → (p : List ℕ) (d : Head) → at rs d.id ≡ Some (item.Head d) → holds_property p d ≡ true → nearest_setter rs p d.name ≡ Some d
nearest_here rs a p d there holds = longest-is 0 a.next rs a.well.rises (setter_over p d.name) d.id (item.Head d) d there gives under
  where
    gives : setter_over p d.name (item.Head d) ≡ Some d
    gives = ap (λ b. cond ((b || is_below d.name d.name) && holds_property p d) (Some d) None) ((bytes_eq-Decides d.name d.name).1 refl) ∙ ap (λ b. cond b (Some d) None) holds

    over : (e : Head) → at rs e.id ≡ Some (item.Head e) → is_at_or_below d.name e.name ≡ true → IsUnder d e
    over e he h = elim (cases_Bool (bytes_eq d.name e.name)) [
      | inl same ↦ inl (one-head rs a d e there he ((bytes_eq-Decides d.name e.name).0 same))
      | inr other ↦ (let c = cut-above d.name e.name other h in let size = ap length c.1 in inr (omega (arith, length-append e.name (47 ∷ c.0))))
    ]

    under : (u : Item) (e : Head) → at rs (id_of u) ≡ Some u → setter_over p d.name u ≡ Some e → IsUnder d e
    under (item.Head u) e hu f = elim (cases_Bool (is_at_or_below d.name u.name && holds_property p u)) [
      | inl yes' ↦ (let is : Some u ≡ Some e = sym (ap (λ b. cond b (Some u) None) yes') ∙ f in let it : u ≡ e = cc in subst (IsUnder d) it (over u hu (and_parts (is_at_or_below d.name u.name) (holds_property p u) yes').0))
      | inr no' ↦ (let is : None ≡ Some e = sym (ap (λ b. cond b (Some u) None) no') ∙ f in cc)
    ]
    under (item.Snap s) e hu f = cc
    under (item.Mark m) e hu f = cc

-- one that hasn't has it from its parent up
pub nearest_above : (rs : List Item) → AreOfTree rs → (p : List ℕ) (d : Head) (q : List ℕ) → at rs d.id ≡ Some (item.Head d) → holds_property p d ≡ false → parent_of d.name ≡ Some q → nearest_setter rs p d.name ≡ nearest_setter rs p q
nearest_above rs a p d q there holds e = ap longest (same-map 0 a.next rs a.well.rises (setter_over p d.name) (setter_over p q) same)
  where
    same : (r : Item) → at rs (id_of r) ≡ Some r → setter_over p d.name r ≡ setter_over p q r
    same (item.Head u) hu = elim (cases_Bool (bytes_eq d.name u.name)) [
      | inl one ↦ (let is : u ≡ d = one-head rs a d u there hu ((bytes_eq-Decides d.name u.name).0 one) in
          let none : holds_property p u ≡ false = ap (holds_property p) is ∙ holds in
          ap (λ b. cond (is_at_or_below d.name u.name && b) (Some u) None) none ∙ both (is_at_or_below d.name u.name) (is_at_or_below q u.name) ∙ sym (ap (λ b. cond (is_at_or_below q u.name && b) (Some u) None) none))
      | inr other ↦ ap (λ b. cond (b && holds_property p u) (Some u) None) (above-parent d.name q u.name (good-head rs a d there) e other)
    ]
      where
        both : (b c : Bool) → cond (b && false) (Some u) None ≡ cond (c && false) (Some u) None
        both true true = refl
        both true false = refl
        both false true = refl
        both false false = refl
    same (item.Snap s) hu = refl
    same (item.Mark m) hu = refl

-- and the pool's has it from nowhere
pub nearest_top : (rs : List Item) → AreOfTree rs → (p : List ℕ) (d : Head) → at rs d.id ≡ Some (item.Head d) → holds_property p d ≡ false → parent_of d.name ≡ None → nearest_setter rs p d.name ≡ None
nearest_top rs a p d there holds e = ap longest (none-map 0 a.next rs a.well.rises (setter_over p d.name) none)
  where
    none : (r : Item) → at rs (id_of r) ≡ Some r → setter_over p d.name r ≡ None
    none (item.Head u) hu = elim (cases_Bool (bytes_eq d.name u.name)) [
      | inl one ↦ (let is : u ≡ d = one-head rs a d u there hu ((bytes_eq-Decides d.name u.name).0 one) in
          ap (λ b. cond (is_at_or_below d.name u.name && b) (Some u) None) (ap (holds_property p) is ∙ holds) ∙ off (is_at_or_below d.name u.name))
      | inr other ↦ ap (λ b. cond (b && holds_property p u) (Some u) None) (above-top d.name u.name (good-head rs a d there) e other)
    ]
      where
        off : (b : Bool) → cond (b && false) (Some u) None ≡ None
        off true = refl
        off false = refl
    none (item.Snap s) hu = refl
    none (item.Mark m) hu = refl

-- a parent's name is shorter
pub shorter_above : (t q : List ℕ) → parent_of t ≡ Some q → length q < length t
shorter_above t q e = let c = parent_cut t q e in let size = ap length c.1 in omega (arith, length-append q (47 ∷ c.0))
