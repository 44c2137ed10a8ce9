-- The records below an id, in a list whose ids rise.
use Rattle.std.proofs.Common.{◌≡◌, ℕ, ◌+◌, ◌<◌, ◌≤◌, List, [], ◌∷◌, ◌++◌, Bool, cond, Some, None, refl, sym, ap, ◌∙◌, arith, inl, inr, filter, map, append-nil}
use Rattle.std.specs.Prelude.{nat_lt}
use Rattle.std.specs.Option.{option_map_or}
use Rattle.std.proofs.lemmas.Bool.{cases_eq, cases_lt, lt-ltb, le-ltb}
use Rattle.std.proofs.lemmas.List.{map-append}
use Rattle.serde_json.specs.Data.{Data}
use Rattle.serde_json.specs.View.{view}
use Rattle.serde_json.specs.declared.value.Value.{Value}
use Rattle.zp_tree.specs.declared.item.Item.{Item}
use Rattle.zp_tree.specs.Tree.{at, id_of, Rises}
use Rattle.zp_tree.proofs.Looks.{at-id}
use Rattle.zp_tree.proofs.Rising.{rises-below}
use Rattle.zp_tree.proofs.Edits.{at-here, at-past}

-- the record's id is below this one
abbrev pub is_below : ℕ → Item → Bool
is_below i r = nat_lt (id_of r) i

-- a record below the id stays
keeps : (i : ℕ) (r : Item) (rs : List Item) → id_of r < i → filter (is_below i) (r ∷ rs) ≡ r ∷ filter (is_below i) rs
keeps i r rs lt = ap (λ b. cond b (r ∷ filter (is_below i) rs) (filter (is_below i) rs)) (lt-ltb (id_of r) i lt)

-- one that is not goes
skips : (i : ℕ) (r : Item) (rs : List Item) → i ≤ id_of r → filter (is_below i) (r ∷ rs) ≡ filter (is_below i) rs
skips i r rs le = ap (λ b. cond b (r ∷ filter (is_below i) rs) (filter (is_below i) rs)) (le-ltb (id_of r) i le)

-- no record is below the first id
pub none_below : (i low next : ℕ) (rs : List Item) → i ≤ low → Rises low rs next → filter (is_below i) rs ≡ []
none_below i low next [] le h = refl
none_below i low next (r ∷ rs) le h =
    let first : low ≤ id_of r = h.0 in
    skips i r rs (omega arith) ∙ none_below i (id_of r + 1) next rs (omega arith) h.1

-- each record is below the next id
pub all_below : (i low next : ℕ) (rs : List Item) → next ≤ i → Rises low rs next → filter (is_below i) rs ≡ rs
all_below i low next [] le h = refl
all_below i low next (r ∷ rs) le h =
    let last : id_of r + 1 ≤ next = rises-below (id_of r + 1) next rs h.1 in
    keeps i r rs (omega arith) ∙ ap (λ xs. r ∷ xs) (all_below i (id_of r + 1) next rs le h.1)

-- the record with this id comes next
below_more : (i low next : ℕ) (rs : List Item) → Rises low rs next → filter (is_below (i + 1)) rs ≡ filter (is_below i) rs ++ option_map_or (λ r. r ∷ []) (at rs i) []
below_more i low next [] h = refl
below_more i low next (r ∷ rs) h = elim (cases_eq (id_of r) i) [
  | inl same ↦
      keeps (i + 1) r rs (omega arith) ∙ ap (λ xs. r ∷ xs) (none_below (i + 1) (id_of r + 1) next rs (omega arith) h.1)
      ∙ sym (ap (λ xs. xs ++ option_map_or (λ x. x ∷ []) (at (r ∷ rs) i) []) (skips i r rs (omega arith) ∙ none_below i (id_of r + 1) next rs (omega arith) h.1)
      ∙ ap (λ o. option_map_or (λ x. x ∷ []) o []) (at-here r rs i same))
  | inr other ↦ elim (cases_lt (id_of r) i) [
    | inl lt ↦ keeps (i + 1) r rs (omega arith) ∙ ap (λ xs. r ∷ xs) (below_more i (id_of r + 1) next rs h.1)
        ∙ sym (ap (λ xs. xs ++ option_map_or (λ x. x ∷ []) (at (r ∷ rs) i) []) (keeps i r rs lt) ∙ ap (λ o. r ∷ filter (is_below i) rs ++ option_map_or (λ x. x ∷ []) o []) (at-past r rs i other))
    | inr le ↦ skips (i + 1) r rs (omega arith) ∙ below_more i (id_of r + 1) next rs h.1
        ∙ sym (ap (λ xs. xs ++ option_map_or (λ x. x ∷ []) (at (r ∷ rs) i) []) (skips i r rs le) ∙ ap (λ o. filter (is_below i) rs ++ option_map_or (λ x. x ∷ []) o []) (at-past r rs i other))
  ]
]

-- a record that was found stands at its own id
pub found_there : (i : ℕ) (rs : List Item) (r : Item) → Some r ≡ at rs i → at rs (id_of r) ≡ Some r
found_there i rs r e = ap (at rs) (at-id i rs r (sym e)) ∙ sym e

-- a loop that goes up the ids passes a record
pub passed : (f : Item → Data) (vs : List Value) (v : Value) (i next : ℕ) (rs : List Item) (r : Item) → Rises 0 rs next → Some r ≡ at rs i →
    map view vs ≡ map f (filter (is_below i) rs) → view v ≡ f r → map view (vs ++ v ∷ []) ≡ map f (filter (is_below (i + 1)) rs)
passed f vs v i next rs r h there so_far here =
    map-append view vs (v ∷ []) ∙ ap (λ ds. ds ++ view v ∷ []) so_far ∙ ap (λ d. map f (filter (is_below i) rs) ++ d ∷ []) here
    ∙ sym (ap (map f) (below_more i 0 next rs h ∙ ap (λ o. filter (is_below i) rs ++ option_map_or (λ x. x ∷ []) o []) (sym there)) ∙ map-append f (filter (is_below i) rs) (r ∷ []))

-- it passes an id that no record has
pub passed_none : (i next : ℕ) (rs : List Item) → Rises 0 rs next → at rs i ≡ None → filter (is_below i) rs ≡ filter (is_below (i + 1)) rs
passed_none i next rs h none = sym (below_more i 0 next rs h ∙ ap (λ o. filter (is_below i) rs ++ option_map_or (λ x. x ∷ []) o []) none ∙ append-nil (filter (is_below i) rs))
