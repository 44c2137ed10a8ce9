-- The shared variables of a call's locals are of the heap.
use Rattle.std.proofs.Common.{◌≡◌, ◌<◌, ℕ, List, [], ◌∷◌, ◌++◌, Option, Some, None, All, refl, ap, sym, subst, ◌∙◌, append_assoc, length, inl, inr, ◌⊎◌, arith}
use Rattle.std.specs.Prelude.{⊤}
use Rattle.std.proofs.lemmas.List.Elements.{All-nil, All-cons}
use Rattle.lua_meaning.specs.declared.variable.Slot.{Slot}
use Rattle.lua_meaning.specs.declared.variable.Slot.TheVariants as slot
use Rattle.lua_meaning.specs.Store.{CallOf}
use Rattle.lua_meaning.specs.Locals.{Locals, slot_of, cell_in, with_front, cells_in, captured_locals}
use Rattle.lua_values.specs.Ids.{Ids}
use Rattle.lua_steps.specs.Own.{IsOwnCall, IsOwnLocal}
use Rattle.lua_steps.proofs.OwnGiven.{IsOwnFound, found_own}

pub cell_of_heap : (ids : Ids) (call : CallOf) (v i : ℕ) (o : Option Slot) → IsOwnCall ids call → o ≡ slot_of call.locals v → o ≡ Some (slot.Cell i) → i < ids.cells
cell_of_heap ids call v i o own told is = subst (λ o. IsOwnFound ids o) (sym told ∙ is) (found_own ids call.locals v own.locals)

-- the shared variables that a function captures
abbrev IsOwnCells : Ids → Option (List ℕ) → Type 0
IsOwnCells ids None = ⊤
IsOwnCells ids (Some is) = All (λ i. i < ids.cells) is

front_own : (ids : Ids) (o : Option Slot) (p : Option (List ℕ)) → IsOwnFound ids o → IsOwnCells ids p → IsOwnCells ids (with_front (cell_in o) p)
front_own ids (Some (slot.Cell i)) (Some is) q r = All-cons (λ i. i < ids.cells) i is q r
front_own ids (Some (slot.Cell i)) None q r = tt
front_own ids (Some (slot.Held v)) p q r = tt
front_own ids None p q r = tt

cells_own : (ids : Ids) (ls : Locals) (vs : List ℕ) → All (IsOwnLocal ids) ls → IsOwnCells ids (cells_in ls vs)
cells_own ids ls [] own = All-nil (λ i. i < ids.cells)
cells_own ids ls (v ∷ vs) own = front_own ids (slot_of ls v) (cells_in ls vs) (found_own ids ls v own) (cells_own ids ls vs own)

pub captured_own : (ids : Ids) (call : CallOf) (vs is : List ℕ) → IsOwnCall ids call → cells_in call.locals vs ≡ Some is → All (λ i. i < ids.cells) is
captured_own ids call vs is own e = subst (λ o. IsOwnCells ids o) e (cells_own ids call.locals vs own.locals)

-- these in front of those that are left, where there are such
abbrev pub behind : List ℕ → Option (List ℕ) → Option (List ℕ)
behind is None = None
behind is (Some js) = Some (is ++ js)

pub behind_none : (o : Option (List ℕ)) → behind [] o ≡ o
behind_none None = refl
behind_none (Some js) = refl

pub behind_more : (is : List ℕ) (i : ℕ) (o : Option (List ℕ)) → behind is (with_front (Some i) o) ≡ behind (is ++ i ∷ []) o
behind_more is i None = refl
behind_more is i (Some js) = ap (λ ks. Some ks) (sym (append_assoc is (i ∷ []) js))

pub behind_end : (is : List ℕ) (o : Option (List ℕ)) → behind is (with_front None o) ≡ None
behind_end is None = refl
behind_end is (Some js) = refl

nothing_behind : (ls : Locals) → ls ++ [] ≡ ls
nothing_behind [] = refl
nothing_behind (l ∷ ls) = ap (λ ks. l ∷ ks) (nothing_behind ls)

pub captured_ends : (ls : Locals) (vs is : List ℕ) → (length vs ≡ 0) ⊎ (length is ≡ 0) → ls ++ captured_locals vs is ≡ ls
captured_ends ls [] is e = nothing_behind ls
captured_ends ls (v ∷ vs) [] e = nothing_behind ls
captured_ends ls (v ∷ vs) (i ∷ is) (inl e) = absurd (omega (arith, e))
captured_ends ls (v ∷ vs) (i ∷ is) (inr e) = absurd (omega (arith, e))
