-- Places in lists of parts.
use Rattle.std.proofs.Common.{◌≡◌, ℕ, zero, suc, List, [], ◌∷◌, drop, slice_get, Option, Some, None, Bool, true, false, refl}
use Rattle.lua_ast.specs.declared.node.Field.{Field}
use Rattle.lua_steps.specs.Parts.{no_field_left}

pub fields_past : (fs : List Field) (place : ℕ) → slice_get fs place ≡ None → true ≡ no_field_left (drop place fs)
fields_past [] zero e = refl
fields_past [] (suc place) e = refl
fields_past (f ∷ fs) zero e = absurd (let nothing : Some f ≡ None = e in cc)
fields_past (f ∷ fs) (suc place) e = fields_past fs place e

pub fields_within : (fs : List Field) (place : ℕ) (f : Field) → slice_get fs place ≡ Some f → false ≡ no_field_left (drop place fs)
fields_within [] zero f e = absurd (let nothing : None ≡ Some f = e in cc)
fields_within [] (suc place) f e = absurd (let nothing : None ≡ Some f = e in cc)
fields_within (g ∷ fs) zero f e = refl
fields_within (g ∷ fs) (suc place) f e = fields_within fs place f e
