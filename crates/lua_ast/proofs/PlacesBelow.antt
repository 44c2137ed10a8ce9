-- Places below a number.
use Rattle.std.specs.Prelude.{◌≡◌, ℕ, zero, suc, ◌<◌, ◌≤◌, List, [], ◌∷◌, ◌++◌, Some, slice_get}
use Rattle.std.proofs.Common.{subst, arith}
use Rattle.lua_ast.specs.declared.node.Field.{Field}
use Rattle.lua_ast.specs.declared.node.Field.TheVariants as field
use Rattle.lua_ast.specs.Decode.{AllBelow, FieldBelow, FieldsBelow}

pub each_below : (n : ℕ) (is : List ℕ) (k i : ℕ) → AllBelow n is → slice_get is k ≡ Some i → i < n
each_below n [] k i b e = absurd cc
each_below n (j ∷ is) zero i b e = let same : j ≡ i = cc in subst (λ x. x < n) same b.0
each_below n (j ∷ is) (suc k) i b e = each_below n is k i b.1 e

pub each_field_below : (n : ℕ) (fs : List Field) (k : ℕ) (f : Field) → FieldsBelow n fs → slice_get fs k ≡ Some f → FieldBelow n f
each_field_below n [] k f b e = absurd cc
each_field_below n (g ∷ fs) zero f b e = let same : g ≡ f = cc in subst (λ x. FieldBelow n x) same b.0
each_field_below n (g ∷ fs) (suc k) f b e = each_field_below n fs k f b.1 e

pub below_push : (n : ℕ) (is : List ℕ) (i : ℕ) → AllBelow n is → i < n → AllBelow n (is ++ i ∷ [])
below_push n [] i b h = (h, tt)
below_push n (j ∷ is) i b h = (b.0, below_push n is i b.1 h)

pub fields_below_push : (n : ℕ) (fs : List Field) (f : Field) → FieldsBelow n fs → FieldBelow n f → FieldsBelow n (fs ++ f ∷ [])
fields_below_push n [] f b h = (h, tt)
fields_below_push n (g ∷ fs) f b h = (b.0, fields_below_push n fs f b.1 h)

pub below_more : (n m : ℕ) (is : List ℕ) → n ≤ m → AllBelow n is → AllBelow m is
below_more n m [] h b = tt
below_more n m (i ∷ is) h b = (omega (arith, b.0), below_more n m is h b.1)

field_below_more : (n m : ℕ) (f : Field) → n ≤ m → FieldBelow n f → FieldBelow m f
field_below_more n m (field.Item v) h b = omega arith
field_below_more n m (field.Named x v) h b = omega arith
field_below_more n m (field.Keyed k v) h b = (omega (arith, b.0), omega (arith, b.1))

pub fields_below_more : (n m : ℕ) (fs : List Field) → n ≤ m → FieldsBelow n fs → FieldsBelow m fs
fields_below_more n m [] h b = tt
fields_below_more n m (f ∷ fs) h b = (field_below_more n m f h b.0, fields_below_more n m fs h b.1)
