-- What is called, or made of values, where none of the cases before it holds.
use Rattle.std.proofs.Common.{◌≡◌, ℕ, List, [], ◌∷◌, Bool, refl}
use Rattle.std.specs.Prelude.{codes}
use Rattle.lua_ast.specs.declared.node.LinedNode.{LinedNode}
use Rattle.lua_meaning.specs.declared.builtin.Builtin.{Builtin}
use Rattle.lua_meaning.specs.declared.status.After.TheVariants.{OneText}
use Rattle.lua_meaning.specs.declared.value.Value.{Value}
use Rattle.lua_meaning.specs.declared.value.Value.TheVariants as value
use Rattle.lua_meaning.specs.Values.{first}
use Rattle.lua_meaning.specs.Heap.{metamethod}
use Rattle.lua_meaning.specs.Code.{Code}
use Rattle.lua_steps.specs.Configuration.{Configuration}
use Rattle.lua_steps.specs.Effects.{failing}
use Rattle.lua_steps.specs.Machine.{called, call_by, made_by}

pub made_other : (nodes : List LinedNode) (lines : List ℕ) (vs : List Value) (x : Configuration) → ((s : List ℕ) → first vs ≡ value.Text s → ⊥) →
    made_by nodes OneText lines vs x ≡ failing lines (codes "bad argument 1 to tostring") x
made_other nodes lines [] x other = refl
made_other nodes lines (value.Text s ∷ vs) x other = absurd (other s refl)
made_other nodes lines (_ ∷ vs) x other = refl

pub called_other : (nodes : List LinedNode) (code : Code) (f : Value) (args : List Value) (lines : List ℕ) (own : Bool) (x : Configuration) →
    ((i : ℕ) → f ≡ value.Closure i → ⊥) → ((b : Builtin) → f ≡ value.Builtin b → ⊥) → ((i : ℕ) → f ≡ value.Iter i → ⊥) →
    called nodes code f args lines own x ≡ call_by nodes (metamethod x.heap f (codes "__call")) f args lines own x
called_other nodes code (value.Closure i) args lines own x closure builtin iter = absurd (closure i refl)
called_other nodes code (value.Builtin b) args lines own x closure builtin iter = absurd (builtin b refl)
called_other nodes code (value.Iter i) args lines own x closure builtin iter = absurd (iter i refl)
called_other nodes code _ args lines own x closure builtin iter = refl
