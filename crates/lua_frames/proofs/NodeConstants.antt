-- The constants of the first nodes, and of one more.
use Rattle.std.proofs.Common.{◌≡◌, ◌+◌, ℕ, zero, suc, List, [], ◌∷◌, ◌++◌, take, length, ◌<◌, slice_get, Some, None, refl, ap, sym, subst, arith}
use Rattle.lua_ast.specs.declared.node.LinedNode.{LinedNode}
use Rattle.lua_meaning.specs.declared.value.Value.TheVariants as value
use Rattle.lua_steps.specs.Parts.{of_part}
use Rattle.lua_frames.specs.NodeConstants.{constant_in, constants_of}

same_some : (A : Type 0) (a b : A) → Some a ≡ Some b → a ≡ b
same_some A a b e = cc

none_there : (A : Type 0) (a : A) → None ≡ Some a → ⊥
none_there A a e = let no : None ≡ Some a = e in cc

pub one_more : (nodes : List LinedNode) (n : ℕ) → n < length nodes →
    constants_of (take (n + 1) nodes) ≡ constants_of (take n nodes) ++ of_part nodes value.Nil constant_in n ∷ []
one_more [] n within = absurd (omega (arith, within))
one_more (k ∷ nodes) zero within = refl
one_more (k ∷ nodes) (suc n) within =
    let one : suc n + 1 ≡ suc (n + 1) = omega arith in
    let less : n < length nodes = omega (arith, within) in
    subst (λ p. constants_of (take p (k ∷ nodes)) ≡ constants_of (take (suc n) (k ∷ nodes)) ++ of_part (k ∷ nodes) value.Nil constant_in (suc n) ∷ []) (sym one) (ap (λ vs. constant_in k.node ∷ vs) (one_more nodes n less))

pub all_taken : (nodes : List LinedNode) → constants_of (take (length nodes) nodes) ≡ constants_of nodes
all_taken [] = refl
all_taken (k ∷ nodes) = ap (λ vs. constant_in k.node ∷ vs) (all_taken nodes)

pub constant_there : (nodes : List LinedNode) (i : ℕ) (l : LinedNode) → slice_get nodes i ≡ Some l → slice_get (constants_of nodes) i ≡ Some (constant_in l.node)
constant_there [] zero l e = absurd (none_there LinedNode l e)
constant_there [] (suc i) l e = absurd (none_there LinedNode l e)
constant_there (k ∷ nodes) zero l e = ap (λ k. Some (constant_in k.node)) (same_some LinedNode k l e)
constant_there (k ∷ nodes) (suc i) l e = constant_there nodes i l e
