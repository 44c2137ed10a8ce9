-- Chunks with one tree have one code.
use Rattle.std.specs.Prelude.{◌≡◌, ℕ, ◌==◌, nat_lt, Bool, true, false, [], length, None, if◌then◌else◌, refl}
use Rattle.std.specs.List.{count_by}
use Rattle.std.proofs.Common.{ap, ◌∙◌, sym, arith}
use Rattle.lua_ast.specs.Tree.{Tree}
use Rattle.lua_ast.specs.Decode.{ChunkNodes, tree, own_number, Ordered}
use Rattle.lua_ast.specs.Once.{numbers_in, IsEachOnce}
use Rattle.lua_scope.specs.Walk.{walked}
use Rattle.lua_scope.specs.OfChunk.{occurrences_of}
use Rattle.lua_scope.specs.Scope.{first_variable}
use Rattle.lua_scope.specs.Variables.{variable_of, is_captured, captured_by}
use Rattle.lua_code.specs.CodeOf.{code_of}
use Rattle.lua_code.specs.SameCode.{SameCode}
use Rattle.lua_code.proofs.Parts.{one_if, same_trees}

cond_same : (a b : Bool) → one_if a ≡ one_if b → a ≡ b
cond_same true true e = refl
cond_same true false e = absurd (omega (arith, e))
cond_same false true e = absurd (omega (arith, e))
cond_same false false e = refl

-- both have a node under a number, or neither
same_within : (c d : ChunkNodes) → IsEachOnce c → IsEachOnce d → tree own_number c.nodes c.root ≡ tree own_number d.nodes d.root
    → (i : ℕ) → nat_lt i (length c.nodes) ≡ nat_lt i (length d.nodes)
same_within c d once as_well same i = cond_same (nat_lt i (length c.nodes)) (nat_lt i (length d.nodes))
    (sym (once i) ∙ (ap (λ (t : Tree). count_by (λ j. j == i) (numbers_in t)) same ∙ as_well i))

pub same_code : (c d : ChunkNodes) → Ordered c.nodes → Ordered d.nodes → IsEachOnce c → IsEachOnce d → tree own_number c.nodes c.root ≡ tree own_number d.nodes d.root → SameCode (code_of c) (code_of d)
unfolding code_of
same_code c d ordered also once as_well same = record {
  function = λ i. same_trees c d ordered also once as_well same i;
  variable = λ i. ap (λ (b : Bool). if b then variable_of (occurrences_of c) i else None) (same_within c d once as_well same i)
      ∙ ap (λ (t : Tree). if nat_lt i (length d.nodes) then variable_of (walked [] t) i else None) same;
  first_variable = λ i. ap (λ (b : Bool). if b then first_variable (occurrences_of c) i else 0) (same_within c d once as_well same i)
      ∙ ap (λ (t : Tree). if nat_lt i (length d.nodes) then first_variable (walked [] t) i else 0) same;
  is_captured = λ v. ap (λ (t : Tree). is_captured (walked [] t) v) same;
  captured = λ i. ap (λ (b : Bool). if b then captured_by (occurrences_of c) i else []) (same_within c d once as_well same i)
      ∙ ap (λ (t : Tree). if nat_lt i (length d.nodes) then captured_by (walked [] t) i else []) same;
}
