-- The walk through the text of a chunk meets each of its nodes.
use Rattle.std.specs.Prelude.{◌≡◌, ℕ, zero, suc, ◌+◌, ◌<◌, ◌==◌, ◌||◌, nat_lt, cond, Bool, true, false, List, [], ◌∷◌, length, Some, refl}
use Rattle.std.specs.List.{list_any}
use Rattle.std.proofs.Common.{ap, sym, ◌∙◌, arith}
use Rattle.std.proofs.lemmas.Bool.Decides.{nat_tests}
use Rattle.lua_ast.specs.declared.node.Node.{Node}
use Rattle.lua_ast.specs.declared.node.LinedNode.{LinedNode}
use Rattle.lua_ast.specs.Decode.{ChunkNodes, Ordered, tree, own_number, node_at}
use Rattle.lua_ast.specs.Once.{numbers_in, IsEachOnce}
use Rattle.lua_parser.specs.Parsing.{tree_of}
use Rattle.lua_scope.specs.declared.occurrence.Occurrence.{Occurrence}
use Rattle.lua_scope.specs.Loads.{LoadsAs}
use Rattle.lua_scope.specs.OfChunk.{occurrences_of}
use Rattle.lua_scope.specs.Meets.{Meets, occurrence_at}
use Rattle.lua_scope.proofs.ToldOnce.{hits, hits_count}
use Rattle.lua_scope.proofs.GrammarBlocks.{numbered_blocks}
use Rattle.lua_scope.proofs.EachMet.{node_met}

lower : (nodes : List LinedNode) (i : ℕ) (n : Node) → node_at nodes i ≡ Some n → i < length nodes
lower [] i n e = absurd cc
lower (m ∷ nodes) zero n e = omega arith
lower (m ∷ nodes) (suc i) n e = omega (arith, lower nodes i n e)

is_lower : (i k : ℕ) → i < k → nat_lt i k ≡ true
is_lower i k h = grind (arith, nat_tests)

-- a number that is counted once is there
first_or_later : (i x : ℕ) (xs : List ℕ) (b : Bool) → (x == i) ≡ b → hits i (x ∷ xs) ≡ 1 → (hits i xs ≡ 1 → list_any (λ j. j == i) xs ≡ true) → list_any (λ j. j == i) (x ∷ xs) ≡ true
first_or_later i x xs true is e later = ap (λ (b : Bool). b || list_any (λ j. j == i) xs) is
first_or_later i x xs false is e later =
    let rest : hits i xs ≡ 1 = omega (arith, ap (λ (b : Bool). cond b 1 0 + hits i xs) (sym is) ∙ e) in
    ap (λ (b : Bool). b || list_any (λ j. j == i) xs) is ∙ later rest

counted : (i : ℕ) (xs : List ℕ) → hits i xs ≡ 1 → list_any (λ j. j == i) xs ≡ true
counted i [] e = absurd (omega (arith, e))
counted i (x ∷ xs) e = first_or_later i x xs (x == i) refl e (counted i xs)

in_tree : (c : ChunkNodes) (i : ℕ) (n : Node) → IsEachOnce c → node_at c.nodes i ≡ Some n → list_any (λ j. j == i) (numbers_in (tree own_number c.nodes c.root)) ≡ true
in_tree c i n each at =
    counted i (numbers_in (tree own_number c.nodes c.root))
    (hits_count i (numbers_in (tree own_number c.nodes c.root)) ∙ (each i ∙ ap (λ (b : Bool). cond b 1 0) (is_lower i (length c.nodes) (lower c.nodes i n at))))

pub each_node_met : (text : List ℕ) (c : ChunkNodes) (i : ℕ) (n : Node) (e : Occurrence) → Ordered c.nodes → LoadsAs text (tree_of c) → IsEachOnce c
    → node_at c.nodes i ≡ Some n → occurrence_at i n ≡ Some e → (before : List Occurrence) × Meets (occurrences_of c) before e
each_node_met text c i n e ordered loads each at tells =
    node_met c ordered (numbered_blocks text loads.is_text.tokens c loads.is_text.parses) i n e (in_tree c i n each at) at tells
