-- Where the gotos of small texts lead, worked out as a reader would.
use Rattle.std.specs.Prelude.{◌≡◌, ◌≤◌, true, false, [], ◌∷◌, codes, refl}
use Rattle.std.proofs.Common.{inl, inr, arith}
use Rattle.lua_ast.specs.Tree.{Tree, Block, Local, Assign, Do, Goto, Label, Function, Name, none, snoc}
use Rattle.lua_scope.specs.Gotos.{gotos, gotos_of}
use Rattle.lua_scope.specs.Jumps.{Nowhere, no_block, lacking, Innermost, here, further_out, Reaches, JumpsOver}

abbrev goes : Tree
goes = Goto 0 3 (codes "l")

abbrev local_x : Tree
local_x = Local 0 4 (codes "x" ∷ []) none

-- local x do goto l end ::l:: local x
abbrev out_of_a_block : Tree
out_of_a_block = Block 0 1 (snoc (snoc (snoc (snoc none local_x) (Do 0 2 (Block 0 3 (snoc none goes)))) (Label 0 5 (codes "l"))) local_x)

its_goto : gotos_of out_of_a_block ≡ record {
  line = 3;
  label = codes "l";
  around = record { repeats = false; before = none; after = goes ∷ [] }
      ∷ record { repeats = false; before = snoc none local_x; after = Do 0 2 (Block 0 3 (snoc none goes)) ∷ Label 0 5 (codes "l") ∷ local_x ∷ [] } ∷ [];
} ∷ []
unfolding gotos
its_goto = refl

it_lands : Innermost (codes "l") (Reaches (codes "l"))
    (record { repeats = false; before = none; after = goes ∷ [] }
    ∷ record { repeats = false; before = snoc none local_x; after = Do 0 2 (Block 0 3 (snoc none goes)) ∷ Label 0 5 (codes "l") ∷ local_x ∷ [] } ∷ [])
it_lands = further_out refl (here (snoc (snoc none (Label 0 5 (codes "l"))) local_x) refl (inl (let as_many : 1 ≤ 1 = omega arith in as_many)))

-- goto l local x ::l:: and then nothing
it_lands_at_the_end : Innermost (codes "l") (Reaches (codes "l")) (record { repeats = false; before = none; after = goes ∷ local_x ∷ Label 0 5 (codes "l") ∷ [] } ∷ [])
it_lands_at_the_end = here (snoc none (Label 0 5 (codes "l"))) refl (inr refl)

-- goto l local x ::l:: local x
it_jumps_over : Innermost (codes "l") (JumpsOver (codes "l")) (record { repeats = false; before = none; after = goes ∷ local_x ∷ Label 0 5 (codes "l") ∷ local_x ∷ [] } ∷ [])
it_jumps_over = here (snoc (snoc none (Label 0 5 (codes "l"))) local_x) refl (record { within = refl; behind = refl; between = refl })

-- repeat goto l local x ::l:: until x
it_jumps_over_in_a_repeat : Innermost (codes "l") (JumpsOver (codes "l")) (record { repeats = true; before = none; after = goes ∷ local_x ∷ Label 0 5 (codes "l") ∷ [] } ∷ [])
it_jumps_over_in_a_repeat = here (snoc none (Label 0 5 (codes "l"))) refl (record { within = refl; behind = refl; between = refl })

-- ::l:: f = function() goto l end
abbrev out_of_a_function : Tree
out_of_a_function = Block 0 1 (snoc (snoc none (Label 0 1 (codes "l"))) (Assign 0 2 (snoc none (Name 0 2 (codes "f"))) (snoc none (Function 0 2 [] false (Block 0 3 (snoc none goes))))))

it_stays_inside : gotos_of out_of_a_function ≡ record { line = 3; label = codes "l"; around = record { repeats = false; before = none; after = goes ∷ [] } ∷ [] } ∷ []
unfolding gotos
it_stays_inside = refl

it_is_lost : Nowhere (codes "l") (record { repeats = false; before = none; after = goes ∷ [] } ∷ [])
it_is_lost = lacking refl no_block
