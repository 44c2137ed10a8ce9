-- A table with names as its keys.
use Rattle.std.specs.Prelude.{ℕ, List, Option, Vec}
use Rattle.std.specs.Ordering.{nat_cmp}
use Rattle.std.specs.Cmp.Lexicographic.{slice_cmp}
use Rattle.std.specs.BTreeMap.{BTreeMap, get_by}

-- what the table has at a name
abbrev pub at_name : {X Z : Type 0} → List ℕ → BTreeMap (Vec ℕ Z) X → Option X
at_name x table = get_by (λ k. slice_cmp nat_cmp x k.items) table
