-- What leaves the tree.
use Rattle.std.specs.Prelude.{◌≡◌}
use Rattle.std.proofs.Common.{ap}
use Rattle.lua_meaning.specs.Heap.{HeapOf}
use Rattle.lua_meaning.specs.Jobs.{Answer}
use Rattle.zp_tree.specs.Tree.{Tree}
use Rattle.zcp_calls.specs.Answering.{Answering}
use Rattle.zcp_calls.specs.Syncing.{stays}

pub stays_left : (answer : Tree → Answering) (h h' : HeapOf) (t : Tree) (a : Answer) → answer t h ≡ (a, h') → stays answer h t ≡ (a, h', t)
stays_left answer h h' t a e = ap (λ (x : Answer × HeapOf). (x.0, x.1, t)) e
