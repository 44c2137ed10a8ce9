-- What a step of the abstract machine keeps: its configuration, with what else there is, still means the whole program.
use Rattle.std.specs.Prelude.{◌≡◌, ℕ, Bool, true, false, List, slice_get, Some}
use Rattle.lua_ast.specs.declared.node.LinedNode.{LinedNode}
use Rattle.lua_ast.specs.Decode.{node_tree}
use Rattle.lua_meaning.specs.declared.value.Value.TheVariants as value
use Rattle.lua_meaning.specs.Store.{Store, store, Resumptions, Result, state_of, resumptions_of}
use Rattle.lua_meaning.specs.Code.{Code}
use Rattle.lua_meaning.specs.Jobs.{HostOf}
use Rattle.lua_meaning.specs.Laws.{Grows}
use Rattle.lua_steps.specs.declared.mode.Mode.{Mode}
use Rattle.lua_steps.specs.declared.mode.Mode.TheVariants as mode
use Rattle.lua_steps.specs.Parts.{part}
use Rattle.lua_steps.specs.Works.{Works}
use Rattle.lua_steps.specs.Configuration.{Configuration, Next}

-- The tree of each node is that of its parts.
abbrev pub AreTrees : List LinedNode → Type 0
AreTrees nodes = (i : ℕ) (l : LinedNode) → slice_get nodes i ≡ Some l → part nodes i ≡ node_tree (part nodes) i l.line l.node

-- The trees of the functions are those of these nodes.
abbrev pub AreFunctions : Code → List LinedNode → Type 0
AreFunctions code nodes = (i : ℕ) → code.function i ≡ part nodes i

-- calls of built-ins and iterator functions, which the host serves
abbrev pub is_hosted : Mode → Bool
is_hosted (mode.Call (value.Builtin b) args lines own) = true
is_hosted (mode.Call (value.Iter i) args lines own) = true
is_hosted a = false

module _ {H : Type 0} where
  -- the store of a configuration, with the coroutines and the host's state of another
  abbrev pub store_with : Configuration → Store H → Store H
  store_with x s = store (record (state_of s) { heap = x.heap }) x.below x.call (resumptions_of s)

-- What comes next still means the whole, and no limit is passed.
pub record Keeps {H : Type 0} (host : HostOf H) (code : Code) (nodes : List LinedNode) (ended : ℕ) (whole : ℕ → Resumptions H → Result H) (s : Store H) (x : Configuration) (y : Next) : Type 0 where
  pub works : Works host code nodes ended (store_with y.1 s) y.1.frames y.0 whole
  pub grows : Grows x.heap.used y.1.heap.used
