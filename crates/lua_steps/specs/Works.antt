-- What a machine keeps: whatever is at work, its frames make the whole outcome of it.
use Rattle.std.specs.Prelude.{◌≡◌, ◌<◌, ◌≤◌, ℕ, ◌+◌, List, [], ◌∷◌}
use Rattle.lua_ast.specs.declared.node.LinedNode.{LinedNode}
use Rattle.lua_meaning.specs.Store.{Store, Resumptions, Result}
use Rattle.lua_meaning.specs.Code.{Code}
use Rattle.lua_meaning.specs.Runs.{used_of}
use Rattle.lua_meaning.specs.Jobs.{HostOf}
use Rattle.lua_coroutines.specs.declared.frame.Frame.{Frame}
use Rattle.lua_steps.specs.declared.mode.Mode.{Mode}
use Rattle.lua_steps.specs.declared.mode.Mode.TheVariants as mode
use Rattle.lua_steps.specs.Frames.{goes_on, means}

-- a jump has used an instruction that its block has not been given yet
abbrev pub spare : Mode → ℕ
spare (mode.Jump i) = 1
spare _ = 0

-- how much more fuel than the limit leaves is wanted where frames are put on without an instruction
abbrev pub need : Mode → ℕ
need (mode.Targets node next ts) = 1
need (mode.Stores node ts xs) = 1
need (mode.Fields node next t c) = 1
need (mode.Items node next t c vs) = 1
need (mode.Entry node next t c key v) = 1
need (mode.Turn node outer) = 1
need (mode.Start node a b c) = 1
need (mode.Count node at limit step outer) = 1
need (mode.Round node outer) = 1
need (mode.Next node f state control outer) = 1
need (mode.Each node f state outer vs) = 1
need (mode.Apply node f vs) = 1
need (mode.Call f args lines own) = 1
need _ = 0

module _ {H : Type 0} where
  abbrev pub used : Store H → ℕ
  used s = (used_of s).instructions

  abbrev pub limit : Store H → ℕ
  limit s = (used_of s).most_instructions

  -- a step from one store to another
  pub record Goes (s s' : Store H) : Type 0 where
    pub same_limit : limit s' ≡ limit s
    pub since : used s ≤ used s'

module _ {H : Type 0} (host : HostOf H) (code : Code) (nodes : List LinedNode) where
  -- The frames, the top first, make the whole outcome of the outcome above them. Each has fuel for more than the limit leaves.
  abbrev pub Leads : (m limit used : ℕ) → List Frame → Result H → Result H → Type 0
  Leads m limit used [] o whole = o ≡ whole
  Leads m limit used (f ∷ fs) o whole = (n : ℕ) × (limit + 1 < used + n) × Leads m limit used fs (goes_on host code nodes m n f o) whole

  -- from here, with this much of the resumptions left to a rerun, the run ends in `whole`
  pub record Ends (m : ℕ) (s : Store H) (r : Resumptions H) (frames : List Frame) (next : Mode) (whole : Result H) : Type 0 where
    pub fuel : ℕ
    pub enough : limit s + need next < used s + fuel
    pub since : ℕ
    pub before : since + spare next ≤ used s
    pub leads : Leads m (limit s) since frames (means host code nodes m fuel next s r) whole

  -- for every fuel from the number of resumptions that have ended, and whatever a rerun has left
  pub record Works (ended : ℕ) (s : Store H) (frames : List Frame) (next : Mode) (whole : ℕ → Resumptions H → Result H) : Type 0 where
    pub ends : (m : ℕ) (r : Resumptions H) → ended ≤ m → Ends m s r frames next (whole m r)

  -- the frames make `whole` of an outcome that is still to come
  pub record Awaits (ended : ℕ) (s : Store H) (frames : List Frame) (outcome whole : ℕ → Resumptions H → Result H) : Type 0 where
    pub leads : (m : ℕ) (r : Resumptions H) → ended ≤ m → (since : ℕ) × (since ≤ used s) × Leads m (limit s) since frames (outcome m r) (whole m r)
