-- What each worker of a run needs, and what it leaves.
use Rattle.std.specs.Prelude.{◌≡◌, ◌≤◌, List, [], ◌∷◌, ◌++◌, length, map, reverse, slice_get, Option, Some, IfSome}
use Rattle.std.specs.declared.vec.Vec.{Vec}
use Rattle.std.specs.declared.alloc.Global.{Global}
use Rattle.turn_lock.specs.Seats.{LockId}
use Rattle.txg_core.specs.Rules.{Meaning}
use Rattle.txg_core.specs.Openings.{origin_at}
use Rattle.shared_pool.specs.Passes.{PassView, SyncPassView, IsSamePass, IsSameSyncPass}
use Rattle.sessions.specs.declared.worker.Caller.{Caller}
use Rattle.sessions.specs.declared.worker.Worker.{Worker}
use Rattle.sessions.specs.declared.worker.Worker.TheVariants.{Session, Groups}
use Rattle.sessions.specs.declared.crew.Parts.{Parts}
use Rattle.sessions.specs.Serving.{Serves, MayMake}

-- a session's worker made its calls, and keeps the replies where it was given all
pub record Served {O W C R : Type 0} (means : O → Meaning W C R) (old new : Caller O C R) : Type 0 where
  pub same : IsSamePass old.pass new.pass
  pub served : IfSome new.replies (λ replies. Serves (origin_at means old.pass.opening) old.pass.session old.pass.front (reverse old.calls.items) replies new.pass.front)

-- a worker of this pool may begin
abbrev pub MayWork : {O W C R : Type 0} → (O → Meaning W C R) → LockId → Worker O C R → Type 0
MayWork means pool (Session c) = (c.pass.pool ≡ pool) × MayMake means c.pass (reverse c.calls.items)
MayWork means pool (Groups p) = p.pool ≡ pool

-- what it leaves
abbrev pub HasWorked : {O W C R : Type 0} → (O → Meaning W C R) → Worker O C R → Worker O C R → Type 0
HasWorked means (Session c) (Session d) = Served means c d
HasWorked means (Groups p) (Groups q) = IsSameSyncPass p q
HasWorked means _ _ = ⊥

module _ {O C R : Type 0} where
  -- the passes of sessions, in the workers' order
  abbrev pub passes_in : List (Worker O C R) → List (PassView O C)
  passes_in [] = []
  passes_in (Session c ∷ ws) = c.pass ∷ passes_in ws
  passes_in (Groups p ∷ ws) = passes_in ws

  -- the calls of each session, the last one first
  abbrev pub calls_in : List (Worker O C R) → List (Vec C Global)
  calls_in [] = []
  calls_in (Session c ∷ ws) = c.calls ∷ calls_in ws
  calls_in (Groups p ∷ ws) = calls_in ws

  -- what each session was given, if it was given all
  abbrev pub replies_in : List (Worker O C R) → List (Option (List R))
  replies_in [] = []
  replies_in (Session c ∷ ws) = c.replies ∷ replies_in ws
  replies_in (Groups p ∷ ws) = replies_in ws

  -- the passes that move the groups on
  abbrev pub groups_in : List (Worker O C R) → List (SyncPassView O C)
  groups_in [] = []
  groups_in (Session c ∷ ws) = groups_in ws
  groups_in (Groups p ∷ ws) = p ∷ groups_in ws

  -- the workers of a run at its begin: these passes with these calls, and one that moves the groups on
  pub record IsCrew (passes : List (PassView O C)) (calls : List (Vec C Global)) (sync : SyncPassView O C) (workers : List (Worker O C R)) : Type 0 where
    pub passes_are : passes_in workers ≡ passes
    pub calls_are : calls_in workers ≡ calls
    pub groups_are : groups_in workers ≡ sync ∷ []

  -- the crew is being made of these passes and calls, of which those in front are left
  pub record MakesCrew (passes left_passes : List (PassView O C)) (calls left_calls : List (Vec C Global)) (sync : SyncPassView O C) (workers : List (Worker O C R)) : Type 0 where
    pub as_many : length left_passes ≡ length left_calls
    pub few : length left_passes ≤ 16
    pub passes_are : passes ≡ left_passes ++ passes_in workers
    pub calls_are : calls ≡ left_calls ++ calls_in workers
    pub groups_are : groups_in workers ≡ sync ∷ []

  -- what was taken of these workers
  pub record ArePartsOf (workers : List (Worker O C R)) (parts : Parts O C R) : Type 0 where
    pub passes_are : parts.passes.items ≡ passes_in workers
    pub replies_are : map Some parts.replies.items ≡ replies_in workers
    pub groups_are : parts.groups ≡ slice_get (groups_in workers) 0
