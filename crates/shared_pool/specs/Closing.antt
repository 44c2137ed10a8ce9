-- The first and the last of a pool.
use Rattle.std.specs.Prelude.{◌≡◌, ℕ, zero, suc, ◌+◌, List, [], ◌∷◌, length, map}
use Rattle.std.specs.List.{AllByRecursion}
use Rattle.turn_lock.specs.Seats.{LockId, LockView}
use Rattle.txg_core.specs.Rules.{Meaning}
use Rattle.txg_core.specs.Openings.{origin_at}
use Rattle.txg_core.specs.History.{journal_of, synced}
use Rattle.txg_core.specs.Serial.{world}
use Rattle.txg_core.specs.Enabled.{Legal}
use Rattle.txg_core.specs.declared.event.Entry.{Entry}
use Rattle.txg_core.specs.declared.origin.Opening.{Opening}
use Rattle.shared_pool.specs.declared.answers.Closed.{Closed}
use Rattle.shared_pool.specs.Passes.{PassView, SyncPassView, GrowsByOthers}

-- the pass of a session that has seen nothing
abbrev pub first_pass : {O C : Type 0} → LockId → Opening O → ℕ → PassView O C
first_pass pool opening s = record { pool = pool; opening = opening; session = s; front = []; turns = 0 }

-- those of n sessions, the first of which is s
abbrev pub passes_from : {O C : Type 0} → LockId → Opening O → ℕ → ℕ → List (PassView O C)
passes_from pool opening s zero = []
passes_from pool opening s (suc n) = first_pass pool opening s ∷ passes_from pool opening (s + 1) n

-- a pool that begins so, a pass for each session, in their order, and the one that syncs; none has seen anything
pub record IsNewPool {O C : Type 0} (opening : Opening O) (pool : LockView) (passes : List (PassView O C)) (sync : SyncPassView O C) : Type 0 where
  pub numbers_are : pool.numbers ≡ length opening.counts + 1
  pub passes_are : passes ≡ passes_from pool.id opening 0 (length opening.counts)
  pub sync_is : sync ≡ record { pool = pool.id; opening = opening; front = []; turns = 0 }

-- the numbers of the makers whose passes these are
abbrev pub makers_of : {O C : Type 0} → List (PassView O C) → List ℕ
makers_of passes = map (λ p. p.session + 1) passes

-- each pass has seen the front of a history, which has no further entry of its maker
abbrev pub AllSawFronts : {O C : Type 0} → List (Entry C) → List (PassView O C) → Type 0
AllSawFronts h passes = AllByRecursion (λ p. GrowsByOthers (p.session + 1) p.front h) passes

-- the object, the journal and the synced group are those of this legal history
pub record IsEnd {O W C R : Type 0} (means : O → Meaning W C R) (opening : Opening O) (h : List (Entry C)) (closed : Closed O) : Type 0 where
  pub legal : Legal (origin_at means opening) h
  pub rules : (means closed.object).rules ≡ (origin_at means opening).rules
  pub world_is : (means closed.object).world ≡ world (origin_at means opening) h
  pub journal : closed.journal.items ≡ journal_of h
  pub group : closed.synced ≡ synced h

-- one legal history is what is left, and each pass had seen a front of it
pub record IsClosed {O W C R : Type 0} (means : O → Meaning W C R) (sync : SyncPassView O C) (passes : List (PassView O C)) (closed : Closed O) : Type 0 where
  pub history : List (Entry C)
  pub end : IsEnd means sync.opening history closed
  pub sync_front : GrowsByOthers 0 sync.front history
  pub fronts : AllSawFronts history passes
