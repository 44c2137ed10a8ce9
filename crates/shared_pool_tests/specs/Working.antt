-- A counter that sessions share.
use Rattle.std.specs.Prelude.{◌≡◌, ℕ, List}
use Rattle.txg_core.specs.declared.event.Entry.{Entry}
use Rattle.txg_core.specs.declared.origin.Opening.{Opening}
use Rattle.shared_pool.specs.declared.answers.Closed.{Closed}
use Rattle.turn_lock.specs.Seats.{LockView}
use Rattle.shared_pool.specs.Passes.{PassView, SyncPassView}
use Rattle.shared_pool.specs.Closing.{IsEnd}
use Rattle.shared_pool_tests.specs.declared.counter.Request.{Request}
use Rattle.shared_pool_tests.specs.declared.counter.Counter.{Counter}
use Rattle.txg_core.specs.Rules.{Meaning}
use Rattle.shared_pool_tests.specs.Requests.{request_rules}

-- what a counter means
abbrev pub counter_means : Counter → Meaning ℕ Request ℕ
counter_means c = record { rules = request_rules; world = c.value }

-- there is a legal history of sessions with these numbers of calls, and what is left is its end
abbrev pub EndsLegally : ℕ → List ℕ → Closed Counter → Type 0
EndsLegally value counts closed = (h : List (Entry Request)) × IsEnd counter_means (record { object = record { value = value }; counts = counts }) h closed

-- a pool with the one pass of its one session, and the one that moves its groups on
pub record IsForOne {O C : Type 0} (pool : LockView) (pass : PassView O C) (sync : SyncPassView O C) : Type 0 where
  pub numbers : pool.numbers ≡ 2
  pub own : pass.pool ≡ pool.id
  pub session : pass.session ≡ 0
  pub sync_own : sync.pool ≡ pool.id
