-- What contracts see of a pass, and what is true of it.
use Rattle.std.specs.Prelude.{◌≡◌, ℕ, ◌+◌, ◌-◌, ◌<◌, Bool, false, List, [], ◌∷◌, ◌++◌, length, slice_index}
use Rattle.std.specs.List.{AllByRecursion}
use Rattle.turn_lock.specs.Seats.{LockId, SeatView}
use Rattle.txg_core.specs.Rules.{Meaning, Origin}
use Rattle.txg_core.specs.Openings.{origin_at}
use Rattle.txg_core.specs.History.{maker_of}
use Rattle.txg_core.specs.Serial.{next}
use Rattle.txg_core.specs.Sessions.{phase, is_busy}
use Rattle.txg_core.specs.Enabled.{Legal}
use Rattle.txg_core.specs.Laws.{NoneBy}
use Rattle.txg_core.specs.declared.event.Entry.{Entry}
use Rattle.txg_core.specs.declared.origin.Opening.{Opening}
use Rattle.shared_pool.specs.declared.progress.Progress.{Progress}

-- the pool, where its histories begin, the session, the history that the pass has seen, the newest entry first, and how many turns it had
pub record PassView (O C : Type 0) : Type 0 where
  pub pool : LockId
  pub opening : Opening O
  pub session : ℕ
  pub front : List (Entry C)
  pub turns : ℕ

-- the same of the pass that moves the groups on
pub record SyncPassView (O C : Type 0) : Type 0 where
  pub pool : LockId
  pub opening : Opening O
  pub front : List (Entry C)
  pub turns : ℕ

-- the history begins with what was seen, and goes on by entries of other makers
pub record GrowsByOthers {C : Type 0} (maker : ℕ) (front h : List (Entry C)) : Type 0 where
  pub later : List (Entry C)
  pub is : h ≡ later ++ front
  pub none_own : NoneBy maker later

-- the history begins with what was seen, and goes on by entries of this maker
pub record GrowsByOwn {C : Type 0} (maker : ℕ) (front h : List (Entry C)) : Type 0 where
  pub later : List (Entry C)
  pub is : h ≡ later ++ front
  pub each_own : AllByRecursion (λ e. maker_of e ≡ maker) later

-- a call of a pass: others went on from its front to a history, then `makes` gave that its last entries; the whole is legal
pub record GoesOn {W C R : Type 0} (o : Origin W C R) (maker : ℕ) (front : List (Entry C)) (makes : List (Entry C) → List (Entry C) → Type 0) (new : List (Entry C)) : Type 0 where
  pub found : List (Entry C)
  pub others : GrowsByOthers maker front found
  pub made : makes found new
  pub legal : Legal o new

module _ {O W C R : Type 0} (means : O → Meaning W C R) where
  -- a seat outside its turns that has this number alone, and has seen a legal history
  pub record IsSeatOfMaker (seat : SeatView (Opening O) (Entry C)) (maker : ℕ) : Type 0 where
    pub free : seat.has_turn ≡ false
    pub numbers : seat.numbers ≡ maker ∷ []
    pub legal : Legal (origin_at means seat.origin) seat.seen

  -- a call of the pass's session is under way
  abbrev pub is_pass_busy : PassView O C → Bool
  is_pass_busy p = is_busy (phase (origin_at means p.opening) p.front p.session)

  -- how many of the session's calls are not ended
  abbrev pub calls_left : PassView O C → ℕ
  calls_left p = slice_index p.opening.counts p.session - next (origin_at means p.opening) p.front p.session

-- how far the session is after a history
pub record IsProgressOf {W C R : Type 0} (o : Origin W C R) (h : List (Entry C)) (s : ℕ) (p : Progress) : Type 0 where
  pub number : p.next ≡ next o h s
  pub under_way : p.busy ≡ is_busy (phase o h s)
  pub entries : p.seen ≡ length h

pub record IsPass {O W C R : Type 0} (means : O → Meaning W C R) (seat : SeatView (Opening O) (Entry C)) (session count : ℕ) (p : Progress) : Type 0 where
  pub seat_is : IsSeatOfMaker means seat (session + 1)
  pub there : session < length seat.origin.counts
  pub count_is : count ≡ slice_index seat.origin.counts session
  pub progress_is : IsProgressOf (origin_at means seat.origin) seat.seen session p

pub record IsSyncPass {O W C R : Type 0} (means : O → Meaning W C R) (seat : SeatView (Opening O) (Entry C)) (entries : ℕ) : Type 0 where
  pub seat_is : IsSeatOfMaker means seat 0
  pub entries_are : entries ≡ length seat.seen

-- the same pass, which may have seen more and had more turns
abbrev pub IsSamePass : {O C : Type 0} → PassView O C → PassView O C → Type 0
IsSamePass p q = (q.pool ≡ p.pool) × (q.opening ≡ p.opening) × (q.session ≡ p.session)

abbrev pub IsSameSyncPass : {O C : Type 0} → SyncPassView O C → SyncPassView O C → Type 0
IsSameSyncPass p q = (q.pool ≡ p.pool) × (q.opening ≡ p.opening)
