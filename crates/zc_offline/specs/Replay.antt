-- A core at work on the calls of some sessions, whatever its object.
use Rattle.std.specs.Prelude.{◌≡◌, ℕ, ◌<◌, ◌^◌, false, List, [], ◌∷◌, All, length, map, take, slice_get, slice_index_or, Option, Some, IsSome, IsTrue, option_and_then, Result, MatchResult}
use Rattle.std.specs.List.{range_with_len}
use Rattle.txg_core.specs.Rules.{Meaning, Origin}
use Rattle.txg_core.specs.declared.event.Entry.{Entry}
use Rattle.txg_core.specs.Serial.{next, given}
use Rattle.txg_core.specs.Calls.{CarriesCalls, IsHistoryOf, MayFollow, entry_of}
use Rattle.txg_core.specs.Enabled.{Legal, MayCome}
use Rattle.txg_core.specs.Stands.{Stands, IsStanding}
use Rattle.txg_core.specs.Allowed.{allows}
use Rattle.txg_core.specs.declared.event.Event.{Event}
use Rattle.zc_offline.specs.declared.replay.Run.{Run}
use Rattle.zc_offline.specs.declared.replay.Stop.{Stop}
use Rattle.zc_offline.specs.declared.replay.Stop.TheVariants.{NotEnabled, NoMemory}

-- call n of session s
abbrev pub call_in : {C : Type 0} → List (List C) → ℕ → ℕ → Option C
call_in sessions s n = option_and_then (λ calls. slice_get calls n) (slice_get sessions s)

-- the replies that each session was given
abbrev pub all_given : {W C R : Type 0} → Origin W C R → List (Entry C) → List (List R)
all_given o h = map (given o h) (range_with_len 0 (length o.counts))

-- the run of these sessions stands for this history
pub record Follows {O W C R : Type 0} (means : O → Meaning W C R) (o : Origin W C R) (sessions : List (List C)) (run : Run O C R) (h : List (Entry C)) : Type 0 where
  pub stands : Stands means o run.core h
  pub unspent : run.core.spent ≡ false
  pub counts : o.counts ≡ map length sessions
  pub short : All (λ calls. length calls < 2 ^ 32) sessions
  pub carries : CarriesCalls o (call_in sessions) h
  pub replies : run.replies.items ≡ all_given o h

-- it stands for some history
abbrev pub IsFollowing : {O W C R : Type 0} → (O → Meaning W C R) → List (List C) → Run O C R → Type 0
IsFollowing {W = W} {C = C} {R = R} means sessions run = (o : Origin W C R) × ((h : List (Entry C)) × Follows means o sessions run h)

-- the run goes on: its core allows the event, which after each history that the run stands for may come, but for the
-- kind of its call
pub record IsReady {O W C R : Type 0} (means : O → Meaning W C R) (sessions : List (List C)) (run : Run O C R) (event : Event) : Type 0 where
  pub following : IsFollowing means sessions run
  pub standing : IsStanding means run.core
  pub allowed : IsTrue (allows run.core event)
  pub may_come : (o : Origin W C R) (h : List (Entry C)) → Follows means o sessions run h → MayCome o h event

-- it may come after none
abbrev pub IsBarred : {O W C R : Type 0} → (O → Meaning W C R) → List (List C) → Run O C R → Event → Type 0
IsBarred {W = W} {C = C} {R = R} means sessions run event = (o : Origin W C R) (h : List (Entry C)) → Follows means o sessions run h → ¬ MayFollow o (call_in sessions) h event

-- after each history that the run stands for, the session is there and has a next call
abbrev pub HasNext : {O W C R : Type 0} → (O → Meaning W C R) → List (List C) → Run O C R → ℕ → Type 0
HasNext {W = W} {C = C} {R = R} means sessions run s = (o : Origin W C R) (h : List (Entry C)) → Follows means o sessions run h →
    (s < length o.counts) × IsSome (call_in sessions s (next o h s))

-- .. and this is its next call
abbrev pub NextIs : {O W C R : Type 0} → (O → Meaning W C R) → List (List C) → Run O C R → ℕ → C → Type 0
NextIs {W = W} {C = C} {R = R} means sessions run s c = (o : Origin W C R) (h : List (Entry C)) → Follows means o sessions run h →
    (s < length o.counts) × (call_in sessions s (next o h s) ≡ Some c)

-- the event came next
pub record WentOn {O W C R : Type 0} (means : O → Meaning W C R) (o : Origin W C R) (sessions : List (List C)) (run : Run O C R) (h : List (Entry C)) (event : Event) : Type 0 where
  pub entry : Entry C
  pub is : entry_of o (call_in sessions) h event ≡ Some entry
  pub follows : Follows means o sessions run (entry ∷ h)

abbrev pub IsRefusedFor : Stop → Type 0 → Type 0
IsRefusedFor NotEnabled reason = reason
IsRefusedFor NoMemory reason = Unit {0}

-- the event is done, or it is not enabled, or memory was wanting
abbrev pub Does : {O W C R : Type 0} → (O → Meaning W C R) → List (List C) → Run O C R → Run O C R → Result (Unit {0}) Stop → Event → Type 0
Does {W = W} {C = C} {R = R} means sessions old new result event = (o : Origin W C R) (h : List (Entry C)) → Follows means o sessions old h →
    MatchResult result (λ _. WentOn means o sessions new h event) (λ stop. IsRefusedFor stop (¬ MayFollow o (call_in sessions) h event))

-- how many replies the session was given
abbrev pub number_in : {R : Type 0} → List (List R) → ℕ → ℕ
number_in replies s = length (slice_index_or replies s [])

-- event i is the first of the schedule that is not enabled after those before it
pub record StopsAt {W C R : Type 0} (o : Origin W C R) (sessions : List (List C)) (schedule : List Event) (i : ℕ) : Type 0 where
  pub history : List (Entry C)
  pub before : IsHistoryOf o (call_in sessions) (take i schedule) history
  pub legal : Legal o history
  pub event : Event
  pub there : slice_get schedule i ≡ Some event
  pub refused : ¬ MayFollow o (call_in sessions) history event
