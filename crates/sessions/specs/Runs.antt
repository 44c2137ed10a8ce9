-- What a run is.
use Rattle.std.specs.Prelude.{◌≡◌, ℕ, List, length, map, reverse, slice_get, slice_index, Option, option_and_then}
use Rattle.std.specs.List.{range_with_len}
use Rattle.std.specs.declared.vec.Vec.{Vec}
use Rattle.std.specs.declared.alloc.Global.{Global}
use Rattle.txg_core.specs.Rules.{Meaning, Origin, origin_of}
use Rattle.txg_core.specs.History.{synced}
use Rattle.txg_core.specs.Serial.{world, next, given}
use Rattle.txg_core.specs.Enabled.{Legal}
use Rattle.txg_core.specs.Calls.{IsHistoryOf}
use Rattle.txg_core.specs.declared.event.Entry.{Entry}
use Rattle.sessions.specs.declared.run.Run.{Run}

-- call n of session s
abbrev pub call_numbered : {C : Type 0} → List (List C) → ℕ → ℕ → Option C
call_numbered sessions s n = option_and_then (λ calls. slice_get calls n) (slice_get sessions s)

-- the replies that each session was given, in the order of the sessions
abbrev pub given_to_each : {W C R : Type 0} → Origin W C R → List (Entry C) → List (List R)
given_to_each o h = map (given o h) (range_with_len 0 (length o.counts))

-- lists that are kept with the last element first, in order
abbrev pub in_order : {X : Type 0} → List (Vec X Global) → List (List X)
in_order lists = map (λ list. reverse list.items) lists

-- there is a legal history in which each session made its calls, all of them and in turn: the journal is its events, the replies are those that each session was given there, the object has its world and the rules that it had before, the synced group is its
pub record IsRun {O W C R : Type 0} (means : O → Meaning W C R) (object : O) (sessions : List (List C)) (run : Run O C R) : Type 0 where
  pub history : List (Entry C)
  pub legal : Legal (origin_of (means object) (map length sessions)) history
  pub is : IsHistoryOf (origin_of (means object) (map length sessions)) (call_numbered sessions) run.journal.items history
  pub whole : (s : ℕ) → next (origin_of (means object) (map length sessions)) history s ≡ slice_index (map length sessions) s
  pub replies_are : run.replies.items ≡ given_to_each (origin_of (means object) (map length sessions)) history
  pub rules : (means run.object).rules ≡ (means object).rules
  pub world_is : (means run.object).world ≡ world (origin_of (means object) (map length sessions)) history
  pub group : run.synced ≡ synced history
