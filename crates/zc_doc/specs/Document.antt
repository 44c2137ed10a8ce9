-- Which document the bytes are: one JSON object (RFC 8259), or its first refusal.
use Rattle.std.specs.Prelude.{◌≡◌, ⊤, ℕ, ◌-◌, ◌^◌, nat_lt, if◌then◌else◌, List, [], ◌∷◌, length, codes, Option, Some, None, option_map, Result, Ok, Err}
use Rattle.std.specs.Str.{is_utf8}
use Rattle.serde_json.specs.Data.{Data, null, boolean, number, string, array, object, Items, no_items, item}
use Rattle.serde_json.specs.Read.{read}
use Rattle.txg_core.specs.declared.event.Event.{Event}
use Rattle.txg_core.specs.declared.event.Step.{Step}
use Rattle.txg_core.specs.declared.event.Transition.{Transition}
use Rattle.txg_core.specs.Events.{event_of_step, event_of_transition, step_named, transition_named}
use Rattle.zp_tree.specs.Tree.{Tree}
use Rattle.zp_tree.specs.NewPool.{new_pool}
use Rattle.zp_calls.specs.declared.call.Call.{Call}
use Rattle.zc_doc.specs.declared.document.Document.{Document}
use Rattle.zc_doc.specs.declared.error.DocError.{DocError}
use Rattle.zc_doc.specs.declared.error.DocError.TheVariants.{TooLong, NotJson, BadType, BadLimit}
use Rattle.zc_doc.specs.declared.program.Program.{Program}
use Rattle.zc_doc.specs.declared.document.Need.{Need}
use Rattle.zc_doc.specs.declared.document.Need.TheVariants as need
use Rattle.zc_doc.specs.Reading.{◌>>=◌, Fails, number_at, member, member_or, is_among, only_members, array_at}
use Rattle.zc_doc.specs.Calls.{pool_at, command_at, call_at}
use Rattle.zc_doc.specs.Programs.{programs_at}
use Rattle.zc_doc.specs.Setup.{set_up}

-- ---- events

-- what a known word names
abbrev pub known_word : {A : Type 0} → Option A → Result A DocError
known_word None = Err (BadType [])
known_word (Some x) = Ok x

-- a session below the number of sessions
abbrev pub session_among : ℕ → ℕ → Result ℕ DocError
session_among sessions s = if nat_lt s sessions then Ok s else Err (BadLimit [])

abbrev pub session_number_at : ℕ → Data → Result ℕ DocError
session_number_at sessions d = number_at 0 (2 ^ 64 - 1) d >>= session_among sessions

-- the move of a group that a word names
unfoldable pub group_event : List ℕ → Result Event DocError
group_event word = known_word (transition_named word) >>= λ transition. Ok (event_of_transition transition)

-- the step of a session that a word names
unfoldable pub session_event : ℕ → List ℕ → Data → Result Event DocError
session_event sessions word d = do
  step ← known_word (step_named word)
  s ← session_number_at sessions d
  Ok (event_of_step step s)

-- ["quiesce"], or ["hold", s]
abbrev pub event_of : ℕ → Items → Result Event DocError
event_of sessions (item (string word) no_items) = group_event word
event_of sessions (item (string word) (item d no_items)) = session_event sessions word d
event_of sessions _ = Err (BadType [])

-- an event; each of its refusals has the event's own place
abbrev pub event_at : ℕ → Data → Result Event DocError
event_at sessions (array ds) = event_of sessions ds
event_at sessions _ = Err (BadType [])

-- ---- the document

-- what a document says
pub record Contents : Type 0 where
  pub pool : List ℕ
  pub now : ℕ
  pub tree : Tree
  pub programs : List Program
  pub sessions : List (List Call)
  pub schedule : List Event

-- the contents of a document as it is kept, whose tree may have room for further records
abbrev pub contents_of : Document → Contents
contents_of d = record { pool = d.pool; now = d.now; tree = d.tree.tree; programs = d.programs; sessions = d.sessions; schedule = d.schedule }

abbrev pub most_setup : ℕ
most_setup = 100000

abbrev pub most_sessions : ℕ
most_sessions = 16

abbrev pub most_calls : ℕ
most_calls = 1000

abbrev pub most_events : ℕ
most_events = 128000

abbrev pub most_bytes : ℕ
most_bytes = 16777216

-- the events, where there are so many sessions; where none are needed they may be missing
unfoldable pub schedule_in : Need → ℕ → Data → Result (List Event) DocError
schedule_in need.Any sessions d = member_or [] (array_at most_events (event_at sessions)) (codes "schedule") d
schedule_in need.Schedule sessions d = member (array_at most_events (event_at sessions)) (codes "schedule") d

-- the members in their order, and at last the setup
unfoldable pub document_at : Need → Data → Result Contents DocError
document_at n d = do
  _ ← only_members (is_among (codes "pool" ∷ codes "now" ∷ codes "setup" ∷ codes "programs" ∷ codes "sessions" ∷ codes "schedule" ∷ [])) d
  pool ← member pool_at (codes "pool") d
  now ← member (number_at 0 (2 ^ 63 - 1)) (codes "now") d
  setup ← member (array_at most_setup (command_at pool)) (codes "setup") d
  programs ← member programs_at (codes "programs") d
  sessions ← member (array_at most_sessions (array_at most_calls (call_at pool))) (codes "sessions") d
  schedule ← schedule_in n (length sessions) d
  tree ← set_up now 0 (new_pool pool) setup
  Ok (record { pool = pool; now = now; tree = tree; programs = programs; sessions = sessions; schedule = schedule })

abbrev pub data_of : List ℕ → Option Data
data_of bytes = if is_utf8 bytes then read bytes else None

-- a JSON text has to be a document
abbrev pub document_in : Need → Option Data → Result Contents DocError
document_in n None = Err NotJson
document_in n (Some d) = document_at n d

-- the document that the bytes are, where this is needed of it, or the first refusal
unfoldable pub document_of : Need → List ℕ → Result Contents DocError
document_of n bytes = if nat_lt most_bytes (length bytes) then Err (TooLong (length bytes)) else document_in n (data_of bytes)

-- what was answered is what the bytes are, unless memory ran out
abbrev pub GivesContents : Result Document DocError → Result Contents DocError → Type 0
GivesContents (Ok d) read = read ≡ Ok (contents_of d)
GivesContents (Err e) read = Fails e read
