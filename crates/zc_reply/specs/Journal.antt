-- The journal as JSON (RFC 8259). Its form is this project's own.
use Rattle.std.specs.Prelude.{ℕ, List, map}
use Rattle.serde_json.specs.Data.{Data, number, string, array, unsigned, item, no_items}
use Rattle.serde_json.specs.View.{items_of}
use Rattle.txg_core.specs.declared.event.Event.{Event}
use Rattle.txg_core.specs.declared.event.EventParts.{EventParts}
use Rattle.txg_core.specs.declared.event.EventParts.TheVariants as parts
use Rattle.txg_core.specs.Events.{parts_of, step_word, transition_word}

-- a whole number
abbrev pub whole : ℕ → Data
whole n = number (unsigned n)

-- the array of these values
abbrev pub array_of : {A : Type 0} → (A → Data) → List A → Data
array_of data_for xs = array (items_of (map data_for xs))

-- what a session did: [word, session]
abbrev pub session_event : List ℕ → ℕ → Data
session_event word session = array (item (string word) (item (whole session) no_items))

-- what moved a transaction group on: [word]
abbrev pub group_event : List ℕ → Data
group_event word = array (item (string word) no_items)

abbrev pub parts_data : EventParts → Data
parts_data (parts.Step step session) = session_event (step_word step) session
parts_data (parts.Transition transition) = group_event (transition_word transition)

-- an event of the journal
abbrev pub event_data : Event → Data
event_data e = parts_data (parts_of e)
