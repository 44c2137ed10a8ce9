-- Events taken apart, and the words that name them in a schedule and in a journal. The words are this project's own.
use Rattle.std.specs.Prelude.{ℕ, List, [], ◌∷◌, find, codes, bytes_eq, Option}
use Rattle.txg_core.specs.declared.event.Event.{Event}
use Rattle.txg_core.specs.declared.event.Event.TheVariants as event
use Rattle.txg_core.specs.declared.event.Step.{Step}
use Rattle.txg_core.specs.declared.event.Step.TheVariants as step
use Rattle.txg_core.specs.declared.event.Transition.{Transition}
use Rattle.txg_core.specs.declared.event.Transition.TheVariants as transition
use Rattle.txg_core.specs.declared.event.EventParts.{EventParts}
use Rattle.txg_core.specs.declared.event.EventParts.TheVariants as parts

-- a session's step, or a move of a group
abbrev pub parts_of : Event → EventParts
parts_of (event.Hold s) = parts.Step step.Hold s
parts_of (event.Check s) = parts.Step step.Check s
parts_of (event.Enqueue s) = parts.Step step.Enqueue s
parts_of (event.Read s) = parts.Step step.Read s
parts_of event.Quiesce = parts.Transition transition.Quiesce
parts_of event.Begin = parts.Transition transition.Begin
parts_of (event.Sync s) = parts.Step step.Sync s
parts_of event.End = parts.Transition transition.End
parts_of (event.Take s) = parts.Step step.Take s

-- the event of a session's step
abbrev pub event_of_step : Step → ℕ → Event
event_of_step step.Hold s = event.Hold s
event_of_step step.Check s = event.Check s
event_of_step step.Enqueue s = event.Enqueue s
event_of_step step.Read s = event.Read s
event_of_step step.Sync s = event.Sync s
event_of_step step.Take s = event.Take s

-- the event of a group that moves on
abbrev pub event_of_transition : Transition → Event
event_of_transition transition.Quiesce = event.Quiesce
event_of_transition transition.Begin = event.Begin
event_of_transition transition.End = event.End

-- the event of its parts
abbrev pub event_of_parts : EventParts → Event
event_of_parts (parts.Step step s) = event_of_step step s
event_of_parts (parts.Transition transition) = event_of_transition transition

-- the word of a step
abbrev pub step_word : Step → List ℕ
step_word step.Hold = codes "hold"
step_word step.Check = codes "check"
step_word step.Enqueue = codes "enqueue"
step_word step.Read = codes "read"
step_word step.Sync = codes "sync"
step_word step.Take = codes "take"

-- the word of a move of a group
abbrev pub transition_word : Transition → List ℕ
transition_word transition.Quiesce = codes "quiesce"
transition_word transition.Begin = codes "begin"
transition_word transition.End = codes "end"

-- the step that a word names
abbrev pub step_named : List ℕ → Option Step
step_named word = find (λ s. bytes_eq (step_word s) word) (step.Hold ∷ step.Check ∷ step.Enqueue ∷ step.Read ∷ step.Sync ∷ step.Take ∷ [])

-- the move of a group that a word names
abbrev pub transition_named : List ℕ → Option Transition
transition_named word = find (λ t. bytes_eq (transition_word t) word) (transition.Quiesce ∷ transition.Begin ∷ transition.End ∷ [])
