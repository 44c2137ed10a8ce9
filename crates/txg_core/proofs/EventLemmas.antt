-- An event and its parts tell each other, and a word tells what it names.
use Rattle.std.proofs.Common.{◌≡◌, Some, refl}
use Rattle.txg_core.specs.Events.{parts_of, event_of_parts, step_word, step_named, transition_word, transition_named}
use Rattle.txg_core.specs.declared.event.Event.{Event}
use Rattle.txg_core.specs.declared.event.Event.TheVariants as event
use Rattle.txg_core.specs.declared.event.EventParts.{EventParts}
use Rattle.txg_core.specs.declared.event.EventParts.TheVariants as parts
use Rattle.txg_core.specs.declared.event.Step.{Step}
use Rattle.txg_core.specs.declared.event.Step.TheVariants as step
use Rattle.txg_core.specs.declared.event.Transition.{Transition}
use Rattle.txg_core.specs.declared.event.Transition.TheVariants as transition

pub parts-event : (e : Event) → event_of_parts (parts_of e) ≡ e
parts-event (event.Hold s) = refl
parts-event (event.Check s) = refl
parts-event (event.Enqueue s) = refl
parts-event (event.Read s) = refl
parts-event event.Quiesce = refl
parts-event event.Begin = refl
parts-event (event.Sync s) = refl
parts-event event.End = refl
parts-event (event.Take s) = refl

pub event-parts : (p : EventParts) → parts_of (event_of_parts p) ≡ p
event-parts (parts.Step step.Hold s) = refl
event-parts (parts.Step step.Check s) = refl
event-parts (parts.Step step.Enqueue s) = refl
event-parts (parts.Step step.Read s) = refl
event-parts (parts.Step step.Sync s) = refl
event-parts (parts.Step step.Take s) = refl
event-parts (parts.Transition transition.Quiesce) = refl
event-parts (parts.Transition transition.Begin) = refl
event-parts (parts.Transition transition.End) = refl

pub step-told : (s : Step) → step_named (step_word s) ≡ Some s
step-told step.Hold = refl
step-told step.Check = refl
step-told step.Enqueue = refl
step-told step.Read = refl
step-told step.Sync = refl
step-told step.Take = refl

pub transition-told : (t : Transition) → transition_named (transition_word t) ≡ Some t
transition-told transition.Quiesce = refl
transition-told transition.Begin = refl
transition-told transition.End = refl
