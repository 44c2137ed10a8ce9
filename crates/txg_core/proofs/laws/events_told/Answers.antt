use Rattle.txg_core.proofs.EventLemmas.{parts-event, event-parts, step-told, transition-told}
use Rattle.txg_core.proofs.laws.events_told.Goals as goal

pub returns-clause-parts : goal.returns-clause-parts
returns-clause-parts c = parts-event

pub returns-clause-event : goal.returns-clause-event
returns-clause-event c = event-parts

pub returns-clause-step : goal.returns-clause-step
returns-clause-step c = step-told

pub returns-clause-transition : goal.returns-clause-transition
returns-clause-transition c = transition-told
