-- What the law of the output needs.
use Rattle.std.specs.Prelude.{ℕ, ◌<◌, ◌^◌, Option, Some, None, IfSome}
use Rattle.txg_core.specs.declared.event.Event.{Event}
use Rattle.txg_core.specs.declared.event.EventParts.{EventParts}
use Rattle.txg_core.specs.declared.event.EventParts.TheVariants as parts
use Rattle.txg_core.specs.Events.{parts_of}

abbrev pub session_in : EventParts → Option ℕ
session_in (parts.Step step session) = Some session
session_in (parts.Transition transition) = None

-- the session that an event names, if it names one
abbrev pub named_session : Event → Option ℕ
named_session e = session_in (parts_of e)

-- the session's number has 32 bits, as that of every event in the code has
abbrev pub IsNumbered : Event → Type 0
IsNumbered e = IfSome (named_session e) (λ session. session < 2 ^ 32)
