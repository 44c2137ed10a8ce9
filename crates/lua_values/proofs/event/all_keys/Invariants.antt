use Rattle.std.proofs.Common.{◌≡◌, take}
use Rattle.lua_values.specs.Events.{keys_of_events}
use Rattle.lua_values.proofs.event.all_keys.Given as goal

abbrev pub invariant-loop-event : goal.invariant-loop-event
invariant-loop-event l = l.keys.items ≡ keys_of_events (take l.event-index l.events)
