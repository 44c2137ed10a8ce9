use Rattle.std.proofs.Common.{List, sym, subst}
use Rattle.txg_core.specs.History.{maker_of}
use Rattle.txg_core.specs.declared.event.Entry.{Entry}
use Rattle.turn_lock.specs.Entries.{GoesOnByOwn}
use Rattle.shared_pool.proofs.Makers.{by-own}
use Rattle.shared_pool.proofs.turns.leave.Goals as goal

pub give-requires-clause-made : goal.give-requires-clause-made
give-requires-clause-made g c = let m = c.requires.made in let s = c.args.seat.now in
    subst (λ (h : List (Entry g.row.O-Call.Denot)). GoesOnByOwn maker_of s.numbers s.seen h) (sym c.history-history.ensures.history) (by-own m.0 s.numbers s.seen c.args.core.history m.2 m.1)
