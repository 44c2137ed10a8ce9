use Rattle.std.proofs.Common.{List, length, map, take}
use Rattle.txg_core.specs.Rules.{origin_of}
use Rattle.txg_core.specs.declared.event.Entry.{Entry}
use Rattle.txg_core.specs.Calls.{IsHistoryOf}
use Rattle.zc_offline.specs.Replay.{call_in, Follows}
use Rattle.zc_offline.proofs.replay.replay.Given as goal

-- the run stands for the history of the events so far
abbrev pub invariant-loop-place : goal.invariant-loop-place
invariant-loop-place g l =
    let o = origin_of (g.O.Stated.means l.fn.object) (map length l.sessions) in
    (h : List (Entry g.row.O-Call.Denot)) × (IsHistoryOf o (call_in l.sessions) (take l.place l.schedule) h × Follows g.O.Stated.means o l.sessions l.run h)
