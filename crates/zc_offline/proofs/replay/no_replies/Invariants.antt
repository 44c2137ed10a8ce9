use Rattle.std.proofs.Common.{◌≡◌, List, map, take}
use Rattle.zc_offline.proofs.Steps.{none_given}
use Rattle.zc_offline.proofs.replay.no_replies.Given as goal

-- the sessions so far have their lists
abbrev pub invariant-loop-session : goal.invariant-loop-session
invariant-loop-session g l = l.replies.items ≡ map (λ (calls : List g.row.C.Denot). none_given) (take l._session-index l.sessions)
