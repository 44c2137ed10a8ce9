use Rattle.std.proofs.Common.{ℕ, List, [], subst, ◌∙◌}
use Rattle.txg_core.specs.Rules.{origin_of}
use Rattle.txg_core.specs.Stands.{Stands}
use Rattle.zc_offline.proofs.Steps.{begins}
use Rattle.zc_offline.proofs.replay.Run.new.Goals as goal

pub returns : goal.returns
returns g c =
    let means = g.O.Stated.means in
    let counts = c.as_slice.ensures.value ∙ c.in_ok-counts.ensures in
    begins means c.args.object c.args.sessions.now (record { core = c.in_ok-core.core; replies = c.in_ok-replies.replies })
    (subst (λ (ns : List ℕ). Stands means (origin_of (means c.args.object) ns) c.in_ok-core.core []) counts c.in_ok-core.ensures.stands)
    c.in_ok-core.ensures.unspent c.requires c.in_ok-replies.ensures
