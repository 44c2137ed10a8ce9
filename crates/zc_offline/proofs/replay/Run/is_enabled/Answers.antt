use Rattle.std.proofs.Common.{sym, ◌∙◌}
use Rattle.std.proofs.lemmas.Bool.{false≢true}
use Rattle.zc_offline.specs.Replay.{call_in}
use Rattle.zc_offline.proofs.Steps.{follows-comes}
use Rattle.zc_offline.proofs.replay.Run.is_enabled.Goals as goal

pub returns-clause-yes : goal.returns-clause-yes
returns-clause-yes g c = λ is. record {
  following = c.requires;
  standing = (c.requires.0, (c.requires.1.0, c.requires.1.1.stands));
  allowed = sym c.enabled.ensures.allows ∙ is;
  may_come = λ o h f. (c.enabled.ensures.unspent o h f.stands f.unspent).0 is;
}

pub returns-clause-no : goal.returns-clause-no
returns-clause-no g c = λ no o h f may. false≢true (sym no ∙ (c.enabled.ensures.unspent o h f.stands f.unspent).1 (follows-comes o (call_in c.args.sessions.now) h c.args.event.now may))
