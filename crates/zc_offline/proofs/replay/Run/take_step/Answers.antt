use Rattle.zc_offline.proofs.Steps.{step-there}
use Rattle.zc_offline.proofs.replay.Run.take_step.Goals as goal

pub next_call-call-requires-clause-there : goal.next_call-call-requires-clause-there
next_call-call-requires-clause-there g c = λ o h f. step-there g.O.Stated.means o c.args.sessions.now c.args.self.now h c.args.step c.args.session f (c.requires.ready.may_come o h f)
