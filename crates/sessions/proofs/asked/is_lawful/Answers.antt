use Rattle.sessions.proofs.asked.is_lawful.Goals as goal

pub returns : goal.returns
returns g c = g.met.O.Stated.lawful c.args.object.now
