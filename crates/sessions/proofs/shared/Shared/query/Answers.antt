use Rattle.sessions.proofs.CallsMade.{query-made}
use Rattle.sessions.proofs.shared.Shared.query.Goals as goal

pub returns-in-Ok-clause-served : goal.returns-in-Ok-clause-served
returns-in-Ok-clause-served g c = let p = c.args.pass.now in
    query-made g.O.Stated.means p p c.open_read.new.pass (g.met.O.Stated.lawful p.opening.object) c.args.call c.in-Ok.view c.in-Ok.view c.answer.result c.in-Ok.ensures.front c.in-Ok.ensures.reply c.answer.ensures
