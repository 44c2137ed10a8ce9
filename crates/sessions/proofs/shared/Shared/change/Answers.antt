use Rattle.sessions.proofs.CallsMade.{change-refused, change-made}
use Rattle.sessions.proofs.shared.Shared.change.Goals as goal

pub returns-in-Err-Checked-clause-served : goal.returns-in-Err-Checked-clause-served
returns-in-Err-Checked-clause-served g c = let p = c.args.pass.now in
    change-refused g.O.Stated.means p p c.submit.new.pass (g.met.O.Stated.lawful p.opening.object) c.args.call c.in-Err-Checked.field-0 c.in-Err-Checked.reply c.in-Err-Checked.field-0-1 c.in-Err-Checked.field-0-is c.in-Err-Checked.ensures.front

pub returns-in-Ok-clause-served : goal.returns-in-Ok-clause-served
returns-in-Ok-clause-served g c = let p = c.args.pass.now in
    change-made g.O.Stated.means p c.submit.new.pass c.collect.new.pass (g.met.O.Stated.lawful p.opening.object) c.args.call c.in-Ok.ticket c.collect.result c.submit.ensures.same c.in-Ok.ensures.ticket.0 c.in-Ok.ensures.front c.collect.ensures.front
