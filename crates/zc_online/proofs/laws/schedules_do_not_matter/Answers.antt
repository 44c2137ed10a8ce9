use Rattle.zc_online.proofs.RunAt.{legal-other, output-other}
use Rattle.zc_online.proofs.laws.schedules_do_not_matter.Goals as goal

pub returns-clause-legal : goal.returns-clause-legal
returns-clause-legal c = legal-other

pub returns-clause-output : goal.returns-clause-output
returns-clause-output c = output-other
