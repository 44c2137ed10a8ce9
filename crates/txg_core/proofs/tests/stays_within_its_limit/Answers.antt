use Rattle.txg_core.proofs.Driving.{counter-keeps, any-calls}
use Rattle.txg_core.proofs.tests.stays_within_its_limit.Goals as goal

pub returns : goal.returns
returns c = λ o h rules within. c.kept_by_doing.ensures.world o h (counter-keeps o rules) within (any-calls h)
