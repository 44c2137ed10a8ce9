use Rattle.zp_changes.proofs.PromoteBack.{promote-ids, promote-next}
use Rattle.zp_changes.proofs.laws.promotion_keeps_ids.Goals as goal

pub returns-clause-ids : goal.returns-clause-ids
returns-clause-ids c = λ t name. promote-ids t name

pub returns-clause-next : goal.returns-clause-next
returns-clause-next c = λ t name. promote-next t name
