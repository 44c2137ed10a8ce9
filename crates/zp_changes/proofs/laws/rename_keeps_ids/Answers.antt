use Rattle.zp_changes.proofs.RenameBack.{renamed_ids}
use Rattle.zp_changes.proofs.laws.rename_keeps_ids.Goals as goal

pub returns-clause-ids : goal.returns-clause-ids
returns-clause-ids c = renamed_ids
