use Rattle.zp_changes.proofs.RenameBack.{renamed_back}
use Rattle.zp_changes.proofs.RenamePasses.{rename-back-passes}
use Rattle.zp_changes.proofs.laws.rename_there_and_back.Goals as goal

pub returns-clause-passes : goal.returns-clause-passes
returns-clause-passes c = rename-back-passes

pub returns-clause-back : goal.returns-clause-back
returns-clause-back c = renamed_back
