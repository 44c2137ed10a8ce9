use Rattle.txg_core.proofs.Phases.{synced-grows}
use Rattle.txg_core.proofs.Ready.{journal-size}
use Rattle.txg_core.proofs.laws.history_grows.Goals as goal

pub returns-clause-synced : goal.returns-clause-synced
returns-clause-synced g c = λ h later. synced-grows h later

pub returns-clause-journal : goal.returns-clause-journal
returns-clause-journal g c = λ h. journal-size h
