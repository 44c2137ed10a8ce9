use Rattle.std.proofs.Common.{length, ap}
use Rattle.txg_core.proofs.Ready.{stands-at, journal-size}
use Rattle.txg_core.proofs.state.Core.len.Goals as goal

pub returns : goal.returns
returns g c = λ o h s. let journal = ap length (stands-at c.self.view_is s).journal in let size = journal-size h in cc
