use Rattle.txg_core.proofs.Keeping.{kept-world, kept-decided, kept-given, calls-kept}
use Rattle.txg_core.proofs.laws.kept_by_doing.Goals as goal

pub returns-clause-world : goal.returns-clause-world
returns-clause-world g c = λ o h keeps first all. kept-world o g.P.Properties.IsCall g.P.Properties.IsWorld h keeps first all

pub returns-clause-decided : goal.returns-clause-decided
returns-clause-decided g c = λ o h s keeps gives first all. kept-decided o g.P.Properties.IsCall g.P.Properties.IsWorld g.P.Properties.IsReply h s keeps gives first all

pub returns-clause-given : goal.returns-clause-given
returns-clause-given g c = λ o h s keeps gives first all. kept-given o g.P.Properties.IsCall g.P.Properties.IsWorld g.P.Properties.IsReply h s keeps gives first all

pub returns-clause-calls : goal.returns-clause-calls
returns-clause-calls g c = λ o h calls carries each. calls-kept o calls g.P.Properties.IsCall h carries each
