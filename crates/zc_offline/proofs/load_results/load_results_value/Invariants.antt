use Rattle.std.proofs.Common.{take}
use Rattle.serde_json.specs.Data.{object}
use Rattle.serde_json.specs.View.{members_view}
use Rattle.zc_offline.specs.LoadResults.{AreLoadResults}
use Rattle.zc_offline.proofs.load_results.load_results_value.Given as goal

-- the load results of the programs so far
abbrev pub invariant-loop-program : goal.invariant-loop-program
invariant-loop-program l = AreLoadResults (take l.program-index l.programs) (object (members_view l.members.entries))
