use Rattle.std.proofs.Common.{ap, ◌∙◌}
use Rattle.serde_json.specs.Written.{has_float}
use Rattle.zc_offline.proofs.LoadResults.{check-float}
use Rattle.zc_offline.proofs.load_results.check_output.Goals as goal

pub line_of-requires : goal.line_of-requires
line_of-requires c = ap has_float c.in_ok-value.ensures ∙ check-float _ _ c.len.result c.in_ok-results.ensures
