-- A dataset without settings.
use Rattle.std.proofs.Common.{[], arith}
use Rattle.std.specs.List.{IsDistinct}
use Rattle.zp_props.specs.Settings.{AreSettings}

pub no_settings : AreSettings []
unfolding IsDistinct
no_settings = record { distinct = tt; names = λ k d lt. absurd (omega arith); values = λ k d lt. absurd (omega arith) }
