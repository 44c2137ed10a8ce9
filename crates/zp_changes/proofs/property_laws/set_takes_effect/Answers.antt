use Rattle.zp_changes.proofs.SettingEffects.{set-takes-effect}
use Rattle.zp_changes.proofs.property_laws.set_takes_effect.Goals as goal

pub returns : goal.returns
returns c = set-takes-effect
