use Rattle.zp_changes.proofs.SettingEffects.{set-keeps-others}
use Rattle.zp_changes.proofs.property_laws.set_keeps_other_settings.Goals as goal

pub returns : goal.returns
returns c = set-keeps-others
