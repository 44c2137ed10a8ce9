use Rattle.zp_changes.proofs.SettingEffects.{inherit-keeps-others}
use Rattle.zp_changes.proofs.property_laws.inherit_keeps_other_settings.Goals as goal

pub returns : goal.returns
returns c = inherit-keeps-others
