use Rattle.zp_changes.proofs.SettingEffects.{inherit-leaves-what-is-above}
use Rattle.zp_changes.proofs.property_laws.inherit_leaves_what_is_above.Goals as goal

pub returns : goal.returns
returns c = inherit-leaves-what-is-above
