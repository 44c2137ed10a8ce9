use Rattle.std.proofs.Common.{◌≡◌, take}
use Rattle.zp_props.proofs.setting.copy_settings.Given as goal

-- the settings so far are copied
abbrev pub invariant-loop-setting : goal.invariant-loop-setting
invariant-loop-setting l = l.copies.items ≡ take l.setting-index l.settings
