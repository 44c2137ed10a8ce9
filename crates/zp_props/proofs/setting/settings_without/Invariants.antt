use Rattle.std.proofs.Common.{◌≡◌, take}
use Rattle.zp_props.specs.Settings.{settings_without}
use Rattle.zp_props.proofs.setting.settings_without.Given as goal

-- of the settings so far the others are left
abbrev pub invariant-loop-setting : goal.invariant-loop-setting
invariant-loop-setting l = l.left.items ≡ settings_without l.name (take l.setting-index l.settings)
