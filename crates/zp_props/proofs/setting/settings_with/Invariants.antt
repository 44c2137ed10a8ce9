use Rattle.std.proofs.Common.{◌≡◌, map, take}
use Rattle.zp_props.specs.Settings.{set_in_place}
use Rattle.zp_props.proofs.setting.settings_with.Given as goal

-- the settings so far are copied, or the new one in their place
abbrev pub invariant-loop-setting : goal.invariant-loop-setting
invariant-loop-setting l = l.changed.items ≡ map (set_in_place l.new) (take l.setting-index l.settings)
