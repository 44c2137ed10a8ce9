-- Creating a volume keeps a tree well formed.
use Rattle.std.proofs.Common.{◌≡◌, ℕ, List, true, cond, refl, sym, ap, ◌∙◌}
use Rattle.zp_names.specs.Names.{is_valid_name, is_valid_short, is_head}
use Rattle.zp_names.specs.ErrorNumbers.{einval}
use Rattle.zp_names.proofs.ShortNames.{valid_short_utf8}
use Rattle.zp_props.specs.declared.setting.PropValue.TheVariants.{Number}
use Rattle.zp_props.specs.Settings.{volsize}
use Rattle.zp_props.specs.ReadSetting.{setting_of}
use Rattle.zp_tree.specs.Tree.{Tree}
use Rattle.zp_tree.specs.WellFormed.{IsWellFormed}
use Rattle.zp_tree.specs.Rows.{refuse, passed}
use Rattle.zp_tree.specs.Create.{create_check}
use Rattle.zp_tree.specs.CreateVolume.{create_volume_check, create_volume_rows, create_volume_change, volume_settings}
use Rattle.zp_tree.proofs.Clear.{clear, not-false}
use Rattle.zp_changes.proofs.CloneSettings.{Good, one}
use Rattle.zp_changes.proofs.CreateLaw.{head-created}

-- what the settings of a new volume say
volume-good : (size : ℕ) → Good (volume_settings size) true
unfolding is_valid_short
volume-good size = one (setting_of volsize (Number size)) true (valid_short_utf8 volsize refl) tt refl

-- the law
pub create-volume-well : (t : Tree) (name : List ℕ) (size txg : ℕ) → IsWellFormed t → is_valid_name name ≡ true → create_volume_check t name size ≡ passed → IsWellFormed (create_volume_change t name size txg)
create-volume-well t name size txg w valid e =
    let good = volume-good size in
    let rows = clear (create_volume_rows t name size) refl e in
    head-created t _ w (record { name = valid; form = not-false (is_head name) rows.1.0; settings = good.settings_are; size = λ v. good.sized refl }) refl refl good.no_user
    (sym (ap (λ b. cond b (refuse einval) (create_check t name)) rows.0) ∙ e)
