-- Writing a dataset: a number stands for its content. zfsprops(7), readonly: a dataset that is read-only can't be modified.
use Rattle.std.specs.Prelude.{ℕ, Bool, false, not, is_some, List, [], ◌∷◌}
use Rattle.std.specs.Option.{option_map_or}
use Rattle.zp_names.specs.Names.{is_head}
use Rattle.zp_names.specs.ErrorNumbers.{einval, enoent, erofs}
use Rattle.zp_names.specs.declared.verdict.Verdict.{Verdict}
use Rattle.zp_tree.specs.declared.item.Item.TheVariants as item
use Rattle.zp_tree.specs.Tree.{Tree, head_named, replaced}
use Rattle.zp_tree.specs.Inherited.{is_readonly}
use Rattle.zp_tree.specs.Rows.{refuse, first_row}

abbrev pub stamp_rows : Tree → List ℕ → List (Bool × Verdict)
stamp_rows t name =
    (not (is_head name), refuse einval)
    ∷ (not (is_some (head_named t name)), refuse enoent)
    ∷ (option_map_or (is_readonly t) (head_named t name) false, refuse erofs)
    ∷ []

abbrev pub stamp_check : Tree → List ℕ → Verdict
stamp_check t name = first_row (stamp_rows t name)

abbrev pub stamp_change : Tree → List ℕ → ℕ → Tree
stamp_change t name value = option_map_or (λ d. replaced t (item.Head (record d { stamp = value }))) (head_named t name) t
