-- Creating a file system: zfs-create(8).
use Rattle.std.specs.Prelude.{ℕ, Bool, false, not, is_some, List, [], ◌∷◌, None}
use Rattle.std.specs.Option.{option_map_or}
use Rattle.zp_names.specs.Names.{is_head}
use Rattle.zp_names.specs.ErrorNumbers.{eexist, einval, enoent, enospc}
use Rattle.zp_names.specs.declared.verdict.Verdict.{Verdict}
use Rattle.zp_tree.specs.declared.item.Item.{Item}
use Rattle.zp_tree.specs.declared.item.Item.TheVariants as item
use Rattle.zp_tree.specs.declared.item.HeadKind.TheVariants.{Filesystem}
use Rattle.zp_tree.specs.Tree.{Tree, exists, parent_in, is_full, added}
use Rattle.zp_tree.specs.Items.{is_volume}
use Rattle.zp_tree.specs.Rows.{refuse, first_row}

abbrev pub create_rows : Tree → List ℕ → List (Bool × Verdict)
create_rows t name =
    (not (is_head name), refuse einval)
    ∷ (exists t name, refuse eexist)
    ∷ (not (is_some (parent_in t name)), refuse enoent)
    ∷ (option_map_or is_volume (parent_in t name) false, refuse einval)
    ∷ (is_full t, refuse enospc)
    ∷ []

abbrev pub create_check : Tree → List ℕ → Verdict
create_check t name = first_row (create_rows t name)

-- a head of kind filesystem without origin and settings, stamp 0, not mounted
abbrev pub new_filesystem : ℕ → List ℕ → ℕ → Item
new_filesystem id name txg = item.Head (record { id = id; name = name; kind = Filesystem; origin = None; settings = []; stamp = 0; mounted = false; createtxg = txg })

abbrev pub create_change : Tree → List ℕ → ℕ → Tree
create_change t name txg = added t (new_filesystem t.next name txg)
