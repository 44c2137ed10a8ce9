-- Destroying a dataset, a snapshot or a bookmark: zfs-destroy(8), without options or with `-d`. What a name names is told by
-- its mark.
use Rattle.std.specs.Prelude.{ℕ, ◌&&◌, ◌||◌, Bool, true, false, not, is_some, List, [], ◌∷◌, if◌then◌else◌}
use Rattle.std.specs.Option.{option_map_or}
use Rattle.zp_names.specs.NameParts.{form_of, is_pool}
use Rattle.zp_names.specs.declared.form.Form.{Form}
use Rattle.zp_names.specs.declared.form.Form.TheVariants as form
use Rattle.zp_names.specs.ErrorNumbers.{ebusy, eexist, einval, enoent}
use Rattle.zp_names.specs.declared.verdict.Verdict.{Verdict}
use Rattle.zp_tree.specs.declared.item.Item.TheVariants as item
use Rattle.zp_tree.specs.declared.item.Head.{Head}
use Rattle.zp_tree.specs.declared.item.Snapshot.{Snapshot}
use Rattle.zp_tree.specs.Tree.{Tree, head_named, snapshot_named, bookmark_named, snapshot_at, replaced, removed}
use Rattle.zp_tree.specs.Items.{is_mounted}
use Rattle.zp_tree.specs.Dependents.{has_children, has_snapshots, has_clones, is_held, without_bookmarks}
use Rattle.zp_tree.specs.Rows.{refuse, first_row}

-- only a snapshot's destruction can be deferred
abbrev pub destroy_rows_of : Form → Tree → List ℕ → Bool → List (Bool × Verdict)
destroy_rows_of form.Head t name defer =
    (defer, refuse einval)
    ∷ (not (is_some (head_named t name)), refuse enoent)
    ∷ (is_pool name, refuse ebusy)
    ∷ (option_map_or is_mounted (head_named t name) false, refuse ebusy)
    ∷ (option_map_or (has_snapshots t) (head_named t name) false, refuse ebusy)
    ∷ (option_map_or (has_children t) (head_named t name) false, refuse eexist)
    ∷ []
destroy_rows_of form.Snap t name defer =
    (not (is_some (snapshot_named t name)), refuse enoent)
    ∷ (not defer && option_map_or is_held (snapshot_named t name) false, refuse ebusy)
    ∷ (not defer && option_map_or (has_clones t) (snapshot_named t name) false, refuse eexist)
    ∷ []
destroy_rows_of form.Bookmark t name defer =
    (defer, refuse einval)
    ∷ (not (is_some (bookmark_named t name)), refuse enoent)
    ∷ []

abbrev pub destroy_check : Tree → List ℕ → Bool → Verdict
destroy_check t name defer = first_row (destroy_rows_of (form_of name) t name defer)

-- the tree without a head and its bookmarks
abbrev pub without_head : Tree → ℕ → Tree
without_head t i = removed (without_bookmarks t i) i

-- a deferred snapshot goes once it has neither holds nor clones
abbrev pub is_released : Tree → Snapshot → Bool
is_released t s = s.deferred && not (is_held s) && not (has_clones t s)

abbrev pub released : Tree → ℕ → Tree
released t i = option_map_or (λ s. if is_released t s then removed t i else t) (snapshot_at t i) t

-- a head goes with its bookmarks, then its origin where that was kept for its clones alone
abbrev pub head_destroyed : Tree → Head → Tree
head_destroyed t d = option_map_or (released (without_head t d.id)) d.origin (without_head t d.id)

-- a snapshot goes; one that has holds or clones, whose destruction is deferred, is marked
abbrev pub snapshot_destroyed : Tree → Bool → Snapshot → Tree
snapshot_destroyed t defer s = if defer && (is_held s || has_clones t s) then replaced t (item.Snap (record s { deferred = true })) else removed t s.id

abbrev pub destroyed : Form → Tree → List ℕ → Bool → Tree
destroyed form.Head t name defer = option_map_or (head_destroyed t) (head_named t name) t
destroyed form.Snap t name defer = option_map_or (snapshot_destroyed t defer) (snapshot_named t name) t
destroyed form.Bookmark t name defer = option_map_or (λ m. removed t m.id) (bookmark_named t name) t

abbrev pub destroy_change : Tree → List ℕ → Bool → Tree
destroy_change t name defer = destroyed (form_of name) t name defer
