-- When a deferred snapshot goes: zfs-destroy(8), `-d`; zfs-release(8).
use Rattle.std.specs.Prelude.{ℕ, ◌≡◌, ◌&&◌, Bool, true, false, not, is_none, Some}
use Rattle.std.specs.Option.{option_map_or}
use Rattle.zp_names.specs.declared.command.Command.{Command}
use Rattle.zp_names.specs.declared.command.Command.TheVariants as command
use Rattle.zp_tree.specs.declared.item.Item.TheVariants as item
use Rattle.zp_tree.specs.declared.item.Head.{Head}
use Rattle.zp_tree.specs.declared.item.Snapshot.{Snapshot}
use Rattle.zp_tree.specs.Tree.{Tree, at, is_called, head_named}
use Rattle.zp_tree.specs.WellFormed.{IsWellFormed}
use Rattle.zp_tree.specs.NextByName.{is_id}
use Rattle.zp_tree.specs.Dependents.{is_held, has_clones}
use Rattle.zp_tree.specs.Destroy.{without_head}
use Rattle.zp_tree.specs.ReleaseHold.{without_hold}
use Rattle.zp_tree.specs.Commands.{check_of, change_of}
use Rattle.zp_tree.specs.Rows.{passed}

-- the head is a clone of the snapshot, and without it there is none
abbrev pub is_last_clone : Tree → Snapshot → Head → Bool
is_last_clone t s d = is_id s.id d.origin && not (has_clones (without_head t d.id) s)

-- the command takes the last hold off a snapshot without clones, or destroys the last clone of one without holds
abbrev pub takes_the_last : Tree → Command → Snapshot → Bool
takes_the_last t (command.Release name tag) s = is_called t.records name (item.Snap s) && not (is_held (without_hold tag s)) && not (has_clones t s)
takes_the_last t (command.Destroy name defer) s = not (is_held s) && option_map_or (is_last_clone t s) (head_named t name) false
takes_the_last t (command.Create name) s = false
takes_the_last t (command.CreateVolume name size) s = false
takes_the_last t (command.Snapshot name) s = false
takes_the_last t (command.Clone source name) s = false
takes_the_last t (command.Bookmark source name) s = false
takes_the_last t (command.Mount name) s = false
takes_the_last t (command.Unmount name) s = false
takes_the_last t (command.Stamp name value) s = false
takes_the_last t (command.Rollback name) s = false
takes_the_last t (command.RenameSnapshot name old new) s = false
takes_the_last t (command.Promote name) s = false
takes_the_last t (command.Rename name to) s = false
takes_the_last t (command.Set name property value) s = false
takes_the_last t (command.Inherit name property) s = false
takes_the_last t (command.Hold name tag) s = false

-- a deferred snapshot is gone after a command exactly where that took the last of its holds and clones
abbrev pub DeferredGoWithTheLast : Type 0
DeferredGoWithTheLast = (t : Tree) (c : Command) (txg now : ℕ) (s : Snapshot) → IsWellFormed t → check_of t c ≡ passed → at t.records s.id ≡ Some (item.Snap s) → s.deferred ≡ true →
    is_none (at (change_of t c txg now).records s.id) ≡ takes_the_last t c s
