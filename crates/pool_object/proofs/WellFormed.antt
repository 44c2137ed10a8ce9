-- Doing a call keeps a tree well formed, and its reply can be printed.
use Rattle.std.proofs.Common.{◌≡◌, ℕ, ◌==◌, List, Bool, true, false, cond, nat_le, ◌&&◌, ◌||◌, length, refl}
use Rattle.std.specs.List.{list_all}
use Rattle.std.proofs.lemmas.Bool.{and_parts}
use Rattle.zp_names.specs.declared.command.Command.{Command}
use Rattle.zp_names.specs.declared.command.Command.TheVariants as command
use Rattle.zp_tree.specs.Tree.{Tree}
use Rattle.zp_tree.specs.Rows.{passed}
use Rattle.zp_tree.specs.WellFormed.{IsWellFormed}
use Rattle.zp_tree.specs.Commands.{check_of, change_of}
use Rattle.zp_tree.proofs.Passing.{zero_passes}
use Rattle.zp_tree.proofs.VerdictTexts.{details-utf8}
use Rattle.zp_changes.proofs.CreateLaw.{create-well}
use Rattle.zp_changes.proofs.CreateVolumeLaw.{create-volume-well}
use Rattle.zp_changes.proofs.SnapshotLaw.{snapshot-well}
use Rattle.zp_changes.proofs.CloneLaw.{clone-well}
use Rattle.zp_changes.proofs.BookmarkLaw.{bookmark-well}
use Rattle.zp_changes.proofs.MountLaw.{mount-well}
use Rattle.zp_changes.proofs.UnmountLaw.{unmount-well}
use Rattle.zp_changes.proofs.StampLaw.{stamp-well}
use Rattle.zp_changes.proofs.RollbackLaw.{rollback-well}
use Rattle.zp_changes.proofs.RenameSnapshotLaw.{rename-snapshot-well}
use Rattle.zp_changes.proofs.DestroyLaw.{destroy-well}
use Rattle.zp_changes.proofs.PromoteLaw.{promote-well}
use Rattle.zp_changes.proofs.RenameLaw.{rename-well}
use Rattle.zp_changes.proofs.SettingsLaw.{set-well, inherit-well}
use Rattle.zp_changes.proofs.HoldLaw.{hold-well}
use Rattle.zp_changes.proofs.ReleaseLaw.{release-well}
use Rattle.zp_names.specs.Names.{is_valid_name, is_head, is_valid_short, short_of, begins_with_letter, is_joined, parts_of, is_part}
use Rattle.zp_calls.specs.declared.call.Call.{Call}
use Rattle.zp_calls.specs.declared.call.Call.TheVariants as call
use Rattle.zp_calls.specs.Names.{HasValidNames}
use Rattle.zp_calls.specs.Replies.{IsPrintable}
use Rattle.zcp_read.proofs.Printable.{answer-printable}
use Rattle.pool_object.specs.Pool.{does}

-- a valid name is a head's or has a valid short name
short-or-head : (name : List ℕ) → is_valid_name name ≡ true → (is_head name || is_valid_short (short_of name)) ≡ true
unfolding is_valid_name
short-or-head name valid =
    let few = and_parts (begins_with_letter name && is_joined name && nat_le (length name) 255) (nat_le (length (parts_of name)) 50) valid in
    let short = and_parts (begins_with_letter name && is_joined name) (nat_le (length name) 255) few.0 in
    let joined = and_parts (begins_with_letter name) (is_joined name) short.0 in
    (and_parts (list_all is_part (parts_of name)) (is_head name || is_valid_short (short_of name)) joined.1).1

-- the change of a command whose check passes
change-well : (now : ℕ) (t : Tree) (c : Command) (group : ℕ) → IsWellFormed t → HasValidNames (call.Command c) → check_of t c ≡ passed → IsWellFormed (change_of t c group now)
change-well now t (command.Create name) group w valid passes = create-well t name group w valid.0 passes
change-well now t (command.CreateVolume name size) group w valid passes = create-volume-well t name size group w valid.0 passes
change-well now t (command.Snapshot name) group w valid passes = snapshot-well t name group w (short-or-head name valid.0) passes
change-well now t (command.Clone source name) group w valid passes = clone-well t source name group w valid.1.0 passes
change-well now t (command.Bookmark source name) group w valid passes = bookmark-well t source name w (short-or-head name valid.1.0) passes
change-well now t (command.Mount name) group w valid passes = mount-well t name w
change-well now t (command.Unmount name) group w valid passes = unmount-well t name w
change-well now t (command.Stamp name value) group w valid passes = stamp-well t name value w
change-well now t (command.Rollback name) group w valid passes = rollback-well t name w
change-well now t (command.RenameSnapshot name old new) group w valid passes = rename-snapshot-well t name old new w passes
change-well now t (command.Destroy name defer) group w valid passes = destroy-well t name defer w passes
change-well now t (command.Promote name) group w valid passes = promote-well t name w passes
change-well now t (command.Rename name to) group w valid passes = rename-well t name to w valid.1.0 passes
change-well now t (command.Set name property value) group w valid passes = set-well t name property value w passes
change-well now t (command.Inherit name property) group w valid passes = inherit-well t name property w passes
change-well now t (command.Hold name tag) group w valid passes = hold-well t name tag now w passes
change-well now t (command.Release name tag) group w valid passes = release-well t name tag w

pub does-well : (now : ℕ) (t : Tree) (c : Call) (group : ℕ) → IsWellFormed t → HasValidNames c → IsWellFormed (does now t c group).1
does-well now t (call.Command c) group w valid = either ((check_of t c).errno == 0) refl
  where
    either : (b : Bool) → ((check_of t c).errno == 0) ≡ b → IsWellFormed (cond b (change_of t c group now) t)
    either true zero = change-well now t c group w valid (zero_passes t c zero)
    either false other = w
does-well now t (call.Query q) group w valid = w

-- the reply to a call
pub does-printable : (now : ℕ) (t : Tree) (c : Call) (group : ℕ) → IsWellFormed t → IsPrintable (does now t c group).0
does-printable now t (call.Command c) group w = details-utf8 t c w
does-printable now t (call.Query q) group w = answer-printable t q w
