-- A call of `zfs.sync` keeps a tree well formed.
use Rattle.std.proofs.Common.{◌≡◌, ℕ, ◌==◌, List, Bool, true, false, cond, nat_le, ◌&&◌, ◌||◌, length, bytes_eq, Option, Some, None, refl}
use Rattle.std.specs.Prelude.{⊤}
use Rattle.std.specs.List.{list_all}
use Rattle.std.proofs.lemmas.Bool.{and_parts}
use Rattle.lua_meaning.specs.declared.value.Value.{Value}
use Rattle.lua_meaning.specs.Heap.{HeapOf}
use Rattle.zp_names.specs.Names.{is_valid_name, is_head, is_valid_short, short_of, begins_with_letter, is_joined, parts_of, is_part}
use Rattle.zp_names.specs.NameParts.{pool_of}
use Rattle.zp_names.specs.declared.command.Command.{Command}
use Rattle.zp_names.specs.declared.command.Command.TheVariants as command
use Rattle.zp_tree.specs.Tree.{Tree}
use Rattle.zp_tree.specs.WellFormed.{IsWellFormed}
use Rattle.zp_tree.specs.Commands.{check_of, change_of}
use Rattle.zp_tree.proofs.Passing.{zero_passes}
use Rattle.zp_changes.proofs.SnapshotLaw.{snapshot-well}
use Rattle.zcp_calls.specs.declared.naming.Named.{Named}
use Rattle.zcp_calls.specs.declared.naming.Named.TheVariants as named
use Rattle.zcp_calls.specs.declared.syncing.SyncCall.{SyncCall}
use Rattle.zcp_calls.specs.declared.syncing.SyncCall.TheVariants as call
use Rattle.zcp_calls.specs.Naming.{pool_name, one_text, named_in, named_by, one_name}
use Rattle.zcp_calls.specs.Syncing.{asked_of, sync_by, sync_call}

-- a name of this pool is a valid one
abbrev HasGoodName : Named → Type 0
HasGoodName (named.Here name) = is_valid_name name ≡ true
HasGoodName n = ⊤

good_here : (text : List ℕ) (b : Bool) → is_valid_name text ≡ true → HasGoodName (cond b (named.Here text) (named.Elsewhere text))
good_here text true e = e
good_here text false e = tt

good_name : (pool text : List ℕ) → HasGoodName (named_in pool text)
good_name pool text = by (is_valid_name text) refl
  where
    by : (b : Bool) → is_valid_name text ≡ b → HasGoodName (cond b (cond (bytes_eq (pool_of text) pool) (named.Here text) (named.Elsewhere text)) (named.NoName text))
    by true e = good_here text (bytes_eq (pool_of text) pool) e
    by false e = tt

good_named : (pool : List ℕ) (text : Option (List ℕ)) → HasGoodName (named_by pool text)
good_named pool None = tt
good_named pool (Some text) = good_name pool text

-- a valid name is a head's or has a valid short name
short_or_head : (name : List ℕ) → is_valid_name name ≡ true → (is_head name || is_valid_short (short_of name)) ≡ true
unfolding is_valid_name
short_or_head name valid =
    let few = and_parts (begins_with_letter name && is_joined name && nat_le (length name) 255) (nat_le (length (parts_of name)) 50) valid in
    let short = and_parts (begins_with_letter name && is_joined name) (nat_le (length name) 255) few.0 in
    let joined = and_parts (begins_with_letter name) (is_joined name) short.0 in
    (and_parts (list_all is_part (parts_of name)) (is_head name || is_valid_short (short_of name)) joined.1).1

snapshot_keeps : (t : Tree) (name : List ℕ) (txg now : ℕ) → IsWellFormed t → is_valid_name name ≡ true → (b : Bool) → ((check_of t (command.Snapshot name)).errno == 0) ≡ b →
    IsWellFormed (cond b (change_of t (command.Snapshot name) txg now) t)
snapshot_keeps t name txg now well valid true zero = snapshot-well t name txg well (short_or_head name valid) (zero_passes t (command.Snapshot name) zero)
snapshot_keeps t name txg now well valid false zero = well

snapshots_keep : (n : Named) (lines : List ℕ) (txg now : ℕ) (h : HeapOf) (t : Tree) → HasGoodName n → IsWellFormed t →
    IsWellFormed (sync_by (asked_of (λ name. command.Snapshot name) n) call.Snapshot lines txg now h t).2
snapshots_keep (named.Here name) lines txg now h t good well = snapshot_keeps t name txg now well good ((check_of t (command.Snapshot name)).errno == 0) refl
snapshots_keep (named.Elsewhere name) lines txg now h t good well = well
snapshots_keep (named.NoName text) lines txg now h t good well = well
snapshots_keep named.Wrong lines txg now h t good well = well

pub sync_keeps : (which : SyncCall) (args : List Value) (lines : List ℕ) (txg now : ℕ) (h : HeapOf) (t : Tree) → IsWellFormed t → IsWellFormed (sync_call which args lines txg now h t).2
sync_keeps call.Snapshot args lines txg now h t well = snapshots_keep (one_name (pool_name t) args) lines txg now h t (good_named (pool_name t) (one_text args)) well
