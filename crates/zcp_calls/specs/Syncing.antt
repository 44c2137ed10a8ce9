-- The functions of `zfs.sync`, which change the pool (zfs-program(8), "zfs.sync"): each is a command, and answers the error number of its check.
-- This project's own: a name of another pool raises an error, and a text that is no name is EINVAL.
use Rattle.std.specs.Prelude.{ℕ, ◌==◌, List, [], ◌∷◌, codes, if◌then◌else◌}
use Rattle.lua_meaning.specs.declared.value.Value.{Value}
use Rattle.lua_meaning.specs.Heap.{HeapOf}
use Rattle.lua_meaning.specs.Jobs.{Answer}
use Rattle.zp_names.specs.declared.command.Command.{Command}
use Rattle.zp_names.specs.declared.command.Command.TheVariants as command
use Rattle.zp_names.specs.ErrorNumbers.{einval}
use Rattle.zp_tree.specs.Tree.{Tree}
use Rattle.zp_tree.specs.Commands.{check_of, change_of}
use Rattle.zcp_calls.specs.declared.naming.Named.{Named}
use Rattle.zcp_calls.specs.declared.naming.Named.TheVariants as named
use Rattle.zcp_calls.specs.declared.syncing.SyncCall.{SyncCall}
use Rattle.zcp_calls.specs.declared.syncing.SyncCall.TheVariants as call
use Rattle.zcp_calls.specs.declared.syncing.Asked.{Asked}
use Rattle.zcp_calls.specs.declared.syncing.Asked.TheVariants as asked
use Rattle.zcp_calls.specs.Answering.{Answering, gives_number, raises, bad_arguments_text, other_pool_text}
use Rattle.zcp_calls.specs.Naming.{pool_name, one_name}

-- the name of a function, with the table that it stands in
abbrev pub sync_name : SyncCall → List ℕ
sync_name call.Snapshot = codes "zfs.sync.snapshot"

-- a command that is made of a name
abbrev pub asked_of : (List ℕ → Command) → Named → Asked
asked_of make (named.Here name) = asked.Does (make name)
asked_of make (named.Elsewhere name) = asked.Elsewhere name
asked_of make (named.NoName text) = asked.NoName
asked_of make named.Wrong = asked.Wrong

-- the command that a call is, by its arguments: a row a function
abbrev pub sync_command : SyncCall → (pool : List ℕ) → List Value → Asked
sync_command call.Snapshot pool args = asked_of (λ name. command.Snapshot name) (one_name pool args)

-- an answer, the heap that is left, and the tree that is left
abbrev pub Changing : Type 0
Changing = HeapOf → Tree → Answer × HeapOf × Tree

-- the tree stays
abbrev pub stays : (Tree → Answering) → Changing
stays answer h t = ((answer t h).0, (answer t h).1, t)

-- The error number of the check. The change is made where that is 0.
abbrev pub does_command : Command → (txg now : ℕ) → Changing
does_command c txg now h t = ((gives_number (check_of t c).errno h).0, h, if (check_of t c).errno == 0 then change_of t c txg now else t)

abbrev pub sync_by : Asked → SyncCall → (lines : List ℕ) → (txg now : ℕ) → Changing
sync_by (asked.Does c) which lines txg now = does_command c txg now
sync_by (asked.Elsewhere name) which lines txg now = stays (λ t. raises lines (other_pool_text name (pool_name t)))
sync_by asked.NoName which lines txg now = stays (λ t. gives_number einval)
sync_by asked.Wrong which lines txg now = stays (λ t. raises lines (bad_arguments_text (sync_name which)))

-- a call in a transaction group, at a moment in seconds
abbrev pub sync_call : SyncCall → List Value → (lines : List ℕ) → (txg now : ℕ) → Changing
sync_call which args lines txg now h t = sync_by (sync_command which (pool_name t) args) which lines txg now h t
