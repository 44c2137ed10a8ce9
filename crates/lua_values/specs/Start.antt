-- What a program starts with: the globals, and the tables that hold functions (Lua 5.2 manual, 6; zfs-program(8)).
-- This project's own: the numbers of these tables, and that their functions stand in the order in which the reference lists them.
use Rattle.std.specs.Prelude.{ℕ, pos, ℤ, List, [], ◌∷◌, ◌++◌, map, drop, length, codes, None}
use Rattle.std.specs.Borrow.{Bor}
use Rattle.zc_budget.specs.Used.{Used}
use Rattle.lua_meaning.specs.declared.builtin.Builtin.{Builtin as BuiltinOf}
use Rattle.lua_meaning.specs.declared.builtin.Builtin.TheVariants as builtin
use Rattle.lua_meaning.specs.Builtins.{name_of}
use Rattle.lua_meaning.specs.declared.value.Value.{Value}
use Rattle.lua_meaning.specs.declared.value.Value.TheVariants as value
use Rattle.lua_meaning.specs.Tables.{Pairs, with_pair}
use Rattle.lua_meaning.specs.Heap.{HeapOf, TableOf}

-- functions by name, without the name of the table that they stand in
abbrev pub functions : (table : List ℕ) → List BuiltinOf → Pairs
functions table bs = map (λ b. (value.Text (drop (length table) (name_of b)), value.Builtin b)) bs

abbrev pub subtable : List ℕ → ℕ → Value × Value
subtable name t = (value.Text name, value.Table t)

abbrev pub error_number : List ℕ → ℕ → Value × Value
error_number name n = (value.Text name, value.Int (pos n))

abbrev pub basic_functions : List BuiltinOf
basic_functions =
    builtin.Assert ∷ builtin.CollectGarbage ∷ builtin.Error ∷ builtin.GetMetatable ∷ builtin.SetMetatable ∷ builtin.Ipairs ∷ builtin.Pairs ∷ builtin.Next ∷
    builtin.RawEqual ∷ builtin.RawGet ∷ builtin.RawLen ∷ builtin.RawSet ∷ builtin.Select ∷ builtin.ToNumber ∷ builtin.ToString ∷ builtin.Type ∷ []

abbrev pub coroutine_functions : List BuiltinOf
coroutine_functions =
    builtin.CoroutineCreate ∷ builtin.CoroutineWrap ∷ builtin.CoroutineResume ∷ builtin.CoroutineYield ∷ builtin.CoroutineRunning ∷ builtin.CoroutineStatus ∷ []

abbrev pub table_functions : List BuiltinOf
table_functions =
    builtin.TableConcat ∷ builtin.TableInsert ∷ builtin.TableRemove ∷ builtin.TablePack ∷ builtin.TableUnpack ∷ builtin.TableSort ∷ []

-- `match`, `gmatch` and `gsub` are not there yet.
abbrev pub string_functions : List BuiltinOf
string_functions =
    builtin.StringByte ∷ builtin.StringChar ∷ builtin.StringLen ∷ builtin.StringRep ∷ builtin.StringReverse ∷ builtin.StringSub ∷ builtin.StringLower ∷
    builtin.StringUpper ∷ builtin.StringFind ∷ builtin.StringFormat ∷ []

abbrev pub zfs_functions : List BuiltinOf
zfs_functions = builtin.ZfsExists ∷ builtin.ZfsDebug ∷ builtin.ZfsGetProp ∷ []

abbrev pub list_functions : List BuiltinOf
list_functions =
    builtin.ZfsListChildren ∷ builtin.ZfsListSnapshots ∷ builtin.ZfsListBookmarks ∷ builtin.ZfsListClones ∷ builtin.ZfsListHolds ∷
    builtin.ZfsListUserProperties ∷ builtin.ZfsListProperties ∷ builtin.ZfsListSystemProperties ∷ []

abbrev pub check_functions : List BuiltinOf
check_functions =
    builtin.ZfsCheckDestroy ∷ builtin.ZfsCheckPromote ∷ builtin.ZfsCheckRollback ∷ builtin.ZfsCheckSnapshot ∷ builtin.ZfsCheckInherit ∷
    builtin.ZfsCheckSetProp ∷ builtin.ZfsCheckRenameSnapshot ∷ builtin.ZfsCheckBookmark ∷ []

abbrev pub sync_functions : List BuiltinOf
sync_functions =
    builtin.ZfsSyncDestroy ∷ builtin.ZfsSyncPromote ∷ builtin.ZfsSyncRollback ∷ builtin.ZfsSyncSnapshot ∷ builtin.ZfsSyncInherit ∷
    builtin.ZfsSyncSetProp ∷ builtin.ZfsSyncRenameSnapshot ∷ builtin.ZfsSyncBookmark ∷ []

-- the error numbers that zfs-program(8) names, as Linux has them
abbrev pub error_numbers : Pairs
error_numbers =
    error_number (codes "EPERM") 1 ∷ error_number (codes "ENOENT") 2 ∷ error_number (codes "ESRCH") 3 ∷ error_number (codes "EINTR") 4 ∷
    error_number (codes "EIO") 5 ∷ error_number (codes "ENXIO") 6 ∷ error_number (codes "E2BIG") 7 ∷ error_number (codes "ENOEXEC") 8 ∷
    error_number (codes "EBADF") 9 ∷ error_number (codes "ECHILD") 10 ∷ error_number (codes "EAGAIN") 11 ∷ error_number (codes "ENOMEM") 12 ∷
    error_number (codes "EACCES") 13 ∷ error_number (codes "EFAULT") 14 ∷ error_number (codes "ENOTBLK") 15 ∷ error_number (codes "EBUSY") 16 ∷
    error_number (codes "EEXIST") 17 ∷ error_number (codes "EXDEV") 18 ∷ error_number (codes "ENODEV") 19 ∷ error_number (codes "ENOTDIR") 20 ∷
    error_number (codes "EISDIR") 21 ∷ error_number (codes "EINVAL") 22 ∷ error_number (codes "ENFILE") 23 ∷ error_number (codes "EMFILE") 24 ∷
    error_number (codes "ENOTTY") 25 ∷ error_number (codes "ETXTBSY") 26 ∷ error_number (codes "EFBIG") 27 ∷ error_number (codes "ENOSPC") 28 ∷
    error_number (codes "ESPIPE") 29 ∷ error_number (codes "EROFS") 30 ∷ error_number (codes "EMLINK") 31 ∷ error_number (codes "EPIPE") 32 ∷
    error_number (codes "EDOM") 33 ∷ error_number (codes "ERANGE") 34 ∷ error_number (codes "EDQUOT") 122 ∷ []

abbrev pub plain_table : Pairs → TableOf
plain_table ps = record { pairs = ps; meta = None }

unfoldable pub globals : Pairs
globals =
    functions [] basic_functions ++
    (subtable (codes "coroutine") 1 ∷ subtable (codes "string") 2 ∷ subtable (codes "table") 3 ∷ subtable (codes "zfs") 4 ∷ []) ++
    error_numbers

unfoldable pub zfs_pairs : Pairs
zfs_pairs = functions (codes "zfs.") zfs_functions ++ (subtable (codes "list") 5 ∷ subtable (codes "sync") 7 ∷ subtable (codes "check") 6 ∷ [])

-- the tables by number
abbrev pub start_tables : List TableOf
start_tables =
    plain_table globals ∷
    plain_table (functions (codes "coroutine.") coroutine_functions) ∷
    plain_table (functions (codes "string.") string_functions) ∷
    plain_table (functions (codes "table.") table_functions) ∷
    plain_table zfs_pairs ∷
    plain_table (functions (codes "zfs.list.") list_functions) ∷
    plain_table (functions (codes "zfs.check.") check_functions) ∷
    plain_table (functions (codes "zfs.sync.") sync_functions) ∷ []

-- the heap that a program starts with, under what may be used
unfoldable pub start_heap : Used → HeapOf
start_heap u = record { tables = start_tables; cells = []; closures = []; iters = []; threads = 0; used = u }

-- pairs put one after another
abbrev pub with_pairs : (before : Pairs) → Pairs → Pairs
with_pairs before [] = before
with_pairs before (p ∷ ps) = with_pairs (with_pair before p.0 p.1) ps

-- numbers by name
abbrev pub named_numbers : List (Bor (List ℕ) × ℤ) → Pairs
named_numbers ns = map (λ n. (value.Text n.0.now, value.Int n.1)) ns
