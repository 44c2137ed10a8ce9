-- Calls worked out on a small pool: what they answer, what they cost, and the tree that is left.
use Rattle.std.specs.Prelude.{◌≡◌, refl, ℕ, pos, true, false, List, [], ◌∷◌, codes, None}
use Rattle.std.specs.Fmt.{digits}
use Rattle.zc_budget.specs.Used.{Used}
use Rattle.lua_meaning.specs.declared.value.Value.{Value}
use Rattle.lua_meaning.specs.declared.value.Value.TheVariants as value
use Rattle.lua_meaning.specs.Heap.{HeapOf}
use Rattle.lua_meaning.specs.Jobs.{Values, Raise}
use Rattle.zp_names.specs.Names.{is_valid_name, is_valid_short}
use Rattle.zp_tree.specs.declared.item.Item.{Item}
use Rattle.zp_tree.specs.declared.item.Item.TheVariants as item
use Rattle.zp_tree.specs.declared.item.HeadKind.TheVariants.{Filesystem}
use Rattle.zp_tree.specs.Tree.{Tree}
use Rattle.zcp_calls.specs.declared.syncing.SyncCall.TheVariants as call
use Rattle.zcp_calls.specs.Existing.{exists_call}
use Rattle.zcp_calls.specs.Syncing.{sync_call}

abbrev head : ℕ → List ℕ → ℕ → Item
head id name group = item.Head (record { id = id; name = name; kind = Filesystem; origin = None; settings = []; stamp = 0; mounted = false; createtxg = group })

abbrev snapshot : ℕ → ℕ → List ℕ → ℕ → Item
snapshot id owner short group = item.Snap (record { id = id; owner = owner; short = short; settings = []; stamp = 0; createtxg = group; deferred = false; holds = [] })

-- the pool `rpool` with a dataset `rpool/a`
abbrev pool : Tree
pool = record { records = head 1 (codes "rpool") 0 ∷ head 2 (codes "rpool/a") 0 ∷ []; next = 3 }

-- with the snapshot `rpool/a@s` of group 1
abbrev with_snapshot : Tree
with_snapshot = record { records = head 1 (codes "rpool") 0 ∷ head 2 (codes "rpool/a") 0 ∷ snapshot 3 2 (codes "s") 1 ∷ []; next = 4 }

abbrev heap : (bytes : ℕ) → HeapOf
heap bytes = record { tables = []; cells = []; closures = []; iters = []; threads = 0; used = record { instructions = 9; bytes = bytes; most_instructions = 100; most_bytes = 10000 } }

abbrev one : List ℕ → List Value
one text = value.Text text ∷ []

takes_a_snapshot : sync_call call.Snapshot (one (codes "rpool/a@s")) (1 ∷ []) 1 0 (heap 64) pool ≡ (Values (value.Int (pos 0) ∷ []), heap 64, with_snapshot)
unfolding is_valid_name is_valid_short
takes_a_snapshot = refl

-- the same name again is EEXIST, and changes nothing
is_there_already : sync_call call.Snapshot (one (codes "rpool/a@s")) (1 ∷ []) 2 0 (heap 64) with_snapshot ≡ (Values (value.Int (pos 17) ∷ []), heap 64, with_snapshot)
unfolding is_valid_name is_valid_short
is_there_already = refl

-- a dataset that isn't there is ENOENT
has_no_dataset : sync_call call.Snapshot (one (codes "rpool/b@s")) (1 ∷ []) 1 0 (heap 64) pool ≡ (Values (value.Int (pos 2) ∷ []), heap 64, pool)
unfolding is_valid_name is_valid_short
has_no_dataset = refl

-- a text that is no name, as this number is none, is EINVAL
is_no_name : sync_call call.Snapshot (value.Int (pos 5) ∷ []) (1 ∷ []) 1 0 (heap 64) pool ≡ (Values (value.Int (pos 22) ∷ []), heap 64, pool)
unfolding is_valid_name is_valid_short digits
is_no_name = refl

-- two arguments are one too many; the error's text costs 24 bytes and its length
has_too_many_arguments : sync_call call.Snapshot (value.Text (codes "rpool/a@s") ∷ value.Nil ∷ []) (3 ∷ []) 1 0 (heap 64) pool ≡ (Raise (value.Text (codes "[string \"channel program\"]:3: bad arguments to zfs.sync.snapshot")), heap 152, pool)
unfolding digits
has_too_many_arguments = refl

is_of_another_pool : sync_call call.Snapshot (one (codes "other/fs@s")) (1 ∷ []) 1 0 (heap 64) pool ≡ (Raise (value.Text (codes "[string \"channel program\"]:1: dataset 'other/fs@s' is not in pool 'rpool'")), heap 161, pool)
unfolding is_valid_name is_valid_short digits
is_of_another_pool = refl

finds_the_snapshot : exists_call (one (codes "rpool/a@s")) (1 ∷ []) with_snapshot (heap 64) ≡ (Values (value.Bool true ∷ []), heap 64)
unfolding is_valid_name is_valid_short
finds_the_snapshot = refl

finds_none : exists_call (one (codes "rpool/none")) (1 ∷ []) with_snapshot (heap 64) ≡ (Values (value.Bool false ∷ []), heap 64)
unfolding is_valid_name is_valid_short
finds_none = refl

asks_of_another_pool : exists_call (one (codes "other/fs")) (1 ∷ []) pool (heap 64) ≡ (Raise (value.Text (codes "[string \"channel program\"]:1: dataset 'other/fs' is not in pool 'rpool'")), heap 159)
unfolding is_valid_name is_valid_short digits
asks_of_another_pool = refl

asks_of_no_name : exists_call (one (codes "1/fs")) (2 ∷ []) pool (heap 64) ≡ (Raise (value.Text (codes "[string \"channel program\"]:2: invalid dataset name '1/fs'")), heap 145)
unfolding is_valid_name is_valid_short digits
asks_of_no_name = refl
