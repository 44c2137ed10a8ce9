-- `zfs.exists(dataset)`: whether there is a dataset, a snapshot or a bookmark of this name (zfs-program(8)).
-- This project's own: a name of another pool, and a text that is no name, raise an error.
use Rattle.std.specs.Prelude.{ℕ, List, [], ◌∷◌, codes}
use Rattle.lua_meaning.specs.declared.value.Value.{Value}
use Rattle.lua_meaning.specs.declared.value.Value.TheVariants as value
use Rattle.zp_tree.specs.Tree.{Tree, exists}
use Rattle.zcp_calls.specs.declared.naming.Named.{Named}
use Rattle.zcp_calls.specs.declared.naming.Named.TheVariants as named
use Rattle.zcp_calls.specs.Answering.{Answering, gives, raises, bad_arguments_text, other_pool_text, no_name_text}
use Rattle.zcp_calls.specs.Naming.{pool_name, one_name}

abbrev pub exists_by : Named → (lines : List ℕ) → Tree → Answering
exists_by (named.Here name) lines t = gives (value.Bool (exists t name) ∷ [])
exists_by (named.Elsewhere name) lines t = raises lines (other_pool_text name (pool_name t))
exists_by (named.NoName text) lines t = raises lines (no_name_text text)
exists_by named.Wrong lines t = raises lines (bad_arguments_text (codes "zfs.exists"))

abbrev pub exists_call : List Value → (lines : List ℕ) → Tree → Answering
exists_call args lines t = exists_by (one_name (pool_name t) args) lines t
