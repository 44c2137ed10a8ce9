-- What the arguments of a function name (zfs-program(8): "dataset (string): a dataset").
-- This project's own: the number of arguments is exact, and a number counts as the text of its digits.
use Rattle.std.specs.Prelude.{ℕ, List, [], ◌∷◌, bytes_eq, if◌then◌else◌, Option, Some, None, slice_get}
use Rattle.lua_meaning.specs.declared.value.Value.{Value}
use Rattle.lua_meaning.specs.Numbers.{as_text}
use Rattle.zp_names.specs.Names.{is_valid_name}
use Rattle.zp_names.specs.NameParts.{pool_of}
use Rattle.zp_tree.specs.Tree.{Tree}
use Rattle.zp_tree.specs.declared.item.Item.{Item}
use Rattle.zp_tree.specs.declared.item.Item.TheVariants as item
use Rattle.zcp_calls.specs.declared.naming.Named.{Named}
use Rattle.zcp_calls.specs.declared.naming.Named.TheVariants as named

-- the name of the pool is that of the first record
abbrev pub name_of_head : Option Item → List ℕ
name_of_head (Some (item.Head d)) = d.name
name_of_head r = []

abbrev pub pool_name : Tree → List ℕ
pool_name t = name_of_head (slice_get t.records 0)

-- the text that the one argument counts as
abbrev pub one_text : List Value → Option (List ℕ)
one_text [] = None
one_text (v ∷ []) = as_text v
one_text (v ∷ w ∷ vs) = None

-- what a text names for the programs of a pool
abbrev pub named_in : (pool text : List ℕ) → Named
named_in pool text = if is_valid_name text then (if bytes_eq (pool_of text) pool then named.Here text else named.Elsewhere text) else named.NoName text

abbrev pub named_by : (pool : List ℕ) → Option (List ℕ) → Named
named_by pool None = named.Wrong
named_by pool (Some text) = named_in pool text

-- what the one argument names
abbrev pub one_name : (pool : List ℕ) → List Value → Named
one_name pool args = named_by pool (one_text args)
