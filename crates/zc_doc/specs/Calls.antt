-- Names and calls in a document: a call is an object with `op` and the fields of its op.
-- Source: the commands of zfs(8) by their names there; the fields are this project's own.
use Rattle.std.specs.Prelude.{ℕ, ◌-◌, ◌^◌, if◌then◌else◌, Bool, false, List, [], ◌∷◌, codes, bytes_eq, Option, Some, None, Result, Ok, Err}
use Rattle.serde_json.specs.Data.{Data}
use Rattle.serde_json.specs.Find.{get}
use Rattle.zp_names.specs.Names.{is_valid_name}
use Rattle.zp_names.specs.NameParts.{is_pool, pool_of}
use Rattle.zp_names.specs.declared.command.Command.{Command}
use Rattle.zp_names.specs.declared.command.Command.TheVariants.{Create, CreateVolume, Snapshot, Clone, Bookmark, Mount, Unmount, Rollback, Stamp, RenameSnapshot, Destroy, Promote, Rename, Set, Inherit, Hold, Release}
use Rattle.zp_names.specs.declared.command.Query.{Query}
use Rattle.zp_names.specs.declared.command.Query.TheVariants as query
use Rattle.zp_names.specs.declared.list_kind.ListKind.{ListKind}
use Rattle.zp_names.specs.declared.list_kind.ListKind.TheVariants as kind
use Rattle.zp_calls.specs.declared.call.Call.{Call}
use Rattle.zp_calls.specs.declared.call.Call.TheVariants as call
use Rattle.zc_doc.specs.declared.error.DocError.{DocError}
use Rattle.zc_doc.specs.declared.error.DocError.TheVariants as refusal
use Rattle.zc_doc.specs.Refusals.{below_step}
use Rattle.zc_doc.specs.Reading.{◌>>=◌, named_so, text_at, flag_at, number_at, present, present_or, member, is_among, members_at, only_members}

-- ---- names

-- a valid name
abbrev pub any_name_at : Data → Result (List ℕ) DocError
any_name_at d = text_at d >>= named_so is_valid_name

-- the name of a pool: one part, no mark
abbrev pub pool_at : Data → Result (List ℕ) DocError
pool_at d = any_name_at d >>= named_so is_pool

-- a name in the pool
abbrev pub name_at : List ℕ → Data → Result (List ℕ) DocError
name_at pool d = any_name_at d >>= named_so (λ name. bytes_eq (pool_of name) pool)

-- ---- kinds of lists

-- the kinds by their words, as `zfs.list` of zfs-program(8) has them
abbrev pub list_kinds : List (List ℕ × ListKind)
list_kinds =
    (codes "children", kind.Children)
    ∷ (codes "snapshots", kind.Snapshots)
    ∷ (codes "clones", kind.Clones)
    ∷ (codes "bookmarks", kind.Bookmarks)
    ∷ (codes "holds", kind.Holds)
    ∷ (codes "user_properties", kind.UserProperties)
    ∷ []

-- the kind of this word; another word is refused
abbrev pub kind_among : List (List ℕ × ListKind) → List ℕ → Result ListKind DocError
kind_among [] word = Err (refusal.BadType [])
kind_among (row ∷ rows) word = if bytes_eq word row.0 then Ok row.1 else kind_among rows word

unfoldable pub kind_of_word : List ℕ → Result ListKind DocError
kind_of_word word = kind_among list_kinds word

abbrev pub list_kind_at : Data → Result ListKind DocError
list_kind_at d = text_at d >>= kind_of_word

-- ---- fields

-- a field of a call: its name, and what stands there
pub record CallField (A : Type 0) : Type 0 where
  pub name : List ℕ
  pub reads : Option Data → Result A DocError

abbrev pub a_name : List ℕ → List ℕ → CallField (List ℕ)
a_name pool key = record { name = key; reads = present (name_at pool) }

abbrev pub a_text : List ℕ → CallField (List ℕ)
a_text key = record { name = key; reads = present text_at }

abbrev pub a_number : ℕ → ℕ → List ℕ → CallField ℕ
a_number low high key = record { name = key; reads = present (number_at low high) }

-- true or false; false where it is missing
abbrev pub a_flag : List ℕ → CallField Bool
a_flag key = record { name = key; reads = present_or false flag_at }

abbrev pub a_list_kind : List ℕ → CallField ListKind
a_list_kind key = record { name = key; reads = present list_kind_at }

-- a text, empty where it is missing
abbrev pub a_text_or_empty : List ℕ → CallField (List ℕ)
a_text_or_empty key = record { name = key; reads = present_or [] text_at }

-- a number in a range; the greatest where it is missing
abbrev pub a_number_or_most : ℕ → ℕ → List ℕ → CallField ℕ
a_number_or_most low high key = record { name = key; reads = present_or high (number_at low high) }

abbrev pub field_in : {A : Type 0} → Data → CallField A → Result A DocError
field_in d f = below_step f.name (f.reads (get f.name d))

-- what is made of an op's one to four fields, in their order; it has no members but these and `op`
abbrev pub one : {A C : Type 0} → (A → C) → CallField A → Data → Result C DocError
one make a d = do
  _ ← only_members (is_among (codes "op" ∷ a.name ∷ [])) d
  x ← field_in d a
  Ok (make x)

abbrev pub two : {A B C : Type 0} → (A → B → C) → CallField A → CallField B → Data → Result C DocError
two make a b d = do
  _ ← only_members (is_among (codes "op" ∷ a.name ∷ b.name ∷ [])) d
  x ← field_in d a
  y ← field_in d b
  Ok (make x y)

abbrev pub three : {A B C D : Type 0} → (A → B → C → D) → CallField A → CallField B → CallField C → Data → Result D DocError
three make a b c d = do
  _ ← only_members (is_among (codes "op" ∷ a.name ∷ b.name ∷ c.name ∷ [])) d
  x ← field_in d a
  y ← field_in d b
  z ← field_in d c
  Ok (make x y z)

abbrev pub four : {A B C D E : Type 0} → (A → B → C → D → E) → CallField A → CallField B → CallField C → CallField D → Data → Result E DocError
four make a b c f d = do
  _ ← only_members (is_among (codes "op" ∷ a.name ∷ b.name ∷ c.name ∷ f.name ∷ [])) d
  x ← field_in d a
  y ← field_in d b
  z ← field_in d c
  u ← field_in d f
  Ok (make x y z u)

-- ---- the ops: a row for each, with its fields in their order

abbrev pub Ops : Type 0 → Type 0
Ops A = List (List ℕ × (Data → Result A DocError))

abbrev pub commands : List ℕ → Ops Command
commands pool =
    (codes "create", one (λ name. Create name) (a_name pool (codes "name")))
    ∷ (codes "create_volume", two (λ name size. CreateVolume name size) (a_name pool (codes "name")) (a_number 1 (2 ^ 63 - 1) (codes "volsize")))
    ∷ (codes "snapshot", one (λ name. Snapshot name) (a_name pool (codes "name")))
    ∷ (codes "clone", two (λ source name. Clone source name) (a_name pool (codes "source")) (a_name pool (codes "name")))
    ∷ (codes "bookmark", two (λ source name. Bookmark source name) (a_name pool (codes "source")) (a_name pool (codes "name")))
    ∷ (codes "mount", one (λ name. Mount name) (a_name pool (codes "name")))
    ∷ (codes "unmount", one (λ name. Unmount name) (a_name pool (codes "name")))
    ∷ (codes "rollback", one (λ name. Rollback name) (a_name pool (codes "name")))
    ∷ (codes "stamp", two (λ name value. Stamp name value) (a_name pool (codes "name")) (a_number 0 (2 ^ 63 - 1) (codes "value")))
    ∷ (codes "rename_snapshot", three (λ name old new. RenameSnapshot name old new) (a_name pool (codes "name")) (a_text (codes "old")) (a_text (codes "new")))
    ∷ (codes "destroy", two (λ name defer. Destroy name defer) (a_name pool (codes "name")) (a_flag (codes "defer")))
    ∷ (codes "promote", one (λ name. Promote name) (a_name pool (codes "name")))
    ∷ (codes "rename", two (λ name to. Rename name to) (a_name pool (codes "name")) (a_name pool (codes "to")))
    ∷ (codes "set", three (λ name property value. Set name property value) (a_name pool (codes "name")) (a_text (codes "prop")) (a_text (codes "value")))
    ∷ (codes "inherit", two (λ name property. Inherit name property) (a_name pool (codes "name")) (a_text (codes "prop")))
    ∷ (codes "hold", two (λ name tag. Hold name tag) (a_name pool (codes "name")) (a_text (codes "tag")))
    ∷ (codes "release", two (λ name tag. Release name tag) (a_name pool (codes "name")) (a_text (codes "tag")))
    ∷ []

abbrev pub queries : List ℕ → Ops Query
queries pool =
    (codes "exists", one (λ name. query.Exists name) (a_name pool (codes "name")))
    ∷ (codes "list", four (λ k name after limit. query.List k name after limit) (a_list_kind (codes "kind")) (a_name pool (codes "name")) (a_text_or_empty (codes "after")) (a_number_or_most 1 256 (codes "limit")))
    ∷ (codes "get", two (λ name property. query.Get name property) (a_name pool (codes "name")) (a_text (codes "prop")))
    ∷ []

-- what a row of this op reads; another op is refused
abbrev pub read_op : {A : Type 0} → Ops A → List ℕ → Data → Result A DocError
read_op [] op d = below_step (codes "op") (Err (refusal.BadType []))
read_op (row ∷ rows) op d = if bytes_eq op row.0 then row.1 d else read_op rows op d

unfoldable pub command_of : List ℕ → List ℕ → Data → Result Command DocError
command_of pool op d = read_op (commands pool) op d

unfoldable pub query_of : List ℕ → List ℕ → Data → Result Query DocError
query_of pool op d = read_op (queries pool) op d

-- ---- calls

-- the op that an object has
abbrev pub op_in : Data → Result (List ℕ) DocError
op_in d = members_at d >>= λ _. member text_at (codes "op") d

-- a command, as it stands in the setup
abbrev pub command_at : List ℕ → Data → Result Command DocError
command_at pool d = op_in d >>= λ op. command_of pool op d

-- the ops that are queries
abbrev pub is_query_op : List ℕ → Bool
is_query_op op = is_among (codes "exists" ∷ codes "list" ∷ codes "get" ∷ []) op

-- a query or a command, as it stands in a session
abbrev pub call_of : List ℕ → List ℕ → Data → Result Call DocError
call_of pool op d =
    if is_query_op op then (query_of pool op d >>= λ q. Ok (call.Query q))
    else (command_of pool op d >>= λ c. Ok (call.Command c))

abbrev pub call_at : List ℕ → Data → Result Call DocError
call_at pool d = op_in d >>= λ op. call_of pool op d
