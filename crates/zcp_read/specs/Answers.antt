-- The answers to queries. A query that is refused is answered by an error number; the first row that holds decides.
-- Source: zfs-program(8), `zfs.exists`, `zfs.list`, `zfs.get_prop`; the error numbers are this project's own.
use Rattle.std.specs.Prelude.{ℕ, not, min, if◌then◌else◌, List, Option, Some, None}
use Rattle.std.specs.Option.{option_map_or}
use Rattle.zp_names.specs.ErrorNumbers.{einval, enoent}
use Rattle.zp_names.specs.declared.command.Query.{Query}
use Rattle.zp_names.specs.declared.command.Query.TheVariants as query
use Rattle.zp_names.specs.declared.list_kind.ListKind.{ListKind}
use Rattle.zp_props.specs.declared.kind.Kind3.{Kind3}
use Rattle.zp_calls.specs.declared.reply.Reply.{Reply}
use Rattle.zp_calls.specs.declared.reply.Reply.TheVariants as reply
use Rattle.zp_tree.specs.declared.item.Item.{Item}
use Rattle.zp_tree.specs.Tree.{Tree, named, exists}
use Rattle.zp_tree.specs.Rows.{refuse}
use Rattle.zp_tree.specs.Settable.{kind_of_item, is_settable_name}
use Rattle.zcp_read.specs.Lists.{is_listed_name, names_in, names_listed, most_names}
use Rattle.zcp_read.specs.Told.{is_told, property_told}

abbrev pub refused : ℕ → Reply
refused errno = reply.Errno (refuse errno)

-- the names of a list: at most so many, and never more than a reply has
abbrev pub names_told : Tree → ListKind → List ℕ → ℕ → Item → Reply
names_told t kind after limit r = reply.Names (names_listed after (min most_names limit) (names_in t kind r))

abbrev pub list_answer : Tree → ListKind → List ℕ → List ℕ → ℕ → Reply
list_answer t kind name after limit =
    if not (is_listed_name kind name) then refused einval
    else option_map_or (names_told t kind after limit) (named t.records name) (refused enoent)

abbrev pub or_refused : Option Reply → ℕ → Reply
or_refused None errno = refused errno
or_refused (Some told) errno = told

abbrev pub told_answer : Tree → List ℕ → Item → Kind3 → Reply
told_answer t property r k =
    if not (is_told property k) then refused einval
    else or_refused (property_told t property r k) enoent

-- of a record; a bookmark has no properties
abbrev pub item_answer : Tree → List ℕ → Item → Reply
item_answer t property r = option_map_or (told_answer t property r) (kind_of_item r) (refused einval)

abbrev pub get_answer : Tree → List ℕ → List ℕ → Reply
get_answer t name property =
    if not (is_settable_name name) then refused einval
    else option_map_or (item_answer t property) (named t.records name) (refused enoent)

-- the answer to a query
abbrev pub answer_of : Tree → Query → Reply
answer_of t (query.Exists name) = reply.Exists (exists t name)
answer_of t (query.List kind name after limit) = list_answer t kind name after limit
answer_of t (query.Get name property) = get_answer t name property
