-- The replies as JSON (RFC 8259). Their form is this project's own.
use Rattle.std.specs.Prelude.{ℕ, List, [], ◌∷◌, take, codes, Option}
use Rattle.std.specs.Option.{option_map_or}
use Rattle.serde_json.specs.Data.{Data, null, boolean, string, object, member, no_members}
use Rattle.zp_props.specs.declared.setting.PropValue.{PropValue}
use Rattle.zp_calls.specs.declared.reply.Reply.{Reply}
use Rattle.zp_calls.specs.declared.reply.Reply.TheVariants as reply
use Rattle.zc_reply.specs.Journal.{whole, array_of}
use Rattle.zc_reply.specs.Records.{value_data}

-- an error number, with the first 256 details where there are any
abbrev pub verdict_data : ℕ → List (List ℕ) → Data
verdict_data errno [] = object (member (codes "errno") (whole errno) no_members)
verdict_data errno (detail ∷ details) =
    object (member (codes "details") (array_of string (take 256 (detail ∷ details)))
    (member (codes "errno") (whole errno) no_members))

-- the names of a list
abbrev pub names_data : List (List ℕ) → Data
names_data names = object (member (codes "errno") (whole 0) (member (codes "names") (array_of string names) no_members))

-- a property, with its source and its value
abbrev pub property_data : Option PropValue → Option (List ℕ) → Data
property_data value source =
    object (member (codes "errno") (whole 0)
    (member (codes "source") (option_map_or string source null)
    (member (codes "value") (option_map_or value_data value null) no_members)))

-- a reply to a command or to a query
abbrev pub reply_data : Reply → Data
reply_data (reply.Errno verdict) = verdict_data verdict.errno verdict.details
reply_data (reply.Names names) = names_data names
reply_data (reply.Prop value source) = property_data value source
reply_data (reply.Exists there) =
    object (member (codes "errno") (whole 0) (member (codes "exists") (boolean there) no_members))
