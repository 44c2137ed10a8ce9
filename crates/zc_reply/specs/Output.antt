-- The output: one compact JSON text (RFC 8259), the members of its objects in byte order of their names, and a newline.
use Rattle.std.specs.Prelude.{ℕ, ◌++◌, List, [], ◌∷◌, codes}
use Rattle.serde_json.specs.Data.{Data, object, member, no_members}
use Rattle.serde_json.specs.Written.{compact_text}
use Rattle.zp_tree.specs.declared.item.Item.{Item}
use Rattle.txg_core.specs.declared.event.Event.{Event}
use Rattle.zp_calls.specs.declared.reply.Reply.{Reply}
use Rattle.zc_reply.specs.Journal.{whole, array_of, event_data}
use Rattle.zc_reply.specs.Replies.{reply_data}
use Rattle.zc_reply.specs.Records.{record_data}

-- the whole, before it is a text
abbrev pub output_data : List Event → List (List Reply) → ℕ → List Item → Data
output_data journal replies synced records =
    object (member (codes "journal") (array_of event_data journal)
    (member (codes "replies") (array_of (array_of reply_data) replies)
    (member (codes "synced") (whole synced)
    (member (codes "tree") (array_of (record_data records) records) no_members))))

-- the text of the journal, the replies given to each session, the synced group and the records
abbrev pub output_text : List Event → List (List Reply) → ℕ → List Item → List ℕ
output_text journal replies synced records = compact_text (output_data journal replies synced records) ++ 10 ∷ []
