-- The output has no float.
use Rattle.std.proofs.Common.{◌≡◌, ℕ, List, [], ◌∷◌, false, Option, Some, None, refl, Ordering, Less, Equal, Greater, map, take, fold, nat_cmp}
use Rattle.std.specs.Cmp.Lexicographic.{slice_cmp}
use Rattle.std.specs.Ordering.{match_ordering}
use Rattle.std.specs.Prelude.{option_and_then}
use Rattle.std.specs.Option.{option_map_or}
use Rattle.std.proofs.lemmas.Bool.{or_parts}
use Rattle.serde_json.specs.Data.{Data, null, string, Members, member, no_members, put}
use Rattle.serde_json.specs.View.{items_of}
use Rattle.serde_json.specs.Written.{has_float, items_have_float, members_have_float}
use Rattle.zp_props.specs.declared.setting.Setting.{Setting}
use Rattle.zp_props.specs.declared.setting.PropValue.{PropValue}
use Rattle.zp_props.specs.declared.setting.PropValue.TheVariants.{Number, Text}
use Rattle.zp_tree.specs.declared.item.Item.{Item}
use Rattle.zp_tree.specs.declared.item.Item.TheVariants as record_of
use Rattle.zp_tree.specs.Tree.{at, full_name}
use Rattle.txg_core.specs.declared.event.Event.{Event}
use Rattle.txg_core.specs.declared.event.Event.TheVariants as event
use Rattle.zp_calls.specs.declared.reply.Reply.{Reply}
use Rattle.zp_calls.specs.declared.reply.Reply.TheVariants as reply
use Rattle.zc_reply.specs.Journal.{array_of, event_data}
use Rattle.zc_reply.specs.Replies.{verdict_data, reply_data}
use Rattle.zc_reply.specs.Records.{value_data, put_setting, hold_data, name_data, record_data}
use Rattle.zc_reply.specs.Output.{output_data}

-- nor has an array, where none of its values has one
items : {A : Type 0} (f : A → Data) → ((x : A) → has_float (f x) ≡ false) → (xs : List A) → items_have_float (items_of (map f xs)) ≡ false
items f h [] = refl
items f h (x ∷ xs) = rw (h x) (items f h xs)

-- an event
event_float : (e : Event) → has_float (event_data e) ≡ false
event_float (event.Hold s) = refl
event_float (event.Check s) = refl
event_float (event.Enqueue s) = refl
event_float (event.Read s) = refl
event_float event.Quiesce = refl
event_float event.Begin = refl
event_float (event.Sync s) = refl
event_float event.End = refl
event_float (event.Take s) = refl

-- a reply to a command
verdict_float : (errno : ℕ) (details : List (List ℕ)) → has_float (verdict_data errno details) ≡ false
verdict_float errno [] = refl
verdict_float errno (d ∷ ds) = rw (items string (λ _. refl) (take 256 (d ∷ ds))) refl

-- the value of a property
value_float : (v : PropValue) → has_float (value_data v) ≡ false
value_float (Number n) = refl
value_float (Text t) = refl

-- a text that may be missing, and a value
text_float : (o : Option (List ℕ)) → has_float (option_map_or string o null) ≡ false
text_float None = refl
text_float (Some t) = refl

given_float : (o : Option PropValue) → has_float (option_map_or value_data o null) ≡ false
given_float None = refl
given_float (Some v) = value_float v

-- a reply
reply_float : (r : Reply) → has_float (reply_data r) ≡ false
reply_float (reply.Errno v) = verdict_float v.errno v.details
reply_float (reply.Names names) = rw (items string (λ _. refl) names) refl
reply_float (reply.Prop value source) = rw (text_float source, given_float value) refl
reply_float (reply.Exists b) = refl

-- an object with one more member, wherever it goes
put_at : (o : Ordering) (k l : List ℕ) (d e : Data) (ms : Members) → has_float d ≡ false → has_float e ≡ false → members_have_float ms ≡ false → members_have_float (put k d ms) ≡ false
    → members_have_float (match_ordering o (member k d (member l e ms)) (member l d ms) (member l e (put k d ms))) ≡ false
put_at Less k l d e ms here there rest more = rw (here, there, rest) refl
put_at Equal k l d e ms here there rest more = rw (here, rest) refl
put_at Greater k l d e ms here there rest more = rw (there, more) refl

-- an object with one more member
pub put_float : (k : List ℕ) (d : Data) (ms : Members) → has_float d ≡ false → members_have_float ms ≡ false → members_have_float (put k d ms) ≡ false
put_float k d no_members here rest = rw here refl
put_float k d (member l e ms) here rest =
    let parts = or_parts (has_float e) (members_have_float ms) rest in
    put_at (slice_cmp nat_cmp k l) k l d e ms here parts.0 parts.1 (put_float k d ms here parts.1)

-- the settings
settings_float : (ms : Members) (ss : List Setting) → members_have_float ms ≡ false → members_have_float (fold put_setting ms ss) ≡ false
settings_float ms [] h = h
settings_float ms (s ∷ ss) h = settings_float (put_setting ms s) ss (put_float s.name (value_data s.value) ms (value_float s.value) h)

-- a name
name_float : (rs : List Item) (r : Item) → has_float (name_data rs r) ≡ false
name_float rs r = elim (full_name rs r) as (λ o. has_float (option_map_or string o null) ≡ false) [ Some t ↦ refl | None ↦ refl ]

-- the name of a record that may be missing
found_float : (rs : List Item) (o : Option Item) → has_float (option_map_or (name_data rs) o null) ≡ false
found_float rs None = refl
found_float rs (Some r) = name_float rs r

-- a record
record_float : (rs : List Item) (r : Item) → has_float (record_data rs r) ≡ false
record_float rs (record_of.Head d) = rw (found_float rs (option_and_then (at rs) d.origin), settings_float no_members d.settings refl) refl
record_float rs (record_of.Snap s) = rw (items hold_data (λ _. refl) s.holds, name_float rs (record_of.Snap s), settings_float no_members s.settings refl) refl
record_float rs (record_of.Mark m) = rw (name_float rs (record_of.Mark m)) refl

-- the whole output
pub output_float : (journal : List Event) (replies : List (List Reply)) (synced : ℕ) (rs : List Item) → has_float (output_data journal replies synced rs) ≡ false
output_float journal replies synced rs =
    rw (items event_data event_float journal, items (array_of reply_data) (λ given. items reply_data reply_float given) replies, items (record_data rs) (record_float rs) rs) refl
