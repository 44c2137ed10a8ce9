-- First refusals, worked out by hand.
use Rattle.std.proofs.Common.{◌≡◌, ℕ, ◌-◌, ◌^◌, negsuc, List, [], ◌∷◌, Result, Ok, Err, codes, refl}
use Rattle.serde_json.specs.Data.{Data, null, number, string, array, object, unsigned, negative, no_items, item, Members, no_members, member}
use Rattle.zp_calls.specs.declared.call.Call.{Call}
use Rattle.zp_names.specs.declared.command.Command.{Command}
use Rattle.txg_core.specs.declared.event.Event.{Event}
use Rattle.txg_core.specs.declared.event.Event.TheVariants.{Hold}
use Rattle.zc_doc.specs.declared.error.DocError.{DocError}
use Rattle.zc_doc.specs.declared.error.DocError.TheVariants.{Unknown, Missing, BadType, TooMany, BadLimit}
use Rattle.std.specs.Fmt.{decimal}
use Rattle.zc_doc.specs.Refusals.{path_behind}
use Rattle.zc_doc.specs.Reading.{text_at, number_at, array_at}
use Rattle.zc_doc.specs.Calls.{command_of, query_of, command_at, call_at}
use Rattle.zc_doc.specs.Document.{group_event, session_event, event_at}

-- an object with this op, and behind it perhaps one member more
abbrev op-with : List ℕ → Members → Data
op-with op rest = object (member (codes "op") (string op) rest)

-- {"op":"create","zz":null}: an unknown member comes before one that is missing
unknown-first : call_at (codes "rpool") (op-with (codes "create") (member (codes "zz") null no_members)) ≡ Err (Unknown (codes "/zz"))
unfolding command_of
unknown-first = refl

-- {"op":"create"}
missing-name : call_at (codes "rpool") (op-with (codes "create") no_members) ≡ Err (Missing (codes "/name"))
unfolding command_of
missing-name = refl

-- {"op":"creat","zz":null}: where the op isn't known, no member is unknown
unknown-op : call_at (codes "rpool") (op-with (codes "creat") (member (codes "zz") null no_members)) ≡ Err (BadType (codes "/op"))
unfolding command_of
unknown-op = refl

-- {"op":"exists"} in a setup
query-in-setup : command_at (codes "rpool") (op-with (codes "exists") no_members) ≡ Err (BadType (codes "/op"))
unfolding command_of
query-in-setup = refl

-- {}
no-op : call_at (codes "rpool") (object no_members) ≡ Err (Missing (codes "/op"))
no-op = refl

-- [null,null], where one item may be
too-many-first : array_at 1 text_at (array (item null (item null no_items))) ≡ Err (TooMany [] 2)
too-many-first = refl

-- [["a"],[null]], where texts are to stand
place-of-item : array_at 2 (array_at 1 text_at) (array (item (array (item (string (codes "a")) no_items)) (item (array (item null no_items)) no_items))) ≡ Err (BadType (path_behind (decimal 1) (path_behind (decimal 0) [])))
place-of-item = refl

-- 9223372036854775808 and -1 are whole numbers
over : number_at 0 (2 ^ 63 - 1) (number (unsigned (2 ^ 63))) ≡ Err (BadLimit [])
over = refl

under : number_at 0 (2 ^ 63 - 1) (number (negative (negsuc 0))) ≡ Err (BadLimit [])
under = refl

-- ["hold",0] and ["hold",1], where there is one session
abbrev event-with : List ℕ → ℕ → Data
event-with word n = array (item (string word) (item (number (unsigned n)) no_items))

held : event_at 1 (event-with (codes "hold") 0) ≡ Ok (Hold 0)
unfolding session_event
held = refl

no-session : event_at 1 (event-with (codes "hold") 1) ≡ Err (BadLimit [])
unfolding session_event
no-session = refl

-- ["nope",99]: the word comes before the number
no-word : event_at 1 (event-with (codes "nope") 99) ≡ Err (BadType [])
unfolding session_event
no-word = refl
