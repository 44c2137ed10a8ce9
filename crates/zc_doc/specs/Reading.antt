-- Reading the parts of a document from a JSON value (RFC 8259): what stands there, or the first refusal.
use Rattle.std.specs.Prelude.{ℕ, ◌+◌, ◌≡◌, ⊤, ◌&&◌, Bool, bytes_eq, nat_lt, nat_le, if◌then◌else◌, List, [], ◌∷◌, Option, Some, None, Result, Ok, Err}
use Rattle.std.specs.List.{list_any}
use Rattle.std.specs.Fmt.{decimal}
use Rattle.serde_json.specs.Data.{Data, null, boolean, number, string, array, object, Num, unsigned, negative, float, Items, no_items, item, Members, no_members, member as entry}
use Rattle.serde_json.specs.Find.{get}
use Rattle.serde_json.specs.Events.{items_len}
use Rattle.zc_doc.specs.declared.error.DocError.{DocError}
use Rattle.zc_doc.specs.declared.error.DocError.TheVariants as refusal
use Rattle.zc_doc.specs.Refusals.{below_step}

-- one after the other: the first refusal counts
infixl 10 ◌>>=◌
abbrev pub ◌>>=◌ : {A B : Type 0} → Result A DocError → (A → Result B DocError) → Result B DocError
(Ok x) >>= f = f x
(Err e) >>= f = Err e

-- ---- single values

-- what passes the test
abbrev pub named_so : (List ℕ → Bool) → List ℕ → Result (List ℕ) DocError
named_so test name = if test name then Ok name else Err (refusal.BadName [])

abbrev pub text_at : Data → Result (List ℕ) DocError
text_at (string s) = Ok s
text_at _ = Err (refusal.BadType [])

abbrev pub flag_at : Data → Result Bool DocError
flag_at (boolean b) = Ok b
flag_at _ = Err (refusal.BadType [])

-- a whole number in a range; one with a fraction or an exponent, or past 64 bits, is not whole
abbrev pub whole_within : ℕ → ℕ → Num → Result ℕ DocError
whole_within low high (unsigned n) = if nat_le low n && nat_le n high then Ok n else Err (refusal.BadLimit [])
whole_within low high (negative z) = Err (refusal.BadLimit [])
whole_within low high (float x) = Err (refusal.BadType [])

abbrev pub number_at : ℕ → ℕ → Data → Result ℕ DocError
number_at low high (number n) = whole_within low high n
number_at low high _ = Err (refusal.BadType [])

-- ---- objects

-- a value that has to be there
abbrev pub present : {A : Type 0} → (Data → Result A DocError) → Option Data → Result A DocError
present reads None = Err (refusal.Missing [])
present reads (Some d) = reads d

-- a value that may be missing
abbrev pub present_or : {A : Type 0} → A → (Data → Result A DocError) → Option Data → Result A DocError
present_or default reads None = Ok default
present_or default reads (Some d) = reads d

abbrev pub member : {A : Type 0} → (Data → Result A DocError) → List ℕ → Data → Result A DocError
member reads key d = below_step key (present reads (get key d))

abbrev pub member_or : {A : Type 0} → A → (Data → Result A DocError) → List ℕ → Data → Result A DocError
member_or default reads key d = below_step key (present_or default reads (get key d))

-- the names that are known
abbrev pub is_among : List (List ℕ) → List ℕ → Bool
is_among known key = list_any (bytes_eq key) known

-- the name of the first member, in byte order, that is not known
abbrev pub first_unknown : (List ℕ → Bool) → Members → Option (List ℕ)
first_unknown known no_members = None
first_unknown known (entry key d ms) = if known key then first_unknown known ms else Some key

abbrev pub none_unknown : Option (List ℕ) → Result ⊤ DocError
none_unknown None = Ok tt
none_unknown (Some key) = below_step key (Err (refusal.Unknown []))

-- an object
abbrev pub members_at : Data → Result Members DocError
members_at (object ms) = Ok ms
members_at _ = Err (refusal.BadType [])

-- an object with no members but known ones
abbrev pub only_members : (List ℕ → Bool) → Data → Result ⊤ DocError
only_members known d = members_at d >>= λ ms. none_unknown (first_unknown known ms)

-- ---- arrays

-- item by item, the first of which has this place
abbrev pub items_from : {A : Type 0} → (Data → Result A DocError) → ℕ → Items → Result (List A) DocError
items_from reads place no_items = Ok []
items_from reads place (item d ds) = below_step (decimal place) (reads d) >>= λ x. items_from reads (place + 1) ds >>= λ xs. Ok (x ∷ xs)

-- at most so many items
abbrev pub items_within : {A : Type 0} → ℕ → (Data → Result A DocError) → Items → Result (List A) DocError
items_within limit reads ds = if nat_lt limit (items_len ds) then Err (refusal.TooMany [] (items_len ds)) else items_from reads 0 ds

abbrev pub array_at : {A : Type 0} → ℕ → (Data → Result A DocError) → Data → Result (List A) DocError
array_at limit reads (array ds) = items_within limit reads ds
array_at limit reads _ = Err (refusal.BadType [])

-- ---- what a function answers

-- this was refused for this cause, unless memory ran out
abbrev pub Fails : {A : Type 0} → DocError → Result A DocError → Type 0
Fails refusal.NoMemory read = ⊤
Fails e read = read ≡ Err e

-- what was answered is what the definition gives, unless memory ran out
abbrev pub Gives : {A : Type 0} → Result A DocError → Result A DocError → Type 0
Gives (Ok x) read = read ≡ Ok x
Gives (Err e) read = Fails e read

-- the same, of a text that is lent
abbrev pub ok_map : {A B : Type 0} → (A → B) → Result A DocError → Result B DocError
ok_map f (Ok x) = Ok (f x)
ok_map f (Err e) = Err e
