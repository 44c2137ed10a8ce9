-- The text of a journal tells its events.
use Rattle.std.proofs.Common.{◌≡◌, ℕ, suc, ◌<◌, ◌^◌, List, [], ◌∷◌, ◌++◌, Bool, true, false, Option, Some, None, IfSome, All, length, get_or, drop, map, if◌then◌else◌, ◌==◌, unwrap_or, decimal, refl, sym, ap, ap₂, ◌∙◌, append_assoc, arith}
use Rattle.std.specs.Str.Parse.{AllDigits}
use Rattle.std.proofs.lemmas.Fmt.{decimal_is_IsNumeral, decimal_injective, decimal_nonempty}
use Rattle.std.proofs.lemmas.Str.Parse.{digit_from_value}
use Rattle.std.proofs.lemmas.List.{append_cancel_left}
use Rattle.serde_json.proofs.OnLiterals.{serde_json_on_literals}
use Rattle.serde_json.specs.View.{items_of}
use Rattle.serde_json.specs.Written.{compact_text, items_text, comma_if}
use Rattle.zp_tree.specs.declared.item.Item.{Item}
use Rattle.txg_core.specs.declared.event.Event.{Event}
use Rattle.txg_core.specs.declared.event.Event.TheVariants as event
use Rattle.zp_calls.specs.declared.reply.Reply.{Reply}
use Rattle.zc_reply.specs.Journal.{event_data}
use Rattle.zc_reply.specs.Laws.{named_session, IsNumbered}
use Rattle.zc_reply.specs.Output.{output_text}

-- digits end at the first bracket
digits-end : (ds es x y : List ℕ) → AllDigits 10 ds → AllDigits 10 es → ds ++ 93 ∷ x ≡ es ++ 93 ∷ y → (ds ≡ es) × (x ≡ y)
digits-end [] [] x y p q e = (refl, ap (drop 1) e)
digits-end [] (d ∷ es) x y p q e = let same : 93 ≡ d = ap (λ (l : List ℕ). get_or l 0 0) e in absurd (omega (arith, digit_from_value d q.0))
digits-end (c ∷ ds) [] x y p q e = let same : c ≡ 93 = ap (λ (l : List ℕ). get_or l 0 0) e in absurd (omega (arith, digit_from_value c p.0))
digits-end (c ∷ ds) (d ∷ es) x y p q e =
    let same : c ≡ d = ap (λ (l : List ℕ). get_or l 0 0) e in
    let rest = digits-end ds es x y p.1 q.1 (ap (drop 1) e) in
    (ap₂ (λ (a : ℕ) (l : List ℕ). a ∷ l) same rest.0, rest.1)

-- a session's digits, where there is a session
abbrev session_text : Option ℕ → List ℕ
session_text None = []
session_text (Some s) = decimal s

-- they are digits
session-digits : (o : Option ℕ) → IfSome o (λ s. s < 2 ^ 32) → AllDigits 10 (session_text o)
session-digits None p = tt
session-digits (Some s) p = (decimal_is_IsNumeral s (omega arith)).0.1

-- they tell the session
session-told : (o p : Option ℕ) → IfSome o (λ s. s < 2 ^ 32) → IfSome p (λ s. s < 2 ^ 32) → session_text o ≡ session_text p → o ≡ p
session-told None None a b e = refl
session-told None (Some t) a b e = absurd (omega (arith, decimal_nonempty t (omega arith), ap (λ (l : List ℕ). length l) e))
session-told (Some s) None a b e = absurd (omega (arith, decimal_nonempty s (omega arith), ap (λ (l : List ℕ). length l) e))
session-told (Some s) (Some t) a b e = ap (λ (n : ℕ). Some n) (decimal_injective s t (omega arith) (omega arith) e)

-- the third letter of an event's word, which no other word has there
abbrev letter : Event → ℕ
letter (event.Hold s) = 108
letter (event.Check s) = 101
letter (event.Enqueue s) = 113
letter (event.Read s) = 97
letter event.Quiesce = 105
letter event.Begin = 103
letter (event.Sync s) = 110
letter event.End = 100
letter (event.Take s) = 107

-- the event of a letter and a session
abbrev event_of_letter : ℕ → Option ℕ → Event
event_of_letter l o =
    if l == 108 then event.Hold (unwrap_or o 0)
    else (if l == 101 then event.Check (unwrap_or o 0)
    else (if l == 113 then event.Enqueue (unwrap_or o 0)
    else (if l == 97 then event.Read (unwrap_or o 0)
    else (if l == 105 then event.Quiesce
    else (if l == 103 then event.Begin
    else (if l == 110 then event.Sync (unwrap_or o 0)
    else (if l == 100 then event.End
    else event.Take (unwrap_or o 0))))))))

-- an event has its letter and session
event-of_letter : (e : Event) → event_of_letter (letter e) (named_session e) ≡ e
event-of_letter (event.Hold s) = refl
event-of_letter (event.Check s) = refl
event-of_letter (event.Enqueue s) = refl
event-of_letter (event.Read s) = refl
event-of_letter event.Quiesce = refl
event-of_letter event.Begin = refl
event-of_letter (event.Sync s) = refl
event-of_letter event.End = refl
event-of_letter (event.Take s) = refl

-- what stands between the bracket and the session, of the word with this letter
abbrev word_text : ℕ → List ℕ
word_text l =
    if l == 108 then 34 ∷ 104 ∷ 111 ∷ 108 ∷ 100 ∷ 34 ∷ 44 ∷ []
    else (if l == 101 then 34 ∷ 99 ∷ 104 ∷ 101 ∷ 99 ∷ 107 ∷ 34 ∷ 44 ∷ []
    else (if l == 113 then 34 ∷ 101 ∷ 110 ∷ 113 ∷ 117 ∷ 101 ∷ 117 ∷ 101 ∷ 34 ∷ 44 ∷ []
    else (if l == 97 then 34 ∷ 114 ∷ 101 ∷ 97 ∷ 100 ∷ 34 ∷ 44 ∷ []
    else (if l == 105 then 34 ∷ 113 ∷ 117 ∷ 105 ∷ 101 ∷ 115 ∷ 99 ∷ 101 ∷ 34 ∷ []
    else (if l == 103 then 34 ∷ 98 ∷ 101 ∷ 103 ∷ 105 ∷ 110 ∷ 34 ∷ []
    else (if l == 110 then 34 ∷ 115 ∷ 121 ∷ 110 ∷ 99 ∷ 34 ∷ 44 ∷ []
    else (if l == 100 then 34 ∷ 101 ∷ 110 ∷ 100 ∷ 34 ∷ []
    else 34 ∷ 116 ∷ 97 ∷ 107 ∷ 101 ∷ 34 ∷ 44 ∷ [])))))))

-- the text of an event
event-text : (e : Event) → compact_text (event_data e) ≡ 91 ∷ (word_text (letter e) ++ (session_text (named_session e) ++ 93 ∷ []))
unfolding serde_json_on_literals
event-text (event.Hold s) = refl
event-text (event.Check s) = refl
event-text (event.Enqueue s) = refl
event-text (event.Read s) = refl
event-text event.Quiesce = refl
event-text event.Begin = refl
event-text (event.Sync s) = refl
event-text event.End = refl
event-text (event.Take s) = refl

-- the same, with what follows it
event-then : (e : Event) (x : List ℕ) → compact_text (event_data e) ++ x ≡ 91 ∷ (word_text (letter e) ++ (session_text (named_session e) ++ 93 ∷ x))
event-then e x =
    ap (λ (l : List ℕ). l ++ x) (event-text e)
    ∙ ap (λ (l : List ℕ). 91 ∷ l) (append_assoc (word_text (letter e)) (session_text (named_session e) ++ 93 ∷ []) x
    ∙ ap (λ (l : List ℕ). word_text (letter e) ++ l) (append_assoc (session_text (named_session e)) (93 ∷ []) x))

-- the letter stands at place 4
letter-there : (e : Event) (x : List ℕ) → get_or (91 ∷ (word_text (letter e) ++ x)) 4 0 ≡ letter e
letter-there (event.Hold s) x = refl
letter-there (event.Check s) x = refl
letter-there (event.Enqueue s) x = refl
letter-there (event.Read s) x = refl
letter-there event.Quiesce x = refl
letter-there event.Begin x = refl
letter-there (event.Sync s) x = refl
letter-there event.End x = refl
letter-there (event.Take s) x = refl

-- two texts that begin with an event begin with the same one, and go on alike
event-told : (e f : Event) (x y : List ℕ) → IsNumbered e → IsNumbered f → compact_text (event_data e) ++ x ≡ compact_text (event_data f) ++ y → (e ≡ f) × (x ≡ y)
event-told e f x y p q h =
    let whole : 91 ∷ (word_text (letter e) ++ (session_text (named_session e) ++ 93 ∷ x)) ≡ 91 ∷ (word_text (letter f) ++ (session_text (named_session f) ++ 93 ∷ y)) = sym (event-then e x) ∙ h ∙ event-then f y in
    let letters : letter e ≡ letter f = sym (letter-there e (session_text (named_session e) ++ 93 ∷ x)) ∙ ap (λ (l : List ℕ). get_or l 4 0) whole ∙ letter-there f (session_text (named_session f) ++ 93 ∷ y) in
    let tails : word_text (letter f) ++ (session_text (named_session e) ++ 93 ∷ x) ≡ word_text (letter f) ++ (session_text (named_session f) ++ 93 ∷ y) = ap (λ (l : ℕ). word_text l ++ (session_text (named_session e) ++ 93 ∷ x)) (sym letters) ∙ ap (drop 1) whole in
    let parts = digits-end (session_text (named_session e)) (session_text (named_session f)) x y (session-digits (named_session e) p) (session-digits (named_session f) q) (append_cancel_left (word_text (letter f)) _ _ tails) in
    let sessions : named_session e ≡ named_session f = session-told (named_session e) (named_session f) p q parts.0 in
    (sym (event-of_letter e) ∙ ap₂ event_of_letter letters sessions ∙ event-of_letter f, parts.1)

-- the text of events after their bracket, and what follows it
abbrev events_text : Bool → List Event → List ℕ → List ℕ
events_text later [] x = 93 ∷ x
events_text later (e ∷ es) x = comma_if later ++ (compact_text (event_data e) ++ events_text true es x)

-- it is that of their array
events-text : (later : Bool) (es : List Event) (x : List ℕ) → items_text later (items_of (map event_data es)) ++ x ≡ events_text later es x
events-text later [] x = refl
events-text later (e ∷ es) x =
    append_assoc (comma_if later) (compact_text (event_data e) ++ items_text true (items_of (map event_data es))) x
    ∙ ap (λ (l : List ℕ). comma_if later ++ l) (append_assoc (compact_text (event_data e)) (items_text true (items_of (map event_data es))) x
    ∙ ap (λ (l : List ℕ). compact_text (event_data e) ++ l) (events-text true es x))

-- what an event's text begins with, behind a comma or not, is no closing bracket
event-first : (later : Bool) (e : Event) (x y : List ℕ) → 93 ∷ x ≡ comma_if later ++ (compact_text (event_data e) ++ y) → ⊥
event-first true e x y h = let first : ◌≡◌ {A = ℕ} 93 44 = ap (λ (l : List ℕ). get_or l 0 0) h in omega arith
event-first false e x y h = let first : ◌≡◌ {A = ℕ} 93 91 = ap (λ (l : List ℕ). get_or l 0 0) (h ∙ event-then e y) in omega arith

-- two texts that begin with events begin with the same ones
events-told : (later : Bool) (j k : List Event) (x y : List ℕ) → All IsNumbered j → All IsNumbered k → events_text later j x ≡ events_text later k y → j ≡ k
events-told later [] [] x y p q h = refl
events-told later [] (f ∷ k) x y p q h = absurd (event-first later f x (events_text true k y) h)
events-told later (e ∷ j) [] x y p q h = absurd (event-first later e y (events_text true j x) (sym h))
events-told later (e ∷ j) (f ∷ k) x y p q h =
    let first = event-told e f (events_text true j x) (events_text true k y) (p 0 e (omega arith)) (q 0 f (omega arith)) (append_cancel_left (comma_if later) _ _ h) in
    let rest : j ≡ k = events-told true j k x y (λ i d l. p (suc i) d (omega arith)) (λ i d l. q (suc i) d (omega arith)) first.1 in
    ap₂ (λ (a : Event) (l : List Event). a ∷ l) first.0 rest

-- the output from the events on
output-events : (j : List Event) (r : List (List Reply)) (s : ℕ) (t : List Item) → (x : List ℕ) × (drop 12 (output_text j r s t) ≡ events_text false j x)
unfolding serde_json_on_literals
output-events j r s t = (_, append_assoc (items_text false (items_of (map event_data j))) _ _ ∙ events-text false j _)

-- the output tells its events
pub output-told : (j k : List Event) (r q : List (List Reply)) (s n : ℕ) (t u : List Item) → All IsNumbered j → All IsNumbered k → output_text j r s t ≡ output_text k q n u → j ≡ k
output-told j k r q s n t u small short h =
    let one = output-events j r s t in
    let two = output-events k q n u in
    events-told false j k one.0 two.0 small short (sym one.1 ∙ ap (drop 12) h ∙ two.1)
