-- Why an input that has an output is not refused, and what is refused is refused so.
use Rattle.std.proofs.Common.{◌≡◌, ℕ, ◌+◌, ◌≤◌, ◌<◌, ◌⊎◌, List, length, take, Option, Some, None, Result, Ok, Err, cond, nat_lt, IfSome, refl, sym, ap, ◌∙◌, subst, arith, inl, inr}
use Rattle.std.proofs.lemmas.Bool.{lt-ltb}
use Rattle.std.proofs.lemmas.List.{take_all}
use Rattle.std.proofs.lemmas.Grind.{common_steps}
use Rattle.zc_io.specs.Reading.{TakesFirst}
use Rattle.zc_doc.specs.declared.document.Need.{Need}
use Rattle.zc_doc.specs.declared.error.DocError.{DocError}
use Rattle.zc_doc.specs.declared.error.DocError.TheVariants.{TooLong, NotJson, Unknown, Missing, BadType, TooMany, BadLimit, BadName, SetupRefused, NoMemory}
use Rattle.zc_offline.specs.declared.status.Status.{Status}
use Rattle.zc_offline.specs.declared.status.Status.TheVariants as status
use Rattle.zc_doc.specs.Reading.{Fails}
use Rattle.zc_doc.specs.Document.{Contents, document_of, document_in, data_of, most_bytes}
use Rattle.zc_offline.specs.Status.{refusal_status}
use Rattle.zc_offline.specs.declared.words.Asked.{Asked}
use Rattle.zc_offline.specs.declared.words.Asked.TheVariants.{Replay, Check}
use Rattle.zc_offline.specs.Headline.{document_read, need_of, IsRefusedFor, IsNotEnabled, IsReplayOutput, IsOutput, DoesSchedule, IsAccepted, IsStopped, Explains}
use Rattle.zc_offline.proofs.Stopping.{read-err, read-ok, runs-or-stops, is-or-not, one-refusal, refused-is}

-- ---- what is read of an input

-- an input within the limit is read whole
pub whole : (n : Need) (bytes : List ℕ) → length bytes ≤ most_bytes → document_read n bytes ≡ document_of n bytes
unfolding document_read
whole n bytes le = let all : length bytes ≤ most_bytes + 1 = omega arith in ap (document_of n) (take_all (most_bytes + 1) bytes all)

-- a longer one is refused
take-length : (n : ℕ) (xs : List ℕ) → n ≤ length xs → length (take n xs) ≡ n
take-length n xs le = grind (arith, common_steps)

refused-of : (n : Need) (bytes : List ℕ) → length bytes ≡ most_bytes + 1 → document_of n bytes ≡ Err (TooLong (most_bytes + 1))
unfolding document_of
refused-of n bytes e =
    ap (λ k. cond (nat_lt most_bytes k) (Err (TooLong k)) (document_in n (data_of bytes))) e
    ∙ ap (λ b. cond b (Err (TooLong (most_bytes + 1))) (document_in n (data_of bytes))) (lt-ltb most_bytes (most_bytes + 1) (omega arith))

too-long : (n : Need) (input : List ℕ) → most_bytes + 1 ≤ length input → document_read n input ≡ Err (TooLong (most_bytes + 1))
unfolding document_read
too-long n input le = refused-of n (take (most_bytes + 1) input) (take-length (most_bytes + 1) input le)

pub refused-long : (n : Need) (taken : ℕ) (before after : Option (List ℕ)) → taken ≡ most_bytes + 1 → TakesFirst taken before after → IfSome before (λ (input : List ℕ). IsRefusedFor n input (TooLong (most_bytes + 1)))
refused-long n taken None after e takes = tt
refused-long n taken (Some input) after e takes =
    let enough : most_bytes + 1 ≤ length input = subst (λ (k : ℕ). k ≤ length input) e takes.0 in
    too-long n input enough

-- ---- refusals

pub is-refused : (n : Need) (input : List ℕ) (e : DocError) → IsRefusedFor n input e → document_read n input ≡ Err e
is-refused n input (TooLong k) r = r
is-refused n input NotJson r = r
is-refused n input (Unknown p) r = r
is-refused n input (Missing p) r = r
is-refused n input (BadType p) r = r
is-refused n input (TooMany p k) r = r
is-refused n input (BadLimit p) r = r
is-refused n input (BadName p) r = r
is-refused n input (SetupRefused i k) r = r
is-refused n input NoMemory r = absurd r

-- an input has one first refusal
pub one-error : (n : Need) (input : List ℕ) (e f : DocError) → IsRefusedFor n input e → IsRefusedFor n input f → f ≡ e
one-error n input e f r s = let both : read-err e ≡ read-err f = sym (is-refused n input e r) ∙ is-refused n input f s in cc

-- the status of a refusal that was answered explains that there is no output
pub answered : (a : Asked) (n : Need) (bytes : List ℕ) (e : DocError) (s : Status) → need_of a ≡ n → length bytes ≤ most_bytes → s ≡ refusal_status e → Fails e (document_of n bytes) → Explains a bytes s
answered a n bytes e s needs le is fails = subst (Explains a bytes) (sym is) (each e (subst (λ (m : Need). Fails e (document_of m bytes)) (sym needs) fails))
  where
    each : (e : DocError) → Fails e (document_of (need_of a) bytes) → Explains a bytes (refusal_status e)
    each (TooLong k) f = whole (need_of a) bytes le ∙ f
    each NotJson f = whole (need_of a) bytes le ∙ f
    each (Unknown p) f = whole (need_of a) bytes le ∙ f
    each (Missing p) f = whole (need_of a) bytes le ∙ f
    each (BadType p) f = whole (need_of a) bytes le ∙ f
    each (TooMany p k) f = whole (need_of a) bytes le ∙ f
    each (BadLimit p) f = whole (need_of a) bytes le ∙ f
    each (BadName p) f = whole (need_of a) bytes le ∙ f
    each (SetupRefused i k) f = whole (need_of a) bytes le ∙ f
    each NoMemory f = tt

-- the error that was given
pub refused-so : (n : Need) (e f : DocError) (o : Option (List ℕ)) → status.BadDocument f ≡ status.BadDocument e → IfSome o (λ (input : List ℕ). IsRefusedFor n input f) → IfSome o (λ (input : List ℕ). IsRefusedFor n input e)
refused-so n e f o same p = let is : f ≡ e = cc in subst (λ (d : DocError). IfSome o (λ (input : List ℕ). IsRefusedFor n input d)) is p

-- what holds of the input that is there
pub there : (P : List ℕ → Type 0) (o : Option (List ℕ)) (input : List ℕ) → o ≡ Some input → IfSome o P → P input
there P o input e p = subst (λ (o : Option (List ℕ)). IfSome o P) e p

pub no-output : (a : Asked) (input : List ℕ) (e : DocError) → IsRefusedFor (need_of a) input e → IsAccepted a input → ⊥
no-output Replay input e r out = is-or-not input e out (is-refused (need_of Replay) input e r)
no-output Check input e r out = let gone : read-err e ≡ read-ok out.0 = sym (is-refused (need_of Check) input e r) ∙ out.1 in cc

-- what is accepted is not stopped, and what is stopped is a document
not-stopped : (a : Asked) (input : List ℕ) (i : ℕ) → IsAccepted a input → IsStopped a input i → ⊥
not-stopped Replay input i out stops = runs-or-stops input i out stops
not-stopped Check input i out stops = stops

pub stopped-is : (a : Asked) (input : List ℕ) (i : ℕ) (e : DocError) → IsStopped a input i → IsRefusedFor (need_of a) input e → ⊥
stopped-is Replay input i e stops r = refused-is input i e stops (is-refused (need_of Replay) input e r)
stopped-is Check input i e stops r = stops

-- nothing explains that there is no output where all is accepted, but want of memory
pub explained : (a : Asked) (input bytes : List ℕ) (s : Status) → bytes ≡ input → IsAccepted a input → Explains a bytes s → (s ≡ status.Ok) ⊎ (s ≡ status.NoMemory)
explained a input bytes s same out why = meets s (subst (λ (x : List ℕ). Explains a x s) same why)
  where
    meets : (s : Status) → Explains a input s → (s ≡ status.Ok) ⊎ (s ≡ status.NoMemory)
    meets status.Ok why = absurd why
    meets status.Usage why = absurd why
    meets (status.BadDocument e) why = absurd (no-output a input e why out)
    meets (status.NotEnabled i) why = absurd (not-stopped a input i out why)
    meets status.ReadFault why = absurd why
    meets status.WriteFault why = absurd why
    meets status.NoMemory why = inr refl

-- a refusal explains that there is no output, and nothing else does but want of memory
pub refused-explained : (a : Asked) (input bytes : List ℕ) (e : DocError) (s : Status) → bytes ≡ input → IsRefusedFor (need_of a) input e → Explains a bytes s → (s ≡ status.BadDocument e) ⊎ (s ≡ status.NoMemory)
refused-explained a input bytes e s same r why = meets s (subst (λ (x : List ℕ). Explains a x s) same why)
  where
    meets : (s : Status) → Explains a input s → (s ≡ status.BadDocument e) ⊎ (s ≡ status.NoMemory)
    meets status.Ok why = absurd why
    meets status.Usage why = absurd why
    meets (status.BadDocument f) why = inl (ap (λ (d : DocError). status.BadDocument d) (one-error (need_of a) input e f r why))
    meets (status.NotEnabled i) why = absurd (stopped-is a input i e why r)
    meets status.ReadFault why = absurd why
    meets status.WriteFault why = absurd why
    meets status.NoMemory why = inr refl

-- an event that is not enabled explains that there is no output, and nothing else does but want of memory
stopped-replay : (input : List ℕ) (i : ℕ) (s : Status) → IsNotEnabled input i → Explains Replay input s → (s ≡ status.NotEnabled i) ⊎ (s ≡ status.NoMemory)
stopped-replay input i status.Ok stops why = absurd why
stopped-replay input i status.Usage stops why = absurd why
stopped-replay input i (status.BadDocument e) stops why = absurd (refused-is input i e stops (is-refused (need_of Replay) input e why))
stopped-replay input i (status.NotEnabled k) stops why = inl (ap (λ (n : ℕ). status.NotEnabled n) (one-refusal input i k stops why))
stopped-replay input i status.ReadFault stops why = absurd why
stopped-replay input i status.WriteFault stops why = absurd why
stopped-replay input i status.NoMemory stops why = inr refl

pub stopped-explained : (a : Asked) (input bytes : List ℕ) (i : ℕ) (s : Status) → bytes ≡ input → IsStopped a input i → Explains a bytes s → (s ≡ status.NotEnabled i) ⊎ (s ≡ status.NoMemory)
stopped-explained Replay input bytes i s same stops why = stopped-replay input i s stops (subst (λ (x : List ℕ). Explains Replay x s) same why)
stopped-explained Check input bytes i s same stops why = absurd stops

-- such a document has no output
pub stopped-writes-nothing : (a : Asked) (input bytes text : List ℕ) (i : ℕ) → bytes ≡ input → IsStopped a input i → IsOutput a bytes text → ⊥
stopped-writes-nothing Replay input bytes text i same stops out = runs-or-stops input i (text, subst (λ (x : List ℕ). IsReplayOutput x text) same out) stops
stopped-writes-nothing Check input bytes text i same stops out = stops

-- what is refused has none either
refused-answered : (a : Asked) (input text : List ℕ) (e : DocError) → IsOutput a input text → IsRefusedFor (need_of a) input e → ⊥
refused-answered Replay input text e out r = is-or-not input e (text, out) (is-refused (need_of Replay) input e r)
refused-answered Check input text e out r = let gone : read-err e ≡ read-ok out.document = sym (is-refused (need_of Check) input e r) ∙ out.is in cc

pub refused-writes-nothing : (a : Asked) (input bytes text : List ℕ) (e : DocError) → bytes ≡ input → IsRefusedFor (need_of a) input e → IsOutput a bytes text → ⊥
refused-writes-nothing a input bytes text e same r out = refused-answered a input text e (subst (λ (x : List ℕ). IsOutput a x text) same out) r

-- only a command that does a schedule is stopped by an event
pub stopped-does : (a : Asked) (bytes : List ℕ) (s : Status) (i : ℕ) → Explains a bytes s → s ≡ status.NotEnabled i → DoesSchedule a
stopped-does Replay bytes s i why same = tt
stopped-does Check bytes s i why same = subst (λ (t : Status). Explains Check bytes t) same why

-- one byte more than a document may have
pub took-one-more : (taken : ℕ) (before after : Option (List ℕ)) → taken ≡ most_bytes + 1 → TakesFirst taken before after → TakesFirst (most_bytes + 1) before after
took-one-more taken before after e takes = subst (λ (n : ℕ). TakesFirst n before after) e takes
