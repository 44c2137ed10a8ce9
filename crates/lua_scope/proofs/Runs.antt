-- A run through a text, one occurrence further.
use Rattle.std.specs.Prelude.{◌≡◌, ℕ, zero, suc, Bool, false, All, List, [], ◌∷◌, ◌++◌, length, replicate, Option, Some, None, refl}
use Rattle.std.proofs.Common.{get_or, ap, ◌∙◌, sym, append-nil}
use Rattle.std.proofs.lemmas.List.Elements.{All-pop}
use Rattle.std.proofs.lemmas.List.{append_assoc, length-replicate}
use Rattle.lua_scope.specs.declared.frame.Frame.{Frame}
use Rattle.lua_scope.specs.declared.frame.Variable.{Variable}
use Rattle.lua_scope.specs.declared.numbers.Numbers.{Numbers}
use Rattle.lua_scope.specs.declared.occurrence.Occurrence.{Occurrence}
use Rattle.lua_scope.specs.declared.load_error.LoadError.{LoadError}
use Rattle.lua_scope.specs.declared.resolver.Resolver.{Resolver}
use Rattle.lua_scope.specs.Scope.{ScopeState, declared, first_variable, scope}
use Rattle.lua_scope.specs.Variables.{variable_of, is_captured, captured_by}
use Rattle.lua_scope.specs.Refusals.{refusal_in, earlier, first_refusal}
use Rattle.lua_scope.specs.Walking.{OccurrenceBelow}
use Rattle.lua_scope.specs.Resolved.{Resolved, Running}

default_there : {X : Type 0} (n i : ℕ) (d : X) → get_or (replicate n d) i d ≡ d
default_there zero i d = refl
default_there (suc n) zero d = refl
default_there (suc n) (suc i) d = default_there n i d

pub resolved_none : (n : ℕ) (r : Resolver) → r.scope.variables ≡ [] → r.scope.frames ≡ [] → r.declared ≡ 0
    → r.first.items ≡ replicate n 0 → r.meanings.items ≡ replicate n None → r.captured.items ≡ replicate n [] → r.is_captured.items ≡ []
    → Resolved n r []
unfolding scope declared first_variable variable_of captured_by is_captured
resolved_none n r v fr d f m c k = record {
  scope_is = ap (λ (vs : List Variable). record { variables = vs; frames = r.scope.frames }) v ∙ ap (λ (fs : List Frame). record { variables = []; frames = fs }) fr;
  variables_are = record {
    declared_is = d;
    first_count = ap (λ (xs : List ℕ). length xs) f ∙ length-replicate n 0;
    first_is = λ i. ap (λ (xs : List ℕ). get_or xs i 0) f ∙ default_there n i 0;
    meaning_count = ap (λ (xs : List (Option ℕ)). length xs) m ∙ length-replicate n None;
    meaning_is = λ i. ap (λ (xs : List (Option ℕ)). get_or xs i None) m ∙ default_there n i None;
    captured_count = ap (λ (xs : List Numbers). length xs) c ∙ length-replicate n [];
    captured_is = λ i l. ap (λ (xs : List Numbers). get_or xs i []) c ∙ default_there n i [];
    flag_is = λ v. ap (λ (xs : List Bool). get_or xs v false) k;
  };
}

-- The first refusal stays the first.
refusal_stays : (more h : List Occurrence) (x : LoadError) → first_refusal h ≡ Some x → first_refusal (more ++ h) ≡ Some x
unfolding first_refusal
refusal_stays [] h x e = e
refusal_stays (v ∷ more) h x e = ap (λ (o : Option LoadError). earlier o (refusal_in (scope (more ++ h)) v)) (refusal_stays more h x e)

refusal_now : (s : ScopeState) (e : Occurrence) (h : List Occurrence) (o : Option LoadError) → s ≡ scope h → first_refusal h ≡ None → refusal_in s e ≡ o → first_refusal (e ∷ h) ≡ o
unfolding first_refusal
refusal_now s e h o at clear told = ap (λ (f : Option LoadError). earlier f (refusal_in (scope h) e)) clear ∙ (ap (λ (z : ScopeState). refusal_in z e) (sym at) ∙ told)

pub running_start : (n : ℕ) (r : Resolver) (left whole : List Occurrence) → left ≡ whole → Resolved n r [] → All (OccurrenceBelow n) left → Running n r left whole
unfolding first_refusal
running_start n r left whole e tables below = record { done = []; joined = append-nil left ∙ e; tables = tables; clear = refl; below = below }

pub running_below : (n : ℕ) (r : Resolver) (left rest whole : List Occurrence) (e : Occurrence) → left ≡ rest ++ e ∷ [] → Running n r left whole → OccurrenceBelow n e
running_below n r left rest whole e is run = (All-pop (OccurrenceBelow n) left rest (Some e) is run.below).1

pub running_more : (n : ℕ) (old new : Resolver) (left rest whole : List Occurrence) (e : Occurrence) → left ≡ rest ++ e ∷ [] → Running n old left whole
    → refusal_in old.scope e ≡ None → ((h : List Occurrence) → Resolved n old h → Resolved n new (e ∷ h)) → Running n new rest whole
running_more n old new left rest whole e is run none_told goes = record {
  done = e ∷ run.done;
  joined = sym (append_assoc rest (e ∷ []) run.done) ∙ (ap (λ (es : List Occurrence). es ++ run.done) (sym is) ∙ run.joined);
  tables = goes run.done run.tables;
  clear = refusal_now old.scope e run.done None run.tables.scope_is run.clear none_told;
  below = (All-pop (OccurrenceBelow n) left rest (Some e) is run.below).0;
}

pub running_refused : (n : ℕ) (old : Resolver) (left rest whole : List Occurrence) (e : Occurrence) (x : LoadError) → left ≡ rest ++ e ∷ [] → Running n old left whole
    → refusal_in old.scope e ≡ Some x → first_refusal whole ≡ Some x
running_refused n old left rest whole e x is run told =
    ap first_refusal (sym (sym (append_assoc rest (e ∷ []) run.done) ∙ (ap (λ (es : List Occurrence). es ++ run.done) (sym is) ∙ run.joined)))
    ∙ refusal_stays rest (e ∷ run.done) x (refusal_now old.scope e run.done (Some x) run.tables.scope_is run.clear told)
