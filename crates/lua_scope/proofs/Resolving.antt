-- A resolver's tables, one occurrence later.
use Rattle.std.specs.Prelude.{◌≡◌, ℕ, ◌+◌, ◌<◌, ◌==◌, ◌&&◌, ◌||◌, Bool, false, if◌then◌else◌, List, [], ◌∷◌, length, Option, Some, None, refl}
use Rattle.std.proofs.Common.{Vec, Global, get_or, ap, ◌∙◌, sym, subst, inl, inr}
use Rattle.std.proofs.Math.ListN.{set}
use Rattle.std.proofs.lemmas.List.{get_or-set_same, get_or-set_other, length-set}
use Rattle.std.proofs.lemmas.Bool.Decides.{eqb_tells}
use Rattle.lua_scope.specs.declared.occurrence.Occurrence.{Occurrence}
use Rattle.lua_scope.specs.declared.occurrence.Occurrence.TheVariants as occurrence
use Rattle.lua_scope.specs.declared.occurrence.ScopeKind.{ScopeKind}
use Rattle.lua_scope.specs.declared.occurrence.ScopeKind.TheVariants as kind
use Rattle.lua_scope.specs.declared.frame.Frame.{Frame}
use Rattle.lua_scope.specs.declared.numbers.Numbers.{Numbers}
use Rattle.lua_scope.specs.declared.resolver.Resolver.{Resolver}
use Rattle.lua_scope.specs.Scope.{ScopeState, declared, first_variable, scope}
use Rattle.lua_scope.specs.Variables.{variable_named, meaning, variable_of, captures, is_scope_of, captured_in, also, is_captured, with_number, with_use, with_meaning, captured_by}
use Rattle.lua_scope.specs.Resolved.{Resolved}

-- An occurrence that changes no table.
pub record Quiet (e : Occurrence) (h : List Occurrence) : Type 0 where
  pub declared_same : declared (e ∷ h) ≡ declared h
  pub first_same : (i : ℕ) → first_variable (e ∷ h) i ≡ first_variable h i
  pub variable_same : (i : ℕ) → variable_of (e ∷ h) i ≡ variable_of h i
  pub captured_same : (f : ℕ) → captured_by (e ∷ h) f ≡ captured_by h f
  pub flag_same : (v : ℕ) → is_captured (e ∷ h) v ≡ is_captured h v

pub quiet_open : (o : ScopeKind) (h : List Occurrence) → Quiet (occurrence.Open o) h
unfolding declared first_variable variable_of captured_by is_captured
quiet_open o h = record { declared_same = refl; first_same = λ i. refl; variable_same = λ i. refl; captured_same = λ f. refl; flag_same = λ v. refl }

pub quiet_close : (h : List Occurrence) → Quiet occurrence.Close h
unfolding declared first_variable variable_of captured_by is_captured
quiet_close h = record { declared_same = refl; first_same = λ i. refl; variable_same = λ i. refl; captured_same = λ f. refl; flag_same = λ v. refl }

pub quiet_enter : (i : ℕ) (names : List (List ℕ)) (h : List Occurrence) → Quiet (occurrence.Enter i names) h
unfolding declared first_variable variable_of captured_by is_captured
quiet_enter i names h = record { declared_same = refl; first_same = λ i. refl; variable_same = λ i. refl; captured_same = λ f. refl; flag_same = λ v. refl }

pub quiet_goto : (l : ℕ) (x : List ℕ) (h : List Occurrence) → Quiet (occurrence.Goto l x) h
unfolding declared first_variable variable_of captured_by is_captured
quiet_goto l x h = record { declared_same = refl; first_same = λ i. refl; variable_same = λ i. refl; captured_same = λ f. refl; flag_same = λ v. refl }

pub quiet_label : (l : ℕ) (h : List Occurrence) → Quiet (occurrence.SecondLabel l) h
unfolding declared first_variable variable_of captured_by is_captured
quiet_label l h = record { declared_same = refl; first_same = λ i. refl; variable_same = λ i. refl; captured_same = λ f. refl; flag_same = λ v. refl }

pub quiet_break : (l : ℕ) (h : List Occurrence) → Quiet (occurrence.Break l) h
unfolding declared first_variable variable_of captured_by is_captured
quiet_break l h = record { declared_same = refl; first_same = λ i. refl; variable_same = λ i. refl; captured_same = λ f. refl; flag_same = λ v. refl }

pub quiet_vararg : (l : ℕ) (h : List Occurrence) → Quiet (occurrence.Vararg l) h
unfolding declared first_variable variable_of captured_by is_captured
quiet_vararg l h = record { declared_same = refl; first_same = λ i. refl; variable_same = λ i. refl; captured_same = λ f. refl; flag_same = λ v. refl }

pub resolved_quiet : (n : ℕ) (old new : Resolver) (e : Occurrence) (h : List Occurrence) → Quiet e h → new.scope ≡ scope (e ∷ h)
    → new.declared ≡ old.declared → new.first ≡ old.first → new.meanings ≡ old.meanings → new.captured ≡ old.captured → new.is_captured ≡ old.is_captured
    → Resolved n old h → Resolved n new (e ∷ h)
resolved_quiet n old new e h q s d f m c k r = record {
  scope_is = s;
  variables_are = record {
    declared_is = d ∙ (r.variables_are.declared_is ∙ sym q.declared_same);
    first_count = ap (λ (v : Vec ℕ Global). length v.items) f ∙ r.variables_are.first_count;
    first_is = λ i. ap (λ (v : Vec ℕ Global). get_or v.items i 0) f ∙ (r.variables_are.first_is i ∙ sym (q.first_same i));
    meaning_count = ap (λ (v : Vec (Option ℕ) Global). length v.items) m ∙ r.variables_are.meaning_count;
    meaning_is = λ i. ap (λ (v : Vec (Option ℕ) Global). get_or v.items i None) m ∙ (r.variables_are.meaning_is i ∙ sym (q.variable_same i));
    captured_count = ap (λ (v : Vec Numbers Global). length v.items) c ∙ r.variables_are.captured_count;
    captured_is = λ i l. ap (λ (v : Vec Numbers Global). get_or v.items i []) c ∙ (r.variables_are.captured_is i l ∙ sym (q.captured_same i));
    flag_is = λ v. ap (λ (w : Vec Bool Global). get_or w.items v false) k ∙ (r.variables_are.flag_is v ∙ sym (q.flag_same v));
  };
}

-- A place of a list that is set, by a test of the place.
set_at : {X : Type 0} (xs : List X) (j i : ℕ) (a d : X) → j < length xs → get_or (set xs j a) i d ≡ (if j == i then a else get_or xs i d)
set_at xs j i a d h = elim (eqb_tells j i) [
  | inl e ↦ subst (λ (k : ℕ). get_or (set xs j a) k d ≡ a) e.1 (get_or-set_same xs j a d h) ∙ ap (λ (b : Bool). (if b then a else get_or xs i d)) (sym e.0)
  | inr e ↦ get_or-set_other xs j i a d (λ s. e.1 (sym s)) ∙ ap (λ (b : Bool). (if b then a else get_or xs i d)) (sym e.0)
]

pub resolved_declare : (n : ℕ) (old new : Resolver) (j count : ℕ) (h : List Occurrence) → j < length old.first.items → new.scope ≡ old.scope
    → new.declared ≡ old.declared + count → new.first.items ≡ set old.first.items j old.declared → new.meanings ≡ old.meanings → new.captured ≡ old.captured → new.is_captured ≡ old.is_captured
    → Resolved n old h → Resolved n new (occurrence.Declare j count ∷ h)
unfolding scope declared first_variable variable_of captured_by is_captured
resolved_declare n old new j count h less s d f m c k r = record {
  scope_is = s ∙ r.scope_is;
  variables_are = record {
    declared_is = d ∙ ap (λ (m : ℕ). m + count) r.variables_are.declared_is;
    first_count = ap (λ (xs : List ℕ). length xs) f ∙ (length-set old.first.items j old.declared ∙ r.variables_are.first_count);
    first_is = λ i.
        ap (λ (xs : List ℕ). get_or xs i 0) f ∙ (set_at old.first.items j i old.declared 0 less
        ∙ (ap (λ (m : ℕ). (if j == i then m else get_or old.first.items i 0)) r.variables_are.declared_is ∙ ap (λ (m : ℕ). (if j == i then declared h else m)) (r.variables_are.first_is i)));
    meaning_count = ap (λ (v : Vec (Option ℕ) Global). length v.items) m ∙ r.variables_are.meaning_count;
    meaning_is = λ i. ap (λ (v : Vec (Option ℕ) Global). get_or v.items i None) m ∙ r.variables_are.meaning_is i;
    captured_count = ap (λ (v : Vec Numbers Global). length v.items) c ∙ r.variables_are.captured_count;
    captured_is = λ i l. ap (λ (v : Vec Numbers Global). get_or v.items i []) c ∙ r.variables_are.captured_is i l;
    flag_is = λ v. ap (λ (w : Vec Bool Global). get_or w.items v false) k ∙ r.variables_are.flag_is v;
  };
}

module _ (f g : ℕ → ℕ) (same : (i : ℕ) → f i ≡ g i) where
  same_captures : (v : ℕ) (o : ScopeKind) → captures f v o ≡ captures g v o
  same_captures v (kind.Block labels inside) = refl
  same_captures v kind.Loop = refl
  same_captures v (kind.Function i vararg) = ap (λ (m : ℕ). captures (λ _. m) v (kind.Function i vararg)) (same i)

  same_captured_in : (v : ℕ) (frames : List Frame) → captured_in f v frames ≡ captured_in g v frames
  same_captured_in v [] = refl
  same_captured_in v (frame ∷ frames) =
      ap (λ (b : Bool). b || captured_in f v frames) (same_captures v frame.kind) ∙ ap (λ (b : Bool). captures g v frame.kind || b) (same_captured_in v frames)

  same_with_use : (i v : ℕ) (vs : List ℕ) (frames : List Frame) → with_use f i v vs frames ≡ with_use g i v vs frames
  same_with_use i v vs [] = refl
  same_with_use i v vs (frame ∷ frames) =
      ap (λ (b : Bool). with_use f i v (if is_scope_of i frame.kind && b then with_number v vs else vs) frames) (same_captures v frame.kind)
      ∙ same_with_use i v (if is_scope_of i frame.kind && captures g v frame.kind then with_number v vs else vs) frames

  same_with_meaning : (i : ℕ) (o : Option ℕ) (vs : List ℕ) (frames : List Frame) → with_meaning f i o vs frames ≡ with_meaning g i o vs frames
  same_with_meaning i None vs frames = refl
  same_with_meaning i (Some v) vs frames = same_with_use i v vs frames

pub resolved_use : (n : ℕ) (old new : Resolver) (j : ℕ) (x : List ℕ) (h : List Occurrence) → j < length old.meanings.items → new.scope ≡ old.scope
    → new.declared ≡ old.declared → new.first ≡ old.first
    → new.meanings.items ≡ set old.meanings.items j (variable_named x old.scope.variables)
    → length new.captured.items ≡ length old.captured.items
    → ((f : ℕ) → f < length old.captured.items → get_or new.captured.items f [] ≡ with_meaning (λ (i : ℕ). get_or old.first.items i 0) f (variable_named x old.scope.variables) (get_or old.captured.items f []) old.scope.frames)
    → ((v : ℕ) → get_or new.is_captured.items v false
    ≡ (also (captured_in (λ (i : ℕ). get_or old.first.items i 0) v old.scope.frames) (variable_named x old.scope.variables) v || get_or old.is_captured.items v false))
    → Resolved n old h → Resolved n new (occurrence.Use j x ∷ h)
unfolding scope declared first_variable variable_of captured_by is_captured
resolved_use n old new j x h less s d f m cn c k r =
    let means : variable_named x old.scope.variables ≡ meaning h x = ap (λ (z : ScopeState). variable_named x z.variables) r.scope_is
    in let frames : old.scope.frames ≡ (scope h).frames = ap (λ (z : ScopeState). z.frames) r.scope_is
    in record {
      scope_is = s ∙ r.scope_is;
      variables_are = record {
        declared_is = d ∙ r.variables_are.declared_is;
        first_count = ap (λ (v : Vec ℕ Global). length v.items) f ∙ r.variables_are.first_count;
        first_is = λ i. ap (λ (v : Vec ℕ Global). get_or v.items i 0) f ∙ r.variables_are.first_is i;
        meaning_count = ap (λ (xs : List (Option ℕ)). length xs) m ∙ (length-set old.meanings.items j (variable_named x old.scope.variables) ∙ r.variables_are.meaning_count);
        meaning_is = λ i.
            ap (λ (xs : List (Option ℕ)). get_or xs i None) m ∙ (set_at old.meanings.items j i (variable_named x old.scope.variables) None less
            ∙ (ap (λ (o : Option ℕ). (if j == i then o else get_or old.meanings.items i None)) means ∙ ap (λ (o : Option ℕ). (if j == i then meaning h x else o)) (r.variables_are.meaning_is i)));
        captured_count = cn ∙ r.variables_are.captured_count;
        captured_is = λ i l.
            c i (subst (λ (m : ℕ). i < m) (sym r.variables_are.captured_count) l)
            ∙ (same_with_meaning (λ (i : ℕ). get_or old.first.items i 0) (first_variable h) r.variables_are.first_is i (variable_named x old.scope.variables) (get_or old.captured.items i []) old.scope.frames
            ∙ (ap (λ (o : Option ℕ). with_meaning (first_variable h) i o (get_or old.captured.items i []) old.scope.frames) means
            ∙ (ap (λ (vs : List ℕ). with_meaning (first_variable h) i (meaning h x) vs old.scope.frames) (r.variables_are.captured_is i l)
            ∙ ap (λ (fs : List Frame). with_meaning (first_variable h) i (meaning h x) (captured_by h i) fs) frames)));
        flag_is = λ v.
            k v
            ∙ (ap (λ (b : Bool). also b (variable_named x old.scope.variables) v || get_or old.is_captured.items v false)
            (same_captured_in (λ (i : ℕ). get_or old.first.items i 0) (first_variable h) r.variables_are.first_is v old.scope.frames ∙ ap (λ (fs : List Frame). captured_in (first_variable h) v fs) frames)
            ∙ (ap (λ (o : Option ℕ). also (captured_in (first_variable h) v (scope h).frames) o v || get_or old.is_captured.items v false) means
            ∙ ap (λ (b : Bool). also (captured_in (first_variable h) v (scope h).frames) (meaning h x) v || b) (r.variables_are.flag_is v)));
      };
    }
