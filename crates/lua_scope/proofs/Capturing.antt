-- A function captures a variable exactly where a Name inside it means the variable.
use Rattle.std.specs.Prelude.{◌≡◌, ◌⊎◌, ℕ, ◌<◌, ◌==◌, ◌&&◌, ◌||◌, Bool, true, false, cond, if◌then◌else◌, nat_lt, List, [], ◌∷◌, ◌++◌, insert, Option, Some, None, refl}
use Rattle.std.specs.List.{list_any}
use Rattle.std.proofs.Common.{ap, ◌∙◌, sym, subst, inl, inr}
use Rattle.std.proofs.lemmas.Bool.Decides.{eqb_tells, Decides-ltb}
use Rattle.lua_scope.specs.declared.occurrence.Occurrence.{Occurrence}
use Rattle.lua_scope.specs.declared.occurrence.Occurrence.TheVariants as occurrence
use Rattle.lua_scope.specs.declared.occurrence.ScopeKind.{ScopeKind}
use Rattle.lua_scope.specs.declared.occurrence.ScopeKind.TheVariants as kind
use Rattle.lua_scope.specs.declared.frame.Frame.{Frame}
use Rattle.lua_scope.specs.Scope.{scope, first_variable}
use Rattle.lua_scope.specs.Variables.{meaning, captures, is_scope_of, captured_in, also, is_captured, place_in, with_number, with_use, with_meaning, captured_by}
use Rattle.lua_scope.specs.Uses.{UsesInside}
use Rattle.lua_scope.proofs.Rising.{put, insert_put}

-- ---- a number put into a list

abbrev has : ℕ → List ℕ → Bool
has v ws = list_any (λ (w : ℕ). w == v) ws

swapped : (a b c : Bool) → (b || (a || c)) ≡ (a || (b || c))
swapped true true c = refl
swapped true false c = refl
swapped false true c = refl
swapped false false c = refl

put_there : (v u w : ℕ) (ws more : List ℕ) (b : Bool) → has v more ≡ ((u == v) || has v ws) → has v (cond b (w ∷ more) (u ∷ w ∷ ws)) ≡ ((u == v) || ((w == v) || has v ws))
put_there v u w ws more true e = ap (λ (b : Bool). (w == v) || b) e ∙ swapped (u == v) (w == v) (has v ws)
put_there v u w ws more false e = refl

has_put : (v u : ℕ) (ws : List ℕ) → has v (put u ws) ≡ ((u == v) || has v ws)
has_put v u [] = refl
has_put v u (w ∷ ws) = put_there v u w ws (put u ws) (nat_lt w u) (has_put v u ws)

with_true : (a : Bool) → true ≡ (a || true)
with_true true = refl
with_true false = refl

number_there : (v u : ℕ) (ws : List ℕ) (b : Bool) → has u ws ≡ b → has v (if b then ws else insert ws (place_in u ws) u) ≡ ((u == v) || has v ws)
number_there v u ws true is = elim (eqb_tells u v) [
  | inl e ↦ let there : has v ws ≡ true = subst (λ (w : ℕ). has w ws ≡ true) e.1 is in there ∙ (with_true (u == v) ∙ ap (λ (b : Bool). (u == v) || b) (sym there))
  | inr e ↦ sym (ap (λ (b : Bool). b || has v ws) e.0)
]
number_there v u ws false is = ap (λ (us : List ℕ). has v us) (insert_put u ws) ∙ has_put v u ws

has_number : (v u : ℕ) (ws : List ℕ) → has v (with_number u ws) ≡ ((u == v) || has v ws)
has_number v u ws = number_there v u ws (has u ws) refl

-- ---- the frames around a use

abbrev around : ℕ → List Frame → Bool
around f frames = list_any (λ (frame : Frame). is_scope_of f frame.kind) frames

abbrev takes : (first : ℕ → ℕ) → ℕ → ℕ → List Frame → Bool
takes first f u frames = list_any (λ (frame : Frame). is_scope_of f frame.kind && captures first u frame.kind) frames

choice_there : (v u : ℕ) (ws : List ℕ) (b : Bool) → has v (if b then with_number u ws else ws) ≡ (has v ws || ((u == v) && b))
choice_there v u ws true = has_number v u ws ∙ turned (u == v) (has v ws)
  where
    turned : (a c : Bool) → (a || c) ≡ (c || (a && true))
    turned true true = refl
    turned true false = refl
    turned false true = refl
    turned false false = refl
choice_there v u ws false = kept (u == v) (has v ws)
  where
    kept : (a c : Bool) → c ≡ (c || (a && false))
    kept true true = refl
    kept true false = refl
    kept false true = refl
    kept false false = refl

use_joined : (a b c d : Bool) → ((a || (b && c)) || (b && d)) ≡ (a || (b && (c || d)))
use_joined true b c d = refl
use_joined false true c d = refl
use_joined false false c d = refl

nothing_more : (a b : Bool) → a ≡ (a || (b && false))
nothing_more true b = refl
nothing_more false true = refl
nothing_more false false = refl

has_use : (first : ℕ → ℕ) (f v u : ℕ) (ws : List ℕ) (frames : List Frame) → has v (with_use first f u ws frames) ≡ (has v ws || ((u == v) && takes first f u frames))
has_use first f v u ws [] = nothing_more (has v ws) (u == v)
has_use first f v u ws (frame ∷ frames) =
    let here : Bool = is_scope_of f frame.kind && captures first u frame.kind in
    has_use first f v u (if here then with_number u ws else ws) frames
    ∙ (ap (λ (b : Bool). b || ((u == v) && takes first f u frames)) (choice_there v u ws here)
    ∙ use_joined (has v ws) (u == v) here (takes first f u frames))

-- where the frame is this function, its first variable decides
one_takes : (first : ℕ → ℕ) (f u : ℕ) (o : ScopeKind) → (is_scope_of f o && captures first u o) ≡ (is_scope_of f o && nat_lt u (first f))
one_takes first f u (kind.Function g vararg) = elim (eqb_tells g f) [
  | inl e ↦ ap (λ (k : ℕ). (g == f) && nat_lt u (first k)) e.1
  | inr e ↦ ap (λ (b : Bool). b && nat_lt u (first g)) e.0 ∙ sym (ap (λ (b : Bool). b && nat_lt u (first f)) e.0)
]
one_takes first f u (kind.Block labels inside) = refl
one_takes first f u kind.Loop = refl

shared : (a b c : Bool) → ((a && c) || (b && c)) ≡ ((a || b) && c)
shared true true true = refl
shared true true false = refl
shared true false true = refl
shared true false false = refl
shared false b c = refl

takes_around : (first : ℕ → ℕ) (f u : ℕ) (frames : List Frame) → takes first f u frames ≡ (around f frames && nat_lt u (first f))
takes_around first f u [] = refl
takes_around first f u (frame ∷ frames) =
    ap (λ (b : Bool). b || takes first f u frames) (one_takes first f u frame.kind)
    ∙ (ap (λ (b : Bool). (is_scope_of f frame.kind && nat_lt u (first f)) || b) (takes_around first f u frames)
    ∙ shared (is_scope_of f frame.kind) (around f frames) (nat_lt u (first f)))

has_used : (first : ℕ → ℕ) (f v u : ℕ) (ws : List ℕ) (frames : List Frame) → has v (with_use first f u ws frames) ≡ (has v ws || ((u == v) && (around f frames && nat_lt u (first f))))
has_used first f v u ws frames = has_use first f v u ws frames ∙ ap (λ (b : Bool). has v ws || ((u == v) && b)) (takes_around first f u frames)

-- ---- tests

both : (a b : Bool) → (a && b) ≡ true → (a ≡ true) × (b ≡ true)
both true b e = (refl, e)
both false b e = absurd cc

either : (a b : Bool) → (a || b) ≡ true → (a ≡ true) ⊎ (b ≡ true)
either true b e = inl refl
either false b e = inr e

first_holds : (a b : Bool) → a ≡ true → (a || b) ≡ true
first_holds true b e = refl
first_holds false b e = absurd cc

second_holds : (a b : Bool) → b ≡ true → (a || b) ≡ true
second_holds true b e = refl
second_holds false b e = e

hold : (a b : Bool) → a ≡ true → b ≡ true → (a && b) ≡ true
hold true b d e = e
hold false b d e = absurd cc

equal : (u v : ℕ) → (u == v) ≡ true → u ≡ v
equal u v e = elim (eqb_tells u v) [
  | inl t ↦ t.1
  | inr t ↦ absurd cc
]

itself : (v : ℕ) → (v == v) ≡ true
itself v = elim (eqb_tells v v) [
  | inl t ↦ t.0
  | inr t ↦ absurd (t.1 refl)
]

-- ---- from what is captured to its use

later : {h : List Occurrence} {f v : ℕ} (e : Occurrence) → UsesInside h f v → UsesInside (e ∷ h) f v
later e u = record {
  node = u.node;
  name = u.name;
  before = u.before;
  met = record { after = e ∷ u.met.after; joined = ap (λ (t : List Occurrence). e ∷ t) u.met.joined };
  means = u.means;
  inside = u.inside;
  outer = u.outer;
}

used_here : (i : ℕ) (x : List ℕ) (h : List Occurrence) (f v u : ℕ) → meaning h x ≡ Some u → (u == v) ≡ true → around f (scope h).frames ≡ true → nat_lt u (first_variable h f) ≡ true → UsesInside (occurrence.Use i x ∷ h) f v
used_here i x h f v u means same inside outer = record {
  node = i;
  name = x;
  before = h;
  met = record { after = []; joined = refl };
  means = means ∙ ap (λ (w : ℕ). Some w) (equal u v same);
  inside = inside;
  outer = (Decides-ltb v (first_variable h f)).0 (subst (λ (w : ℕ). nat_lt w (first_variable h f) ≡ true) (equal u v same) outer);
}

captured_here : (i : ℕ) (x : List ℕ) (h : List Occurrence) (f v : ℕ) (o : Option ℕ) → meaning h x ≡ o → has v (with_meaning (first_variable h) f o (captured_by h f) (scope h).frames) ≡ true → (has v (captured_by h f) ≡ true → UsesInside h f v) → UsesInside (occurrence.Use i x ∷ h) f v
captured_here i x h f v None means is goes = later (occurrence.Use i x) (goes is)
captured_here i x h f v (Some u) means is goes =
    let inside : Bool = around f (scope h).frames in
    let outer : Bool = nat_lt u (first_variable h f) in
    elim (either (has v (captured_by h f)) ((u == v) && (inside && outer)) (sym (has_used (first_variable h) f v u (captured_by h f) (scope h).frames) ∙ is)) [
      | inl old ↦ later (occurrence.Use i x) (goes old)
      | inr now ↦
          let parts = both (u == v) (inside && outer) now in
          let ends = both inside outer parts.1 in
          used_here i x h f v u means parts.0 ends.0 ends.1
    ]

pub captured_used : (h : List Occurrence) (f v : ℕ) → has v (captured_by h f) ≡ true → UsesInside h f v
unfolding captured_by
captured_used [] f v is = absurd cc
captured_used (occurrence.Use i x ∷ h) f v is = captured_here i x h f v (meaning h x) refl is (captured_used h f v)
captured_used (occurrence.Open o ∷ h) f v is = later (occurrence.Open o) (captured_used h f v is)
captured_used (occurrence.Close ∷ h) f v is = later occurrence.Close (captured_used h f v is)
captured_used (occurrence.Declare i count ∷ h) f v is = later (occurrence.Declare i count) (captured_used h f v is)
captured_used (occurrence.Enter i names ∷ h) f v is = later (occurrence.Enter i names) (captured_used h f v is)
captured_used (occurrence.Goto l x ∷ h) f v is = later (occurrence.Goto l x) (captured_used h f v is)
captured_used (occurrence.SecondLabel l ∷ h) f v is = later (occurrence.SecondLabel l) (captured_used h f v is)
captured_used (occurrence.Break l ∷ h) f v is = later (occurrence.Break l) (captured_used h f v is)
captured_used (occurrence.Vararg l ∷ h) f v is = later (occurrence.Vararg l) (captured_used h f v is)

-- ---- from a use to what is captured

kept : (first : ℕ → ℕ) (f v : ℕ) (o : Option ℕ) (ws : List ℕ) (frames : List Frame) → has v ws ≡ true → has v (with_meaning first f o ws frames) ≡ true
kept first f v None ws frames is = is
kept first f v (Some u) ws frames is =
    has_used first f v u ws frames ∙ first_holds (has v ws) ((u == v) && (around f frames && nat_lt u (first f))) is

taken : (first : ℕ → ℕ) (f v : ℕ) (o : Option ℕ) (ws : List ℕ) (frames : List Frame) → o ≡ Some v → around f frames ≡ true → v < first f → has v (with_meaning first f o ws frames) ≡ true
taken first f v o ws frames means inside outer =
    ap (λ (p : Option ℕ). has v (with_meaning first f p ws frames)) means
    ∙ (has_used first f v v ws frames
    ∙ second_holds (has v ws) ((v == v) && (around f frames && nat_lt v (first f)))
    (hold (v == v) (around f frames && nat_lt v (first f)) (itself v) (hold (around f frames) (nat_lt v (first f)) inside ((Decides-ltb v (first f)).1 outer))))

captured_there : (i : ℕ) (x : List ℕ) (f v : ℕ) (after before : List Occurrence) → meaning before x ≡ Some v → around f (scope before).frames ≡ true → v < first_variable before f → has v (captured_by (after ++ occurrence.Use i x ∷ before) f) ≡ true
unfolding captured_by
captured_there i x f v [] before means inside outer = taken (first_variable before) f v (meaning before x) (captured_by before f) (scope before).frames means inside outer
captured_there i x f v (occurrence.Use j y ∷ after) before means inside outer =
    let h : List Occurrence = after ++ occurrence.Use i x ∷ before in
    kept (first_variable h) f v (meaning h y) (captured_by h f) (scope h).frames (captured_there i x f v after before means inside outer)
captured_there i x f v (occurrence.Open _ ∷ after) before means inside outer = captured_there i x f v after before means inside outer
captured_there i x f v (occurrence.Close ∷ after) before means inside outer = captured_there i x f v after before means inside outer
captured_there i x f v (occurrence.Declare _ _ ∷ after) before means inside outer = captured_there i x f v after before means inside outer
captured_there i x f v (occurrence.Enter _ _ ∷ after) before means inside outer = captured_there i x f v after before means inside outer
captured_there i x f v (occurrence.Goto _ _ ∷ after) before means inside outer = captured_there i x f v after before means inside outer
captured_there i x f v (occurrence.SecondLabel _ ∷ after) before means inside outer = captured_there i x f v after before means inside outer
captured_there i x f v (occurrence.Break _ ∷ after) before means inside outer = captured_there i x f v after before means inside outer
captured_there i x f v (occurrence.Vararg _ ∷ after) before means inside outer = captured_there i x f v after before means inside outer

pub used_captured : (h : List Occurrence) (f v : ℕ) → UsesInside h f v → has v (captured_by h f) ≡ true
used_captured h f v u =
    subst (λ (t : List Occurrence). has v (captured_by t f) ≡ true) u.met.joined (captured_there u.node u.name f v u.met.after u.before u.means u.inside u.outer)

-- ---- the same of what some function captures

-- a function around whose first variable is above this one
record Above (first : ℕ → ℕ) (v : ℕ) (frames : List Frame) : Type 0 where
  of : ℕ
  inside : around of frames ≡ true
  outer : nat_lt v (first of) ≡ true

one_captures : (first : ℕ → ℕ) (v : ℕ) (o : ScopeKind) → captures first v o ≡ true → (f : ℕ) × (is_scope_of f o ≡ true) × (nat_lt v (first f) ≡ true)
one_captures first v (kind.Function g vararg) is = (g, itself g, is)
one_captures first v (kind.Block labels inside) is = absurd cc
one_captures first v kind.Loop is = absurd cc

above : (first : ℕ → ℕ) (v : ℕ) (frames : List Frame) → captured_in first v frames ≡ true → Above first v frames
above first v [] is = absurd cc
above first v (frame ∷ frames) is = elim (either (captures first v frame.kind) (captured_in first v frames) is) [
  | inl here ↦
      let found = one_captures first v frame.kind here in
      record { of = found.0; inside = first_holds (is_scope_of found.0 frame.kind) (around found.0 frames) found.1; outer = found.2 }
  | inr rest ↦
      let found = above first v frames rest in
      record { of = found.of; inside = second_holds (is_scope_of found.of frame.kind) (around found.of frames) found.inside; outer = found.outer }
]

it_captures : (first : ℕ → ℕ) (f v : ℕ) (o : ScopeKind) → is_scope_of f o ≡ true → nat_lt v (first f) ≡ true → captures first v o ≡ true
it_captures first f v (kind.Function g vararg) is outer = subst (λ (k : ℕ). nat_lt v (first k) ≡ true) (sym (equal g f is)) outer
it_captures first f v (kind.Block labels inside) is outer = absurd cc
it_captures first f v kind.Loop is outer = absurd cc

in_frames : (first : ℕ → ℕ) (f v : ℕ) (frames : List Frame) → around f frames ≡ true → nat_lt v (first f) ≡ true → captured_in first v frames ≡ true
in_frames first f v [] inside outer = absurd cc
in_frames first f v (frame ∷ frames) inside outer = elim (either (is_scope_of f frame.kind) (around f frames) inside) [
  | inl here ↦ first_holds (captures first v frame.kind) (captured_in first v frames) (it_captures first f v frame.kind here outer)
  | inr rest ↦ second_holds (captures first v frame.kind) (captured_in first v frames) (in_frames first f v frames rest outer)
]

abbrev Flagged : List Occurrence → ℕ → Type 0
Flagged h v = (f : ℕ) × UsesInside h f v

flagged_later : (e : Occurrence) (h : List Occurrence) (v : ℕ) → Flagged h v → Flagged (e ∷ h) v
flagged_later e h v u = (u.0, later e u.1)

also_here : (i : ℕ) (x : List ℕ) (h : List Occurrence) (v : ℕ) (o : Option ℕ) → meaning h x ≡ o → also (captured_in (first_variable h) v (scope h).frames) o v ≡ true → Flagged (occurrence.Use i x ∷ h) v
also_here i x h v None means is = absurd cc
also_here i x h v (Some u) means is =
    let parts = both (u == v) (captured_in (first_variable h) v (scope h).frames) is in
    let found = above (first_variable h) v (scope h).frames parts.1 in
    let same : u ≡ v = equal u v parts.0 in
    (found.of, used_here i x h found.of v v (means ∙ ap (λ (w : ℕ). Some w) same) (itself v) found.inside found.outer)

flagged_here : (i : ℕ) (x : List ℕ) (h : List Occurrence) (v : ℕ) → (also (captured_in (first_variable h) v (scope h).frames) (meaning h x) v || is_captured h v) ≡ true → (is_captured h v ≡ true → Flagged h v) → Flagged (occurrence.Use i x ∷ h) v
flagged_here i x h v is goes = elim (either (also (captured_in (first_variable h) v (scope h).frames) (meaning h x) v) (is_captured h v) is) [
  | inl here ↦ also_here i x h v (meaning h x) refl here
  | inr rest ↦ flagged_later (occurrence.Use i x) h v (goes rest)
]

pub flagged_used : (h : List Occurrence) (v : ℕ) → is_captured h v ≡ true → (f : ℕ) × UsesInside h f v
unfolding is_captured
flagged_used [] v is = absurd cc
flagged_used (occurrence.Use i x ∷ h) v is = flagged_here i x h v is (flagged_used h v)
flagged_used (occurrence.Open o ∷ h) v is = flagged_later (occurrence.Open o) h v (flagged_used h v is)
flagged_used (occurrence.Close ∷ h) v is = flagged_later occurrence.Close h v (flagged_used h v is)
flagged_used (occurrence.Declare i count ∷ h) v is = flagged_later (occurrence.Declare i count) h v (flagged_used h v is)
flagged_used (occurrence.Enter i names ∷ h) v is = flagged_later (occurrence.Enter i names) h v (flagged_used h v is)
flagged_used (occurrence.Goto l x ∷ h) v is = flagged_later (occurrence.Goto l x) h v (flagged_used h v is)
flagged_used (occurrence.SecondLabel l ∷ h) v is = flagged_later (occurrence.SecondLabel l) h v (flagged_used h v is)
flagged_used (occurrence.Break l ∷ h) v is = flagged_later (occurrence.Break l) h v (flagged_used h v is)
flagged_used (occurrence.Vararg l ∷ h) v is = flagged_later (occurrence.Vararg l) h v (flagged_used h v is)

also_there : (here : Bool) (o : Option ℕ) (v : ℕ) → o ≡ Some v → here ≡ true → also here o v ≡ true
also_there here o v means is = ap (λ (p : Option ℕ). also here p v) means ∙ hold (v == v) here (itself v) is

flagged_there : (i : ℕ) (x : List ℕ) (f v : ℕ) (after before : List Occurrence) → meaning before x ≡ Some v → around f (scope before).frames ≡ true → v < first_variable before f → is_captured (after ++ occurrence.Use i x ∷ before) v ≡ true
unfolding is_captured
flagged_there i x f v [] before means inside outer =
    let here : Bool = captured_in (first_variable before) v (scope before).frames in
    first_holds (also here (meaning before x) v) (is_captured before v)
    (also_there here (meaning before x) v means (in_frames (first_variable before) f v (scope before).frames inside ((Decides-ltb v (first_variable before f)).1 outer)))
flagged_there i x f v (occurrence.Use j y ∷ after) before means inside outer =
    let h : List Occurrence = after ++ occurrence.Use i x ∷ before in
    second_holds (also (captured_in (first_variable h) v (scope h).frames) (meaning h y) v) (is_captured h v) (flagged_there i x f v after before means inside outer)
flagged_there i x f v (occurrence.Open _ ∷ after) before means inside outer = flagged_there i x f v after before means inside outer
flagged_there i x f v (occurrence.Close ∷ after) before means inside outer = flagged_there i x f v after before means inside outer
flagged_there i x f v (occurrence.Declare _ _ ∷ after) before means inside outer = flagged_there i x f v after before means inside outer
flagged_there i x f v (occurrence.Enter _ _ ∷ after) before means inside outer = flagged_there i x f v after before means inside outer
flagged_there i x f v (occurrence.Goto _ _ ∷ after) before means inside outer = flagged_there i x f v after before means inside outer
flagged_there i x f v (occurrence.SecondLabel _ ∷ after) before means inside outer = flagged_there i x f v after before means inside outer
flagged_there i x f v (occurrence.Break _ ∷ after) before means inside outer = flagged_there i x f v after before means inside outer
flagged_there i x f v (occurrence.Vararg _ ∷ after) before means inside outer = flagged_there i x f v after before means inside outer

pub used_flagged : (h : List Occurrence) (f v : ℕ) → UsesInside h f v → is_captured h v ≡ true
used_flagged h f v u =
    subst (λ (t : List Occurrence). is_captured t v ≡ true) u.met.joined (flagged_there u.node u.name f v u.met.after u.before u.means u.inside u.outer)
