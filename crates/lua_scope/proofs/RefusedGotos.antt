-- From the first refusal of a text to the goto that it tells of, and back.
use Rattle.std.proofs.Common.{◌≡◌, ℕ, zero, suc, Bool, true, false, if◌then◌else◌, List, [], ◌∷◌, map, reverse, Option, Some, None, slice_get, refl, sym, ap, subst, ◌∙◌}
use Rattle.lua_ast.specs.Tree.{Tree}
use Rattle.lua_scope.specs.declared.occurrence.Occurrence.{Occurrence}
use Rattle.lua_scope.specs.declared.occurrence.Occurrence.TheVariants as occurrence
use Rattle.lua_scope.specs.declared.load_error.LoadError.{LoadError}
use Rattle.lua_scope.specs.declared.load_error.LoadError.TheVariants.{NoLabel, TwoLabels, JumpsIntoLocal, BreakOutside, VarargOutside}
use Rattle.lua_scope.specs.Walk.{walked}
use Rattle.lua_scope.specs.Scope.{scope}
use Rattle.lua_scope.specs.Refusals.{in_loop, has_varargs, refusal_in, earlier, first_refusal}
use Rattle.lua_scope.specs.Loads.{HasTokensOf, LoadsAs}
use Rattle.lua_scope.specs.Gotos.{GotoThere, gotos_of}
use Rattle.lua_scope.specs.Jumps.{Lands, LacksLabel, EntersLocal, HasGoto}
use Rattle.lua_scope.proofs.MetGotos.{told, refusals_met, met_gotos}
use Rattle.lua_scope.proofs.Landing.{Verdict, lacks, lands, enters, verdict, nowhere_refused, over_refused}

-- ---- refusals of gotos among all refusals

-- none of these is a refusal
abbrev NoRefusals : List (Option LoadError) → Type 0
NoRefusals [] = Unit {0}
NoRefusals (r ∷ rs) = (r ≡ None) × NoRefusals rs

first_none : (a b : Option LoadError) → earlier a b ≡ None → a ≡ None
first_none None b e = refl
first_none (Some r) b e = e

then_none : (a b : Option LoadError) → earlier a b ≡ None → b ≡ None
then_none None b e = e
then_none (Some r) b e = absurd cc

clear : (h : List Occurrence) → first_refusal h ≡ None → NoRefusals (refusals_met h)
unfolding first_refusal
clear [] e = tt
clear (occurrence.Goto l x ∷ h) e = (then_none (first_refusal h) (refusal_in (scope h) (occurrence.Goto l x)) e, clear h (first_none (first_refusal h) (refusal_in (scope h) (occurrence.Goto l x)) e))
clear (occurrence.Open k ∷ h) e = clear h (first_none (first_refusal h) None e)
clear (occurrence.Close ∷ h) e = clear h (first_none (first_refusal h) None e)
clear (occurrence.Declare i n ∷ h) e = clear h (first_none (first_refusal h) None e)
clear (occurrence.Enter i names ∷ h) e = clear h (first_none (first_refusal h) None e)
clear (occurrence.Use i x ∷ h) e = clear h (first_none (first_refusal h) None e)
clear (occurrence.SecondLabel l ∷ h) e = clear h (first_none (first_refusal h) (refusal_in (scope h) (occurrence.SecondLabel l)) e)
clear (occurrence.Break l ∷ h) e = clear h (first_none (first_refusal h) (refusal_in (scope h) (occurrence.Break l)) e)
clear (occurrence.Vararg l ∷ h) e = clear h (first_none (first_refusal h) (refusal_in (scope h) (occurrence.Vararg l)) e)

-- this refusal stands at some place
record Stands (r : LoadError) (rs : List (Option LoadError)) : Type 0 where
  place : ℕ
  there : slice_get rs place ≡ Some (Some r)

deeper : {r : LoadError} {rs : List (Option LoadError)} (s : Option LoadError) → Stands r rs → Stands r (s ∷ rs)
deeper s h = record { place = suc h.place; there = h.there }

-- a refusal of a goto
abbrev OfGoto : LoadError → Type 0
OfGoto (NoLabel l) = Unit {0}
OfGoto (JumpsIntoLocal l) = Unit {0}
OfGoto _ = ⊥

-- the first refusal is an earlier one, or that of the last occurrence
from_last : (r : LoadError) (rs : List (Option LoadError)) (a b : Option LoadError) → earlier a b ≡ Some r
    → (a ≡ Some r → Stands r rs) → (b ≡ Some r → Stands r rs) → Stands r rs
from_last r rs None b e first last = last e
from_last r rs (Some q) b e first last = first e

other_refusal : (r q : LoadError) (rs : List (Option LoadError)) → OfGoto r → (OfGoto q → ⊥) → Some q ≡ Some r → Stands r rs
other_refusal r q rs is isnt e = absurd (isnt (subst OfGoto (let same : r ≡ q = cc in same) is))

no_refusal : (r : LoadError) (rs : List (Option LoadError)) → None ≡ Some r → Stands r rs
no_refusal r rs e = absurd cc

by_rule : (r q : LoadError) (rs : List (Option LoadError)) (b : Bool) → OfGoto r → (OfGoto q → ⊥) → (if b then None else Some q) ≡ Some r → Stands r rs
by_rule r q rs true is isnt e = no_refusal r rs e
by_rule r q rs false is isnt e = other_refusal r q rs is isnt e

found : (r : LoadError) → OfGoto r → (h : List Occurrence) → first_refusal h ≡ Some r → Stands r (refusals_met h)
unfolding first_refusal
found r is [] e = absurd cc
found r is (occurrence.Goto l x ∷ h) e =
    from_last r (refusals_met (occurrence.Goto l x ∷ h)) (first_refusal h) (refusal_in (scope h) (occurrence.Goto l x)) e
    (λ f. deeper (refusal_in (scope h) (occurrence.Goto l x)) (found r is h f)) (λ f. record { place = 0; there = ap (λ (o : Option LoadError). Some o) f })
found r is (occurrence.Open k ∷ h) e = from_last r (refusals_met h) (first_refusal h) None e (λ f. found r is h f) (λ f. no_refusal r (refusals_met h) f)
found r is (occurrence.Close ∷ h) e = from_last r (refusals_met h) (first_refusal h) None e (λ f. found r is h f) (λ f. no_refusal r (refusals_met h) f)
found r is (occurrence.Declare i n ∷ h) e = from_last r (refusals_met h) (first_refusal h) None e (λ f. found r is h f) (λ f. no_refusal r (refusals_met h) f)
found r is (occurrence.Enter i names ∷ h) e = from_last r (refusals_met h) (first_refusal h) None e (λ f. found r is h f) (λ f. no_refusal r (refusals_met h) f)
found r is (occurrence.Use i x ∷ h) e = from_last r (refusals_met h) (first_refusal h) None e (λ f. found r is h f) (λ f. no_refusal r (refusals_met h) f)
found r is (occurrence.SecondLabel l ∷ h) e =
    from_last r (refusals_met h) (first_refusal h) (Some (TwoLabels l)) e (λ f. found r is h f) (λ f. other_refusal r (TwoLabels l) (refusals_met h) is (λ no. no) f)
found r is (occurrence.Break l ∷ h) e =
    from_last r (refusals_met h) (first_refusal h) (refusal_in (scope h) (occurrence.Break l)) e (λ f. found r is h f)
    (λ f. by_rule r (BreakOutside l) (refusals_met h) (in_loop (reverse (scope h).frames)) is (λ no. no) f)
found r is (occurrence.Vararg l ∷ h) e =
    from_last r (refusals_met h) (first_refusal h) (refusal_in (scope h) (occurrence.Vararg l)) e (λ f. found r is h f)
    (λ f. by_rule r (VarargOutside l) (refusals_met h) (has_varargs (reverse (scope h).frames)) is (λ no. no) f)

-- ---- gotos by their places

none_at : (gs : List GotoThere) (k : ℕ) (g : GotoThere) → NoRefusals (map told gs) → slice_get gs k ≡ Some g → told g ≡ None
none_at [] k g all there = absurd cc
none_at (h ∷ gs) zero g all there =
    let first : Some h ≡ Some g = there in
    let same : h ≡ g = cc in
    ap told (sym same) ∙ all.0
none_at (h ∷ gs) (suc k) g all there = none_at gs k g all.1 there

record ToldAt (gs : List GotoThere) (r : LoadError) : Type 0 where
  place : ℕ
  goto : GotoThere
  there : slice_get gs place ≡ Some goto
  is : told goto ≡ Some r

told_at : (gs : List GotoThere) (r : LoadError) (k : ℕ) → slice_get (map told gs) k ≡ Some (Some r) → ToldAt gs r
told_at [] r k e = absurd cc
told_at (g ∷ gs) r zero e =
    let first : Some (told g) ≡ Some (Some r) = e in
    let same : told g ≡ Some r = cc in
    record { place = 0; goto = g; there = refl; is = same }
told_at (g ∷ gs) r (suc k) e = let later : ToldAt gs r = told_at gs r k e in record { place = suc later.place; goto = later.goto; there = later.there; is = later.is }

-- ---- the laws

met : (text : List ℕ) (t : Tree) → HasTokensOf text t → refusals_met (walked [] t) ≡ map told (gotos_of t)
met text t is = met_gotos text is.tokens t is.parses

pub not_refused : (text : List ℕ) (t : Tree) (k : ℕ) (g : GotoThere) → LoadsAs text t → slice_get (gotos_of t) k ≡ Some g → told g ≡ None
not_refused text t k g loads there = none_at (gotos_of t) k g (subst NoRefusals (met text t loads.is_text) (clear (walked [] t) loads.clear)) there

by_verdict : (g : GotoThere) → told g ≡ None → Verdict g.line g.label g.around → Lands g
by_verdict g e (lacks h r) = absurd (let no : None ≡ Some (NoLabel g.line) = sym e ∙ r in cc)
by_verdict g e (lands h r) = h
by_verdict g e (enters h r) = absurd (let no : None ≡ Some (JumpsIntoLocal g.line) = sym e ∙ r in cc)

pub goto_lands : (text : List ℕ) (t : Tree) (k : ℕ) (g : GotoThere) → LoadsAs text t → slice_get (gotos_of t) k ≡ Some g → Lands g
goto_lands text t k g loads there = by_verdict g (not_refused text t k g loads there) (verdict g.line g.label g.around)

refused_goto : (text : List ℕ) (t : Tree) (r : LoadError) → OfGoto r → HasTokensOf text t → first_refusal (walked [] t) ≡ Some r → ToldAt (gotos_of t) r
refused_goto text t r of is e =
    let s : Stands r (refusals_met (walked [] t)) = found r of (walked [] t) e in
    told_at (gotos_of t) r s.place (ap (λ (rs : List (Option LoadError)). slice_get rs s.place) (sym (met text t is)) ∙ s.there)

lacking_goto : (t : Tree) (l : ℕ) (a : ToldAt (gotos_of t) (NoLabel l)) → Verdict a.goto.line a.goto.label a.goto.around → HasGoto t l LacksLabel
lacking_goto t l a (lacks h r) =
    let same : Some (NoLabel a.goto.line) ≡ Some (NoLabel l) = sym r ∙ a.is in
    record { place = a.place; goto = a.goto; there = a.there; line = let equal : a.goto.line ≡ l = cc in equal; is = h }
lacking_goto t l a (lands h r) = absurd (let no : None ≡ Some (NoLabel l) = sym r ∙ a.is in cc)
lacking_goto t l a (enters h r) = absurd (let no : Some (JumpsIntoLocal a.goto.line) ≡ Some (NoLabel l) = sym r ∙ a.is in cc)

pub nowhere_goto : (text : List ℕ) (t : Tree) (l : ℕ) → HasTokensOf text t → first_refusal (walked [] t) ≡ Some (NoLabel l) → HasGoto t l LacksLabel
nowhere_goto text t l is e =
    let a : ToldAt (gotos_of t) (NoLabel l) = refused_goto text t (NoLabel l) tt is e in
    lacking_goto t l a (verdict a.goto.line a.goto.label a.goto.around)

entering_goto : (t : Tree) (l : ℕ) (a : ToldAt (gotos_of t) (JumpsIntoLocal l)) → Verdict a.goto.line a.goto.label a.goto.around → HasGoto t l EntersLocal
entering_goto t l a (lacks h r) = absurd (let no : Some (NoLabel a.goto.line) ≡ Some (JumpsIntoLocal l) = sym r ∙ a.is in cc)
entering_goto t l a (lands h r) = absurd (let no : None ≡ Some (JumpsIntoLocal l) = sym r ∙ a.is in cc)
entering_goto t l a (enters h r) =
    let same : Some (JumpsIntoLocal a.goto.line) ≡ Some (JumpsIntoLocal l) = sym r ∙ a.is in
    record { place = a.place; goto = a.goto; there = a.there; line = let equal : a.goto.line ≡ l = cc in equal; is = h }

pub over_goto : (text : List ℕ) (t : Tree) (l : ℕ) → HasTokensOf text t → first_refusal (walked [] t) ≡ Some (JumpsIntoLocal l) → HasGoto t l EntersLocal
over_goto text t l is e =
    let a : ToldAt (gotos_of t) (JumpsIntoLocal l) = refused_goto text t (JumpsIntoLocal l) tt is e in
    entering_goto t l a (verdict a.goto.line a.goto.label a.goto.around)

pub none_lacks : (text : List ℕ) (t : Tree) (l : ℕ) → LoadsAs text t → HasGoto t l LacksLabel → ⊥
none_lacks text t l loads g =
    let no : None ≡ Some (NoLabel g.goto.line) = sym (not_refused text t g.place g.goto loads g.there) ∙ nowhere_refused g.goto.line g.goto.label g.goto.around g.is in cc

pub none_enters : (text : List ℕ) (t : Tree) (l : ℕ) → LoadsAs text t → HasGoto t l EntersLocal → ⊥
none_enters text t l loads g =
    let no : None ≡ Some (JumpsIntoLocal g.goto.line) = sym (not_refused text t g.place g.goto loads g.there) ∙ over_refused g.goto.line g.goto.label g.goto.around g.is in cc
