-- What a goto is refused for, said of the blocks around it.
use Rattle.std.proofs.Common.{◌≡◌, inl, inr, ℕ, zero, suc, ◌+◌, ◌<◌, ◌≤◌, ◌||◌, nat_lt, Bool, true, false, not, if◌then◌else◌, cond, List, [], ◌∷◌, ◌++◌, length, Option, Some, None, option_map, bytes_eq, refl, sym, ap, subst, ◌∙◌, arith}
use Rattle.std.proofs.lemmas.Bool.Decides.{nat_tests}
use Rattle.std.specs.Option.{option_or}
use Rattle.lua_ast.specs.Tree.{Tree, Label, Trees, none, snoc}
use Rattle.lua_scope.specs.declared.occurrence.Label.{Label as BlockLabel}
use Rattle.lua_scope.specs.declared.labels.FirstLabel.{FirstLabel}
use Rattle.lua_scope.specs.declared.load_error.LoadError.{LoadError}
use Rattle.lua_scope.specs.declared.load_error.LoadError.TheVariants.{NoLabel, JumpsIntoLocal}
use Rattle.lua_scope.specs.Labels.{labels_of, with_labels, inside_of, inside_with, locals_at, locals_left}
use Rattle.lua_scope.specs.FirstLabels.{first_label}
use Rattle.lua_scope.specs.Refusals.{target, landing}
use Rattle.lua_scope.proofs.Targets.{first_pushed, locals_there, target_is, not_below}
use Rattle.lua_scope.specs.Gotos.{Enclosing, followed_by, stats_of}
use Rattle.lua_scope.specs.Jumps.{is_label_of, label_on, stats_from, locals_on, locals_up_to, Nowhere, no_block, lacking, Innermost, here, further_out, void_with, is_void, lies_outside, passes_local, Reaches, JumpsOver}
use Rattle.lua_scope.proofs.MetGotos.{inside_by, refused}

-- ---- the labels of a block, in the scope rules and in the meaning

inner : (a b : Trees) → Some a ≡ Some b → a ≡ b
inner a b e = cc

is_below : (i n : ℕ) → i < n → nat_lt i n ≡ true
is_below i n h = grind (arith, nat_tests)

-- what the two say of the first label of a name
data Labelled (x : List ℕ) (ts : Trees) : Type 0 where
  unlabelled : stats_from x ts ≡ None → first_label x (labels_of ts) ≡ None → locals_up_to x ts ≡ locals_left ts → Labelled x ts
  labelled : (part : Trees) (f : FirstLabel) → stats_from x ts ≡ Some part → first_label x (labels_of ts) ≡ Some f
      → f.locals ≡ locals_up_to x ts → nat_lt f.place (inside_of ts) ≡ not (is_void part) → f.place < length (labels_of ts) → Labelled x ts

one_more : (ls : List BlockLabel) (l : BlockLabel) → length (ls ++ l ∷ []) ≡ length ls + 1
one_more [] l = refl
one_more (k ∷ ls) l = let e : length (ls ++ l ∷ []) ≡ length ls + 1 = one_more ls l in omega arith

same_size : (n : ℕ) → n ≤ n
same_size n = omega arith

few_inside : (ts : Trees) → inside_of ts ≤ length (labels_of ts)
unfolding labels_of inside_of
few_inside none = same_size 0
few_inside (snoc ts (Label n l y)) =
    let e : inside_of ts ≤ length (labels_of ts) = few_inside ts in
    let more : length (labels_of ts ++ record { name = y; locals = locals_left ts } ∷ []) ≡ length (labels_of ts) + 1 = one_more (labels_of ts) (record { name = y; locals = locals_left ts }) in
    let still : inside_of ts ≤ length (labels_of ts ++ record { name = y; locals = locals_left ts } ∷ []) = omega arith in
    still
few_inside (snoc ts t) = same_size (length (labels_of ts))

-- a further label, behind statements without one of this name
first_here : (x : List ℕ) (ts : Trees) (n l : ℕ) (y : List ℕ) (b : Bool) → bytes_eq y x ≡ b
    → stats_from x ts ≡ None → first_label x (labels_of ts) ≡ None → locals_up_to x ts ≡ locals_left ts → Labelled x (snoc ts (Label n l y))
unfolding labels_of inside_of
first_here x ts n l y true is without first count =
    let more : length (labels_of ts ++ record { name = y; locals = locals_left ts } ∷ []) ≡ length (labels_of ts) + 1 = one_more (labels_of ts) (record { name = y; locals = locals_left ts }) in
    labelled (snoc none (Label n l y)) (record { place = length (labels_of ts); locals = locals_left ts })
    (ap (λ (o : Option Trees). label_on x o (Label n l y)) without ∙ ap (λ (c : Bool). if c then Some (snoc none (Label n l y)) else None) is)
    (first_pushed x (labels_of ts) (record { name = y; locals = locals_left ts })
    ∙ (ap (λ (o : Option FirstLabel). option_or o (cond (bytes_eq y x) (Some (record { place = length (labels_of ts); locals = locals_left ts })) None)) first
    ∙ ap (λ (c : Bool). option_or None (cond c (Some (record { place = length (labels_of ts); locals = locals_left ts })) None)) is))
    (sym (ap (λ (o : Option Trees). locals_on x o (locals_up_to x ts) (Label n l y)) without
    ∙ (ap (λ (c : Bool). if c then locals_up_to x ts else (locals_up_to x ts + 0)) is ∙ count)))
    (not_below (length (labels_of ts)) (inside_of ts) (few_inside ts))
    (let there : length (labels_of ts) < length (labels_of ts ++ record { name = y; locals = locals_left ts } ∷ []) = omega arith in there)
first_here x ts n l y false is without first count = unlabelled
    (ap (λ (o : Option Trees). label_on x o (Label n l y)) without ∙ ap (λ (c : Bool). if c then Some (snoc none (Label n l y)) else None) is)
    (first_pushed x (labels_of ts) (record { name = y; locals = locals_left ts })
    ∙ (ap (λ (o : Option FirstLabel). option_or o (cond (bytes_eq y x) (Some (record { place = length (labels_of ts); locals = locals_left ts })) None)) first
    ∙ ap (λ (c : Bool). option_or None (cond c (Some (record { place = length (labels_of ts); locals = locals_left ts })) None)) is))
    (ap (λ (o : Option Trees). locals_on x o (locals_up_to x ts) (Label n l y)) without
    ∙ (ap (λ (c : Bool). if c then locals_up_to x ts else (locals_up_to x ts + 0)) is ∙ ap (λ (k : ℕ). k + 0) count))

next_label : (x : List ℕ) (ts : Trees) (n l : ℕ) (y : List ℕ) → Labelled x ts → Labelled x (snoc ts (Label n l y))
unfolding labels_of inside_of
next_label x ts n l y (unlabelled without first count) = first_here x ts n l y (bytes_eq y x) refl without first count
next_label x ts n l y (labelled part f from first locals inside within) =
    let more : length (labels_of ts ++ record { name = y; locals = locals_left ts } ∷ []) ≡ length (labels_of ts) + 1 = one_more (labels_of ts) (record { name = y; locals = locals_left ts }) in
    labelled (snoc part (Label n l y)) f
    (ap (λ (o : Option Trees). label_on x o (Label n l y)) from)
    (first_pushed x (labels_of ts) (record { name = y; locals = locals_left ts })
    ∙ ap (λ (o : Option FirstLabel). option_or o (cond (bytes_eq y x) (Some (record { place = length (labels_of ts); locals = locals_left ts })) None)) first)
    (locals ∙ sym (ap (λ (o : Option Trees). locals_on x o (locals_up_to x ts) (Label n l y)) from))
    inside
    (let there : f.place < length (labels_of ts ++ record { name = y; locals = locals_left ts } ∷ []) = omega arith in there)

-- a statement that is no label
record IsOther (t : Tree) : Type 0 where
  labels : (before : List BlockLabel) (locals : ℕ) → with_labels before locals t ≡ before
  inside : (i n : ℕ) → inside_with i n t ≡ n
  plain : (x : List ℕ) → is_label_of x t ≡ false
  full : (b : Bool) → void_with b t ≡ false

next_other : (x : List ℕ) (ts : Trees) (t : Tree) → IsOther t → Labelled x ts → Labelled x (snoc ts t)
unfolding labels_of inside_of
next_other x ts t o (unlabelled without first count) = unlabelled
    (ap (λ (w : Option Trees). label_on x w t) without ∙ ap (λ (c : Bool). if c then Some (snoc none t) else None) (o.plain x))
    (ap (first_label x) (o.labels (labels_of ts) (locals_left ts)) ∙ first)
    (ap (λ (w : Option Trees). locals_on x w (locals_up_to x ts) t) without
    ∙ (ap (λ (c : Bool). if c then locals_up_to x ts else (locals_up_to x ts + locals_at t)) (o.plain x)
    ∙ ap (λ (k : ℕ). k + locals_at t) count))
next_other x ts t o (labelled part f from first locals inside within) = labelled (snoc part t) f
    (ap (λ (w : Option Trees). label_on x w t) from)
    (ap (first_label x) (o.labels (labels_of ts) (locals_left ts)) ∙ first)
    (locals ∙ sym (ap (λ (w : Option Trees). locals_on x w (locals_up_to x ts) t) from))
    (ap (nat_lt f.place) (o.inside (inside_of ts) (length (labels_of ts))) ∙ (is_below f.place (length (labels_of ts)) within ∙ sym (ap not (o.full (is_void part)))))
    (subst (λ (ls : List BlockLabel). f.place < length ls) (sym (o.labels (labels_of ts) (locals_left ts))) within)

labelled_is : (x : List ℕ) (ts : Trees) → Labelled x ts
unfolding labels_of inside_of
labelled_is x none = unlabelled refl refl refl
labelled_is x (snoc ts (Label n l y)) = next_label x ts n l y (labelled_is x ts)
labelled_is x (snoc ts t) = next_other x ts t (record { labels = λ b n. refl; inside = λ i n. refl; plain = λ y. refl; full = λ b. refl }) (labelled_is x ts)

-- ---- where the label of a block is

no_target : (x : List ℕ) (inside : ℕ) (ts : Trees) → stats_from x ts ≡ None → target x inside (labels_of ts) ≡ None
no_target x inside ts e = by (labelled_is x ts)
  where
    by : Labelled x ts → target x inside (labels_of ts) ≡ None
    by (unlabelled without first count) = target_is x inside (labels_of ts) ∙ ap (option_map (locals_there inside)) first
    by (labelled part f from first locals within lower) = absurd (let no : None ≡ Some part = sym e ∙ from in cc)

inside_or_outside : (repeats : Bool) (ts part : Trees) (f : FirstLabel) → nat_lt f.place (inside_of ts) ≡ not (is_void part) → f.place < length (labels_of ts)
    → nat_lt f.place (inside_by repeats ts) ≡ not (lies_outside repeats part)
inside_or_outside true ts part f inside within = is_below f.place (length (labels_of ts)) within
inside_or_outside false ts part f inside within = inside

some_target : (x : List ℕ) (repeats : Bool) (ts part : Trees) → stats_from x ts ≡ Some part
    → target x (inside_by repeats ts) (labels_of ts) ≡ Some (if not (lies_outside repeats part) then locals_up_to x ts else 0)
some_target x repeats ts part e = by (labelled_is x ts)
  where
    by : Labelled x ts → target x (inside_by repeats ts) (labels_of ts) ≡ Some (if not (lies_outside repeats part) then locals_up_to x ts else 0)
    by (unlabelled without first count) = absurd (let no : None ≡ Some part = sym without ∙ e in cc)
    by (labelled other f from first locals inside within) =
        let same : other ≡ part = inner other part (sym from ∙ e) in
        target_is x (inside_by repeats ts) (labels_of ts)
        ∙ (ap (option_map (locals_there (inside_by repeats ts))) first
        ∙ (ap (λ (b : Bool). Some (if b then f.locals else 0)) (inside_or_outside repeats ts other f inside within)
        ∙ (ap (λ (p : Trees). Some (if not (lies_outside repeats p) then f.locals else 0)) same
        ∙ ap (λ (n : ℕ). Some (if not (lies_outside repeats part) then n else 0)) locals)))

-- ---- locals between a goto and its label

few_test : (c : Bool) (b n m k : ℕ) → b ≤ n → m ≡ k → (if c then b else (b + m)) ≤ n + k
few_test true b n m k h e = let less : b ≤ n + k = omega arith in less
few_test false b n m k h e = let less : b + m ≤ n + k = omega arith in less

few_next : (x : List ℕ) (o : Option Trees) (b n : ℕ) (t : Tree) → b ≤ n → locals_on x o b t ≤ n + locals_at t
few_next x (Some p) b n t h = let less : b ≤ n + locals_at t = omega arith in less
few_next x None b n t h = few_test (is_label_of x t) b n (locals_at t) (locals_at t) h refl

few : (x : List ℕ) (ts : Trees) → locals_up_to x ts ≤ locals_left ts
few x none = same_size 0
few x (snoc ts t) = few_next x (stats_from x ts) (locals_up_to x ts) (locals_left ts) t (few x ts)

all_there : (x : List ℕ) (ts : Trees) → stats_from x ts ≡ None → locals_up_to x ts ≡ locals_left ts
all_there x ts e = by (labelled_is x ts)
  where
    by : Labelled x ts → locals_up_to x ts ≡ locals_left ts
    by (unlabelled without first count) = count
    by (labelled part f from first locals within lower) = absurd (let no : None ≡ Some part = sym e ∙ from in cc)

known : (x : List ℕ) (before : Trees) (after : List Tree) (p : Trees) → stats_from x before ≡ Some p → locals_up_to x (followed_by before after) ≡ locals_up_to x before
known x before [] p e = refl
known x before (t ∷ ts) p e =
    known x (snoc before t) ts (snoc p t) (ap (λ (o : Option Trees). label_on x o t) e) ∙ ap (λ (o : Option Trees). locals_on x o (locals_up_to x before) t) e

record Between (x : List ℕ) (before : Trees) (after : List Tree) : Type 0 where
  least : locals_left before ≤ locals_up_to x (followed_by before after)
  tells : nat_lt (locals_left before) (locals_up_to x (followed_by before after)) ≡ passes_local x after

is_more : (n d l : ℕ) (p : Bool) → n + d ≤ l → nat_lt (n + d) l ≡ p → nat_lt n l ≡ (nat_lt 0 d || p)
is_more n zero l p h e = ap (λ (m : ℕ). nat_lt m l) (let same : n ≡ n + 0 = omega arith in same) ∙ e
is_more n (suc d) l p h e =
    let less : n < l = omega arith in
    let some : 0 < suc d = omega arith in
    is_below n l less ∙ sym (ap (λ (c : Bool). c || p) (is_below 0 (suc d) some))

between_step : (x : List ℕ) (before : Trees) (t : Tree) (ts : List Tree) (c : Bool) → is_label_of x t ≡ c → stats_from x before ≡ None
    → (stats_from x (snoc before t) ≡ None → Between x (snoc before t) ts) → Between x before (t ∷ ts)
between_step x before t ts true is e next =
    let at_label : locals_up_to x (followed_by (snoc before t) ts) ≡ locals_up_to x (snoc before t) =
    known x (snoc before t) ts (snoc none t) (ap (λ (o : Option Trees). label_on x o t) e ∙ ap (λ (c : Bool). if c then Some (snoc none t) else None) is) in
    let none_more : locals_up_to x (snoc before t) ≡ locals_up_to x before =
    ap (λ (o : Option Trees). locals_on x o (locals_up_to x before) t) e ∙ ap (λ (c : Bool). if c then locals_up_to x before else (locals_up_to x before + locals_at t)) is in
    let same : locals_up_to x (followed_by (snoc before t) ts) ≡ locals_left before = at_label ∙ (none_more ∙ all_there x before e) in
    let least : locals_left before ≤ locals_up_to x (followed_by (snoc before t) ts) = omega arith in
    record {
      least = least;
      tells = not_below (locals_left before) (locals_up_to x (followed_by (snoc before t) ts)) (omega arith)
          ∙ sym (ap (λ (c : Bool). if c then false else (nat_lt 0 (locals_at t) || passes_local x ts)) is);
    }
between_step x before t ts false is e next =
    let b : Between x (snoc before t) ts = next (ap (λ (o : Option Trees). label_on x o t) e ∙ ap (λ (c : Bool). if c then Some (snoc none t) else None) is) in
    let more : locals_left before + locals_at t ≤ locals_up_to x (followed_by (snoc before t) ts) = b.least in
    let least : locals_left before ≤ locals_up_to x (followed_by (snoc before t) ts) = omega arith in
    record {
      least = least;
      tells = is_more (locals_left before) (locals_at t) (locals_up_to x (followed_by (snoc before t) ts)) (passes_local x ts) (omega arith)
          b.tells
          ∙ sym (ap (λ (c : Bool). if c then false else (nat_lt 0 (locals_at t) || passes_local x ts)) is);
    }

between : (x : List ℕ) (before : Trees) (after : List Tree) → stats_from x before ≡ None → Between x before after
between x before [] e =
    let same : locals_up_to x before ≡ locals_left before = all_there x before e in
    let least : locals_left before ≤ locals_up_to x before = omega arith in
    record { least = least; tells = not_below (locals_left before) (locals_up_to x before) (omega arith) }
between x before (t ∷ ts) e = between_step x before t ts (is_label_of x t) refl e (λ without. between x (snoc before t) ts without)

-- ---- what a goto is refused for

refused_outside : (l : ℕ) (x : List ℕ) (e : Enclosing) (es : List Enclosing) → stats_from x (stats_of e) ≡ None → refused l x (e ∷ es) ≡ refused l x es
refused_outside l x e es without = ap (λ (o : Option ℕ). landing l (locals_left e.before) o (refused l x es)) (no_target x (inside_by e.repeats (stats_of e)) (stats_of e) without)

abbrev test_of : ℕ → List ℕ → Enclosing → Bool → Option LoadError
test_of l x e outside = if nat_lt (locals_left e.before) (if not outside then locals_up_to x (stats_of e) else 0) then Some (JumpsIntoLocal l) else None

refused_here : (l : ℕ) (x : List ℕ) (e : Enclosing) (es : List Enclosing) (part : Trees) → stats_from x (stats_of e) ≡ Some part
    → refused l x (e ∷ es) ≡ test_of l x e (lies_outside e.repeats part)
refused_here l x e es part from = ap (λ (o : Option ℕ). landing l (locals_left e.before) o (refused l x es)) (some_target x e.repeats (stats_of e) part from)

-- What is said of the blocks around a goto, and what it is refused for.
pub data Verdict (l : ℕ) (x : List ℕ) (es : List Enclosing) : Type 0 where
  lacks : Nowhere x es → refused l x es ≡ Some (NoLabel l) → Verdict l x es
  lands : Innermost x (Reaches x) es → refused l x es ≡ None → Verdict l x es
  enters : Innermost x (JumpsOver x) es → refused l x es ≡ Some (JumpsIntoLocal l) → Verdict l x es

further : (l : ℕ) (x : List ℕ) (e : Enclosing) (es : List Enclosing) → stats_from x (stats_of e) ≡ None → Verdict l x es → Verdict l x (e ∷ es)
further l x e es without (lacks h r) = lacks (lacking without h) (refused_outside l x e es without ∙ r)
further l x e es without (lands h r) = lands (further_out without h) (refused_outside l x e es without ∙ r)
further l x e es without (enters h r) = enters (further_out without h) (refused_outside l x e es without ∙ r)

at_most : (a b : ℕ) → nat_lt a b ≡ false → b ≤ a
at_most a b e = grind (arith, nat_tests)

more_than : (a b : ℕ) → nat_lt a b ≡ true → a < b
more_than a b e = grind (arith, nat_tests)

-- the goto stands before the label, and a local is declared between
jumps_over : (x : List ℕ) (e : Enclosing) (part : Trees) → lies_outside e.repeats part ≡ false → nat_lt (locals_left e.before) (locals_up_to x (stats_of e)) ≡ true
    → (o : Option Trees) → stats_from x e.before ≡ o → JumpsOver x e part
jumps_over x e part within less None without = record { within = within; behind = without; between = sym (between x e.before e.after without).tells ∙ less }
jumps_over x e part within less (Some p) some =
    let same : locals_up_to x (followed_by e.before e.after) ≡ locals_up_to x e.before = known x e.before e.after p some in
    let most : locals_up_to x e.before ≤ locals_left e.before = few x e.before in
    let more : locals_left e.before < locals_up_to x (followed_by e.before e.after) = more_than (locals_left e.before) (locals_up_to x (stats_of e)) less in
    absurd (omega arith)

by_test : (l : ℕ) (x : List ℕ) (e : Enclosing) (es : List Enclosing) (part : Trees) → stats_from x (stats_of e) ≡ Some part → lies_outside e.repeats part ≡ false
    → (b : Bool) → nat_lt (locals_left e.before) (locals_up_to x (stats_of e)) ≡ b → Verdict l x (e ∷ es)
by_test l x e es part from within true less =
    enters (here part from (jumps_over x e part within less (stats_from x e.before) refl))
    (refused_here l x e es part from ∙ (ap (test_of l x e) within ∙ ap (λ (b : Bool). if b then Some (JumpsIntoLocal l) else None) less))
by_test l x e es part from within false less =
    lands (here part from (inl (at_most (locals_left e.before) (locals_up_to x (stats_of e)) less)))
    (refused_here l x e es part from ∙ (ap (test_of l x e) within ∙ ap (λ (b : Bool). if b then Some (JumpsIntoLocal l) else None) less))

by_side : (l : ℕ) (x : List ℕ) (e : Enclosing) (es : List Enclosing) (part : Trees) → stats_from x (stats_of e) ≡ Some part
    → (outside : Bool) → lies_outside e.repeats part ≡ outside → Verdict l x (e ∷ es)
by_side l x e es part from true outside =
    lands (here part from (inr outside))
    (refused_here l x e es part from ∙ (ap (test_of l x e) outside ∙ ap (λ (b : Bool). if b then Some (JumpsIntoLocal l) else None) (not_below (locals_left e.before) 0 (omega arith))))
by_side l x e es part from false within = by_test l x e es part from within (nat_lt (locals_left e.before) (locals_up_to x (stats_of e))) refl

pub verdict : (l : ℕ) (x : List ℕ) (es : List Enclosing) → Verdict l x es
verdict l x [] = lacks no_block refl
verdict l x (e ∷ es) = by (stats_from x (stats_of e)) refl (verdict l x es)
  where
    by : (o : Option Trees) → stats_from x (stats_of e) ≡ o → Verdict l x es → Verdict l x (e ∷ es)
    by None without v = further l x e es without v
    by (Some part) from v = by_side l x e es part from (lies_outside e.repeats part) refl

pub nowhere_refused : (l : ℕ) (x : List ℕ) (es : List Enclosing) → Nowhere x es → refused l x es ≡ Some (NoLabel l)
nowhere_refused l x [] no_block = refl
nowhere_refused l x (e ∷ es) (lacking without h) = refused_outside l x e es without ∙ nowhere_refused l x es h

pub over_refused : (l : ℕ) (x : List ℕ) (es : List Enclosing) → Innermost x (JumpsOver x) es → refused l x es ≡ Some (JumpsIntoLocal l)
over_refused l x [] over = elim over [ ]
over_refused l x (e ∷ es) (here part from h) =
    refused_here l x e es part from ∙ (ap (test_of l x e) h.within
    ∙ ap (λ (b : Bool). if b then Some (JumpsIntoLocal l) else None) ((between x e.before e.after h.behind).tells ∙ h.between))
over_refused l x (e ∷ es) (further_out without h) = refused_outside l x e es without ∙ over_refused l x es h
