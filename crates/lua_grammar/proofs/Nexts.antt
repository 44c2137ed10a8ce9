-- What comes after a statement, and the states in which one is over.
use Rattle.std.specs.Prelude.{◌≡◌, ℕ, Bool, true, false, cond, List, [], ◌∷◌, Option, Some, None, refl}
use Rattle.std.proofs.Common.{sym, ◌∙◌, ap, subst, arith}
use Rattle.lua_ast.specs.Tree as tree
use Rattle.lua_ast.specs.Tree.{Tree, Trees, none, snoc, Cases, case, absent, Fields, line_of}
use Rattle.lua_grammar.specs.Kinds as kind
use Rattle.lua_grammar.specs.Signs.{Terminal, Attributes, Sign, sign, line_at}
use Rattle.lua_grammar.specs.Operators.{operator_of}
use Rattle.lua_grammar.specs.Grammar.{Apart, is_call, ends_open, is_separator, Prefix, name, paren, dot, index, call, method, Body, body, Targets, target, targets, Stat, assign, call_stat, label, break, goto, do_block, while, repeat, if_end, if_else, num_for, num_for_step, gen_for, named_function, method_function, local_function, local, local_exps, Conds, first_cond, next_cond, Stats, no_stats, semicolon, stat}
use Rattle.lua_grammar.specs.Pushdown.{Begun, begun, add, block_of, Purpose, assigned, Frame, InLocal, InStat, InAssign, InReturn, InIfTest, InThen, InElse, State, Need, Have, FieldNext, BlockNext, StatNext, LocalNames, PathNext, BodyNext, ReturnNext, BlockEnd, opened, begin, end_block, next, field_done, close, rest, local_names, is_end, return_next, step_from, steps}
use Rattle.lua_grammar.proofs.Basics.{size_of, is_suffix, FollowsBy, FollowsTerminal, Follows, if_true, prefix_open, leave}
use Rattle.lua_grammar.proofs.Starting.{is_assign, NoAssign}

-- May come after a statement.
abbrev pub is_next : Terminal → Bool
is_next kind.Semicolon = true
is_next kind.Name = true
is_next kind.OpenParen = true
is_next kind.DoubleColon = true
is_next kind.Break = true
is_next kind.Goto = true
is_next kind.Do = true
is_next kind.While = true
is_next kind.Repeat = true
is_next kind.If = true
is_next kind.For = true
is_next kind.Function = true
is_next kind.Local = true
is_next kind.Return = true
is_next kind.End = true
is_next kind.Else = true
is_next kind.Elseif = true
is_next kind.Until = true
is_next kind.EndOfText = true
is_next _ = false

abbrev pub is_open : Terminal → Bool
is_open kind.OpenParen = true
is_open _ = false

abbrev pub AfterTerminal : Bool → Terminal → Type 0
AfterTerminal b m = (is_next m ≡ true) × (b ≡ true → is_open m ≡ false)

-- May come after a statement, where b says whether it ends in a prefix.
abbrev pub After : Bool → List Sign → Type 0
After b [] = ⊥
After b (sign m i ∷ y) = AfterTerminal b m

next_operator : (m : Terminal) → is_next m ≡ true → operator_of m ≡ None
next_operator kind.Or h = cc
next_operator kind.And h = cc
next_operator kind.Less h = cc
next_operator kind.Greater h = cc
next_operator kind.LessEqual h = cc
next_operator kind.GreaterEqual h = cc
next_operator kind.NotEqual h = cc
next_operator kind.Equal h = cc
next_operator kind.Concat h = cc
next_operator kind.Plus h = cc
next_operator kind.Minus h = cc
next_operator kind.Star h = cc
next_operator kind.Slash h = cc
next_operator kind.Percent h = cc
next_operator kind.Caret h = cc
next_operator _ h = refl

next_suffix : (m : Terminal) → is_next m ≡ true → is_open m ≡ false → is_suffix m ≡ false
next_suffix kind.Dot h i = cc
next_suffix kind.Colon h i = cc
next_suffix kind.OpenBracket h i = cc
next_suffix kind.OpenParen h i = cc
next_suffix kind.OpenBrace h i = cc
next_suffix kind.Text h i = cc
next_suffix _ h i = refl

pub next_follows : (n : ℕ) (b : Bool) (m : Terminal) → AfterTerminal b m → FollowsTerminal n b m
next_follows n b m h = (subst (FollowsBy n) (sym (next_operator m h.0)) tt, λ e. next_suffix m h.0 (h.1 e))

pub after_follows : (n : ℕ) (b : Bool) (y : List Sign) → After b y → Follows n b y
after_follows n b [] h = h
after_follows n b (sign m i ∷ y) h = next_follows n b m h

pub end_next : (m : Terminal) → is_end m ≡ true → (is_next m ≡ true) × (is_open m ≡ false)
end_next kind.End h = (refl, refl)
end_next kind.Else h = (refl, refl)
end_next kind.Elseif h = (refl, refl)
end_next kind.Until h = (refl, refl)
end_next kind.EndOfText h = (refl, refl)
end_next _ h = absurd (cc)

abbrev pub Ends : List Sign → Type 0
Ends [] = ⊥
Ends (sign m i ∷ y) = is_end m ≡ true

pub ends_after : (b : Bool) (y : List Sign) → Ends y → After b y
ends_after b [] h = h
ends_after b (sign m i ∷ y) h = ((end_next m h).0, λ _. (end_next m h).1)

-- A statement that is over where the next one begins or the block ends.
local_by : (l : ℕ) (ns : List (List ℕ)) (b : Begun) (k : List Frame) (m : Terminal) (i : Attributes) → is_next m ≡ true → local_names l ns b k m i ≡ next (add b (tree.Local 0 l ns none)) k m i
local_by l ns b k kind.Comma i h = cc
local_by l ns b k kind.Assign i h = cc
local_by l ns b k _ i h = refl

pub local_end : (l : ℕ) (ns : List (List ℕ)) (b : Begun) (k : List Frame) (y : List Sign) → After false y →
    steps y (Some (LocalNames l ns b k)) ≡ steps y (Some (StatNext (add b (tree.Local 0 l ns none)) k))
local_end l ns b k [] h = absurd h
local_end l ns b k (sign m i ∷ y) h = ap (steps y) (local_by l ns b k m i h.0)

pub local_exps_by : (l : ℕ) (ns : List (List ℕ)) (es : Trees) (b : Begun) (t : Tree) (k : List Frame) (m : Terminal) (i : Attributes) → is_next m ≡ true →
    close (InLocal l ns es b) t k m i ≡ next (add b (tree.Local 0 l ns (snoc es t))) k m i
local_exps_by l ns es b t k kind.Comma i h = cc
local_exps_by l ns es b t k _ i h = refl

pub assign_by : (l : ℕ) (ts es : Trees) (b : Begun) (t : Tree) (k : List Frame) (m : Terminal) (i : Attributes) → is_next m ≡ true →
    close (InAssign l ts es b) t k m i ≡ next (add b (tree.Assign 0 l ts (snoc es t))) k m i
assign_by l ts es b t k kind.Comma i h = cc
assign_by l ts es b t k _ i h = refl

pub call_by : (b : Begun) (t : Tree) (k : List Frame) (m : Terminal) (i : Attributes) → is_next m ≡ true → is_call t ≡ true →
    close (InStat b) t k m i ≡ next (add b (tree.CallStat 0 (line_of t) t)) k m i
call_by b t k kind.Assign i h e = cc
call_by b t k kind.Comma i h e = cc
call_by b t k m i h e = ap (λ c. cond c (next (add b (tree.CallStat 0 (line_of t) t)) k m i) None) e

-- The statement that the frame is in is over.
pub over : (f : Frame) (t u : Tree) (b : Begun) (k : List Frame) (p : ℕ) (y : List Sign) → After (ends_open t) y →
    ((m : Terminal) (i : Attributes) → rest (f ∷ k) t m i ≡ close f t k m i) →
    ((m : Terminal) (i : Attributes) → is_next m ≡ true → close f t k m i ≡ next (add b u) k m i) →
    steps y (Some (Have p t (f ∷ k))) ≡ steps y (Some (StatNext (add b u) k))
over f t u b k p [] h g j = absurd h
over f t u b k p (sign m i ∷ y) h g j =
    let w = next_follows 0 (ends_open t) m h in
    ap (steps y) (leave p t (f ∷ k) m i 0 (rest (f ∷ k) t m i) w.0 (λ e. w.1 (prefix_open t e)) (λ op e. absurd (let z = (size_of op).least in omega arith)) ∙ g m i ∙ j m i h.0)

-- What begins a statement.
abbrev pub Next : List Sign → Type 0
Next [] = ⊥
Next (sign m i ∷ y) = is_next m ≡ true

prefix_next : {d : ℕ} {x y : List Sign} {t : Tree} → Prefix d x y t → Next x
prefix_next name = refl
prefix_next (paren _ _) = refl
prefix_next (dot p) = prefix_next p
prefix_next (index p _ _) = prefix_next p
prefix_next (call p _) = prefix_next p
prefix_next (method p _) = prefix_next p

targets_next : {d l : ℕ} {x y : List Sign} {ts : Trees} → Targets d l x y ts → Next x
targets_next (target p _) = prefix_next p
targets_next (targets vs _ _) = targets_next vs

conds_next : {d l : ℕ} {x y : List Sign} {cs : Cases} → Conds d l x y cs → Next x
conds_next (first_cond _ _ _) = refl
conds_next (next_cond cs _ _ _) = conds_next cs

pub stat_next : {d : ℕ} {o : Bool} {x y : List Sign} {t : Tree} → Stat d x y t o → Next x
stat_next (assign vs _) = targets_next vs
stat_next (call_stat p _) = prefix_next p
stat_next label = refl
stat_next break = refl
stat_next goto = refl
stat_next (do_block _ _) = refl
stat_next (while _ _ _) = refl
stat_next (repeat _ _ _) = refl
stat_next (if_end cs) = conds_next cs
stat_next (if_else cs _ _) = conds_next cs
stat_next (num_for _ _ _ _) = refl
stat_next (num_for_step _ _ _ _ _) = refl
stat_next (gen_for _ _ _ _) = refl
stat_next (named_function _ _ _) = refl
stat_next (method_function _ _ _) = refl
stat_next (local_function _ _) = refl
stat_next (local _) = refl
stat_next (local_exps _ _) = refl

apart_by : (o : Bool) (m : Terminal) (i : Attributes) (y : List Sign) → Apart o (sign m i ∷ y) → o ≡ true → is_open m ≡ false
apart_by true kind.OpenParen i y h e = absurd h
apart_by true _ i y h e = refl
apart_by false m i y h e = cc

pub apart_after : (o : Bool) (y : List Sign) → Apart o y → Next y → After o y
apart_after o [] h n = n
apart_after o (sign m i ∷ y) h n = (n, apart_by o m i y h)

-- There is a sign.
abbrev pub IsThere : List Sign → Type 0
IsThere [] = ⊥
IsThere (_ ∷ _) = Unit {0}

next_there : (y : List Sign) → Next y → IsThere y
next_there [] h = h
next_there (_ ∷ _) h = tt

pub ends_there : (y : List Sign) → Ends y → IsThere y
ends_there [] h = h
ends_there (_ ∷ _) h = tt

pub stats_there : {d : ℕ} {o : Bool} {x y : List Sign} {ts : Trees} → Stats d x y ts o → IsThere y → IsThere x
stats_there no_stats h = h
stats_there (semicolon ss) h = stats_there ss tt
stats_there (stat {y = y} ss _ st) h = stats_there ss (next_there y (stat_next st))

pub block_start : (x : List Sign) (k : List Frame) → IsThere x → steps x (Some (BlockNext k)) ≡ steps x (Some (StatNext (begun (line_at x)) k))
block_start [] k h = absurd h
block_start (sign m i ∷ x) k h = refl

-- The block ends here.
abbrev pub end_steps : List Frame → Tree → List Sign → Option State
end_steps k t [] = None
end_steps k t (sign m i ∷ y) = steps y (end_block k t m i)

pub stats_end_by : (b : Begun) (k : List Frame) (m : Terminal) (i : Attributes) → is_end m ≡ true → next b k m i ≡ end_block k (block_of b) m i
stats_end_by b k kind.End i h = refl
stats_end_by b k kind.Else i h = refl
stats_end_by b k kind.Elseif i h = refl
stats_end_by b k kind.Until i h = refl
stats_end_by b k kind.EndOfText i h = refl
stats_end_by b k _ i h = cc

pub stats_end : (b : Begun) (k : List Frame) (y : List Sign) → Ends y → steps y (Some (StatNext b k)) ≡ end_steps k (block_of b) y
stats_end b k [] h = absurd h
stats_end b k (sign m i ∷ y) h = ap (steps y) (stats_end_by b k m i h)

return_end_by : (l : ℕ) (b : Begun) (k : List Frame) (m : Terminal) (i : Attributes) → is_end m ≡ true → return_next l b k m i ≡ end_block k (block_of (add b (tree.Return 0 l none))) m i
return_end_by l b k kind.Semicolon i h = cc
return_end_by l b k m i h = if_true (is_end m) (end_block k (block_of (add b (tree.Return 0 l none))) m i) (begin 0 (InReturn l none b ∷ k) m i) h

pub return_end : (l : ℕ) (b : Begun) (k : List Frame) (y : List Sign) → Ends y → steps y (Some (ReturnNext l b k)) ≡ end_steps k (block_of (add b (tree.Return 0 l none))) y
return_end l b k [] h = absurd h
return_end l b k (sign m i ∷ y) h = ap (steps y) (return_end_by l b k m i h)

pub block_end : (b : Begun) (k : List Frame) (y : List Sign) → Ends y → steps y (Some (BlockEnd b k)) ≡ end_steps k (block_of b) y
block_end b k [] h = absurd h
block_end b k (sign m i ∷ y) h = refl

exps_end_by : (l : ℕ) (es : Trees) (b : Begun) (t : Tree) (k : List Frame) (m : Terminal) (i : Attributes) → is_end m ≡ true →
    close (InReturn l es b) t k m i ≡ end_block k (block_of (add b (tree.Return 0 l (snoc es t)))) m i
exps_end_by l es b t k kind.Comma i h = cc
exps_end_by l es b t k kind.Semicolon i h = cc
exps_end_by l es b t k _ i h = refl

pub exps_end : (l : ℕ) (es : Trees) (b : Begun) (t : Tree) (k : List Frame) (y : List Sign) → Ends y →
    steps y (Some (Have 0 t (InReturn l es b ∷ k))) ≡ end_steps k (block_of (add b (tree.Return 0 l (snoc es t)))) y
exps_end l es b t k [] h = absurd h
exps_end l es b t k (sign m i ∷ y) h =
    let w = next_follows 0 (ends_open t) m ((end_next m h).0, λ _. (end_next m h).1) in
    ap (steps y) (leave 0 t (InReturn l es b ∷ k) m i 0 (rest (InReturn l es b ∷ k) t m i) w.0 (λ e. w.1 (prefix_open t e)) (λ op e. absurd (let z = (size_of op).least in omega arith)) ∙ exps_end_by l es b t k m i h)

pub ends_no_assign : (y : List Sign) → Ends y → NoAssign y
ends_no_assign [] h = h
ends_no_assign (sign m i ∷ y) h = by m h where
  by : (m : Terminal) → is_end m ≡ true → is_assign m ≡ false
  by kind.Assign h = cc
  by _ h = refl

-- The conditions so far end with a block, and this comes after it.
abbrev pub conds_end : ℕ → Cases → Begun → List Frame → Terminal → Attributes → Option State
conds_end l cs b k kind.End i = Some (StatNext (add b (tree.If 0 l cs absent)) k)
conds_end l cs b k kind.Elseif i = Some (Need 0 (InIfTest l cs b ∷ k))
conds_end l cs b k kind.Else i = opened k i (BlockNext (InElse l cs b ∷ k))
conds_end l cs b k _ i = None

abbrev pub conds_steps : ℕ → Cases → Begun → List Frame → List Sign → Option State
conds_steps l cs b k [] = None
conds_steps l cs b k (sign m i ∷ y) = steps y (conds_end l cs b k m i)

then_by : (l : ℕ) (cs : Cases) (e : Tree) (b : Begun) (t : Tree) (k : List Frame) (m : Terminal) (i : Attributes) → end_block (InThen l cs e b ∷ k) t m i ≡ conds_end l (case cs e t) b k m i
then_by l cs e b t k kind.End i = refl
then_by l cs e b t k kind.Elseif i = refl
then_by l cs e b t k kind.Else i = refl
then_by l cs e b t k _ i = refl

pub then_end : (l : ℕ) (cs : Cases) (e : Tree) (b : Begun) (t : Tree) (k : List Frame) (y : List Sign) → end_steps (InThen l cs e b ∷ k) t y ≡ conds_steps l (case cs e t) b k y
then_end l cs e b t k [] = refl
then_end l cs e b t k (sign m i ∷ y) = ap (steps y) (then_by l cs e b t k m i)

-- What ends a field.
abbrev pub ends_field : Terminal → Bool
ends_field kind.CloseBrace = true
ends_field m = is_separator m

pub field_follows : (m : Terminal) (b : Bool) → ends_field m ≡ true → FollowsTerminal 0 b m
field_follows kind.CloseBrace b h = (tt, λ _. refl)
field_follows kind.Comma b h = (tt, λ _. refl)
field_follows kind.Semicolon b h = (tt, λ _. refl)
field_follows _ b h = absurd (cc)

pub field_over : (f : Frame) (t : Tree) (k : List Frame) (m : Terminal) (i : Attributes) → ends_field m ≡ true → ((m : Terminal) (i : Attributes) → rest (f ∷ k) t m i ≡ close f t k m i) →
    step_from (Have 0 t (f ∷ k)) m i ≡ close f t k m i
field_over f t k kind.CloseBrace i h g = g kind.CloseBrace i
field_over f t k kind.Comma i h g = g kind.Comma i
field_over f t k kind.Semicolon i h g = g kind.Semicolon i
field_over f t k _ i h g = absurd (cc)

pub separator_ends : (m : Terminal) → is_separator m ≡ true → ends_field m ≡ true
separator_ends kind.CloseBrace h = cc
separator_ends _ h = h

pub separated_done : (u : Purpose) (l : ℕ) (fs : Fields) (k : List Frame) (m : Terminal) → is_separator m ≡ true → field_done u l fs k m ≡ Some (FieldNext u l fs k)
separated_done u l fs k kind.Comma h = refl
separated_done u l fs k kind.Semicolon h = refl
separated_done u l fs k _ h = cc

pub field_no_assign : (m : Terminal) → ends_field m ≡ true → is_assign m ≡ false
field_no_assign kind.Assign h = cc
field_no_assign _ h = refl

body_path_by : {d line : ℕ} {given : List (List ℕ)} {x y : List Sign} {f : Tree} → Body d given line x y f → (l : ℕ) (t : Tree) (b : Begun) (k : List Frame) → steps x (Some (PathNext l t b k)) ≡ steps x (Some (BodyNext (assigned l t [] b) k))
body_path_by (body _ _ _) l t b k = refl

-- The path of a named function is over where its parameters begin.
pub path_end : {d line : ℕ} {given : List (List ℕ)} {z : List Sign} {f : Tree} (t : Tree) (y : List Sign) (l : ℕ) (b : Begun) (k : List Frame) → Body d given line y z f →
    steps y (Some (PathNext l t b k)) ≡ steps y (Some (BodyNext (assigned l t [] b) k))
path_end t y l b k f = body_path_by f l t b k
