-- Without the numbers of its nodes a walk is refused in the same way.
use Rattle.std.proofs.Common.{◌≡◌, ℕ, zero, suc, ◌+◌, ◌-◌, Bool, if◌then◌else◌, subst, arith, List, [], ◌∷◌, ◌++◌, length, map, reverse, take, Option, Some, None, refl, sym, ap, ◌∙◌, slice_get, option_map}
use Rattle.lua_ast.specs.Tree.{Tree}
use Rattle.lua_ast.specs.Numbers.{without_numbers}
use Rattle.lua_scope.specs.declared.occurrence.Occurrence.{Occurrence}
use Rattle.lua_scope.specs.declared.occurrence.Occurrence.TheVariants as occurrence
use Rattle.lua_scope.specs.declared.occurrence.ScopeKind.{ScopeKind}
use Rattle.lua_scope.specs.declared.occurrence.ScopeKind.TheVariants as kind
use Rattle.lua_scope.specs.declared.frame.Frame.{Frame}
use Rattle.lua_scope.specs.declared.load_error.LoadError.{LoadError}
use Rattle.lua_scope.specs.declared.load_error.LoadError.TheVariants.{BreakOutside, VarargOutside}
use Rattle.std.proofs.lemmas.List.{reverse-append}
use Rattle.lua_scope.specs.Walk.{walked}
use Rattle.lua_scope.specs.Scope.{ScopeState, scope, scope_opened, scope_closed, cut_to, entered, variables_from, first_variable}
use Rattle.lua_scope.specs.Refusals.{first_refusal, refusal_in, jump_in, jump, in_loop_of, in_loop, has_varargs_of, has_varargs, earlier}
use Rattle.lua_scope.proofs.Plain.{ap-both, plain, plain_kind, alike}

abbrev plain_frame : Frame → Frame
plain_frame f = record { kind = plain_kind f.kind; begins = f.begins }

-- Two states that differ in the numbers of nodes and variables alone.
record SameState (a b : ScopeState) : Type 0 where
  variables : length a.variables ≡ length b.variables
  frames : a.frames ≡ map plain_frame b.frames

length-map : {X Y : Type 0} (f : X → Y) (xs : List X) → length (map f xs) ≡ length xs
length-map f [] = refl
length-map f (x ∷ xs) = ap suc (length-map f xs)

map-append : {X Y : Type 0} (f : X → Y) (xs ys : List X) → map f (xs ++ ys) ≡ map f xs ++ map f ys
map-append f [] ys = refl
map-append {Y = Y} f (x ∷ xs) ys = ap (λ (zs : List Y). f x ∷ zs) (map-append f xs ys)

map-take : {X Y : Type 0} (f : X → Y) (n : ℕ) (xs : List X) → map f (take n xs) ≡ take n (map f xs)
map-take f zero xs = refl
map-take f (suc n) [] = refl
map-take {Y = Y} f (suc n) (x ∷ xs) = ap (λ (zs : List Y). f x ∷ zs) (map-take f n xs)

map-get : {X Y : Type 0} (f : X → Y) (xs : List X) (n : ℕ) → slice_get (map f xs) n ≡ option_map f (slice_get xs n)
map-get f [] n = refl
map-get f (x ∷ xs) zero = refl
map-get f (x ∷ xs) (suc n) = map-get f xs n

length-append : {X : Type 0} (xs ys : List X) → length (xs ++ ys) ≡ length xs + length ys
length-append [] ys = omega arith
length-append (x ∷ xs) ys = let e : length (xs ++ ys) ≡ length xs + length ys = length-append xs ys in omega arith

length-numbered : (n : ℕ) (names : List (List ℕ)) → length (variables_from n names) ≡ length names
length-numbered n [] = refl
length-numbered n (x ∷ xs) = ap suc (length-numbered (n + 1) xs)

length-take : {X Y : Type 0} (n : ℕ) (xs : List X) (ys : List Y) → length xs ≡ length ys → length (take n xs) ≡ length (take n ys)
length-take zero xs ys e = refl
length-take (suc n) [] [] e = refl
length-take (suc n) [] (y ∷ ys) e = cc
length-take (suc n) (x ∷ xs) [] e = cc
length-take (suc n) (x ∷ xs) (y ∷ ys) e = let f : length xs ≡ length ys = omega arith in ap suc (length-take n xs ys f)

same-opened : (o : ScopeKind) (a b : ScopeState) → SameState a b → SameState (scope_opened (plain_kind o) a) (scope_opened o b)
same-opened o a b s = record {
  variables = s.variables;
  frames = ap-both (λ (fs : List Frame) (n : ℕ). fs ++ record { kind = plain_kind o; begins = n } ∷ []) s.frames s.variables ∙ sym (map-append plain_frame b.frames (record { kind = o; begins = length b.variables } ∷ []));
}

same-cut : (f : Option Frame) (a b : ScopeState) → SameState a b → SameState (cut_to (option_map plain_frame f) a) (cut_to f b)
same-cut None a b s = s
same-cut (Some f) a b s = record {
  variables = length-take f.begins a.variables b.variables s.variables;
  frames = ap-both (λ (fs : List Frame) (n : ℕ). take (n - 1) fs) s.frames (ap length s.frames ∙ length-map plain_frame b.frames) ∙ sym (map-take plain_frame (length b.frames - 1) b.frames);
}

same-closed : (a b : ScopeState) → SameState a b → SameState (scope_closed a) (scope_closed b)
same-closed a b s =
    let is : slice_get a.frames (length a.frames - 1) ≡ option_map plain_frame (slice_get b.frames (length b.frames - 1)) =
    ap-both (λ (fs : List Frame) (n : ℕ). slice_get fs (n - 1)) s.frames (ap length s.frames ∙ length-map plain_frame b.frames) ∙ map-get plain_frame b.frames (length b.frames - 1) in
    subst (λ (f : Option Frame). SameState (cut_to f a) (scope_closed b)) (sym is) (same-cut (slice_get b.frames (length b.frames - 1)) a b s)

same-entered : (m n : ℕ) (names : List (List ℕ)) (a b : ScopeState) → SameState a b → SameState (entered m names a) (entered n names b)
same-entered m n names a b s = record {
  variables = length-append a.variables (variables_from m names) ∙ ap-both (λ (x y : ℕ). x + y) s.variables (length-numbered m names ∙ sym (length-numbered n names)) ∙ sym (length-append b.variables (variables_from n names));
  frames = s.frames;
}

same-scope : (h : List Occurrence) → SameState (scope (map plain h)) (scope h)
unfolding scope
same-scope [] = record { variables = refl; frames = refl }
same-scope (occurrence.Open o ∷ h) = same-opened o _ _ (same-scope h)
same-scope (occurrence.Close ∷ h) = same-closed _ _ (same-scope h)
same-scope (occurrence.Declare i n ∷ h) = same-scope h
same-scope (occurrence.Enter i names ∷ h) = same-entered (first_variable (map plain h) 0) (first_variable h i) names _ _ (same-scope h)
same-scope (occurrence.Use i x ∷ h) = same-scope h
same-scope (occurrence.Goto l x ∷ h) = same-scope h
same-scope (occurrence.SecondLabel l ∷ h) = same-scope h
same-scope (occurrence.Break l ∷ h) = same-scope h
same-scope (occurrence.Vararg l ∷ h) = same-scope h

-- ---- refusals

jump-one : (l : ℕ) (x : List ℕ) (there : ℕ) (o : ScopeKind) (a b : Option LoadError) → a ≡ b → jump_in l x there (plain_kind o) a ≡ jump_in l x there o b
jump-one l x there (kind.Block labels inside) a b e = ap (jump_in l x there (kind.Block labels inside)) e
jump-one l x there kind.Loop a b e = e
jump-one l x there (kind.Function i vararg) a b e = refl

same-jump : (l : ℕ) (x : List ℕ) (here : ℕ) (fs : List Frame) → jump l x here (map plain_frame fs) ≡ jump l x here fs
same-jump l x here [] = refl
same-jump l x here (f ∷ fs) = jump-one l x (here - f.begins) f.kind _ _ (same-jump l x f.begins fs)

loop-one : (o : ScopeKind) (a b : Bool) → a ≡ b → in_loop_of (plain_kind o) a ≡ in_loop_of o b
loop-one (kind.Block labels inside) a b e = e
loop-one kind.Loop a b e = refl
loop-one (kind.Function i vararg) a b e = refl

same-loop : (fs : List Frame) → in_loop (map plain_frame fs) ≡ in_loop fs
same-loop [] = refl
same-loop (f ∷ fs) = loop-one f.kind _ _ (same-loop fs)

varargs-one : (o : ScopeKind) (a b : Bool) → a ≡ b → has_varargs_of (plain_kind o) a ≡ has_varargs_of o b
varargs-one (kind.Block labels inside) a b e = e
varargs-one kind.Loop a b e = e
varargs-one (kind.Function i vararg) a b e = refl

same-varargs : (fs : List Frame) → has_varargs (map plain_frame fs) ≡ has_varargs fs
same-varargs [] = refl
same-varargs (f ∷ fs) = varargs-one f.kind _ _ (same-varargs fs)

reverse-one : {X : Type 0} (x : X) (xs : List X) → reverse (x ∷ xs) ≡ reverse xs ++ x ∷ []
reverse-one x xs = reverse-append (x ∷ []) xs

map-reverse : {X Y : Type 0} (f : X → Y) (xs : List X) → reverse (map f xs) ≡ map f (reverse xs)
map-reverse f [] = refl
map-reverse {Y = Y} f (x ∷ xs) = reverse-one (f x) (map f xs) ∙ ap (λ (ys : List Y). ys ++ f x ∷ []) (map-reverse f xs) ∙ sym (map-append f (reverse xs) (x ∷ [])) ∙ ap (map f) (sym (reverse-one x xs))

backwards : (a b : ScopeState) → SameState a b → reverse a.frames ≡ map plain_frame (reverse b.frames)
backwards a b s = ap reverse s.frames ∙ map-reverse plain_frame b.frames

same-refusal : (a b : ScopeState) (e : Occurrence) → SameState a b → refusal_in a (plain e) ≡ refusal_in b e
same-refusal a b (occurrence.Open o) s = refl
same-refusal a b occurrence.Close s = refl
same-refusal a b (occurrence.Declare i n) s = refl
same-refusal a b (occurrence.Enter i names) s = refl
same-refusal a b (occurrence.Use i x) s = refl
same-refusal a b (occurrence.Goto l x) s = ap-both (λ (n : ℕ) (fs : List Frame). jump l x n fs) s.variables (backwards a b s) ∙ same-jump l x (length b.variables) (reverse b.frames)
same-refusal a b (occurrence.SecondLabel l) s = refl
same-refusal a b (occurrence.Break l) s = ap (λ (c : Bool). if c then None else Some (BreakOutside l)) (ap in_loop (backwards a b s) ∙ same-loop (reverse b.frames))
same-refusal a b (occurrence.Vararg l) s = ap (λ (c : Bool). if c then None else Some (VarargOutside l)) (ap has_varargs (backwards a b s) ∙ same-varargs (reverse b.frames))

same-first : (h : List Occurrence) → first_refusal (map plain h) ≡ first_refusal h
unfolding first_refusal
same-first [] = refl
same-first (e ∷ h) = ap-both (λ (r t : Option LoadError). earlier r t) (same-first h) (same-refusal (scope (map plain h)) (scope h) e (same-scope h))

-- A text is refused by its tree, with whatever numbers.
pub numbers_refuse_nothing : (t : Tree) → first_refusal (walked [] (without_numbers t)) ≡ first_refusal (walked [] t)
numbers_refuse_nothing t = ap first_refusal (alike t [] [] refl) ∙ same-first (walked [] t)
