-- What a text has at one place means there what it means.
use Rattle.std.specs.Prelude.{◌≡◌, ℕ, ◌==◌, Bool, false, if◌then◌else◌, List, [], ◌∷◌, ◌++◌, Some, refl}
use Rattle.std.specs.List.{AllByRecursion, IsDistinct}
use Rattle.std.proofs.Common.{ap, ◌∙◌, sym, subst}
use Rattle.std.proofs.lemmas.Map.Keys.{IsDistinct-head, IsDistinct-tail}
use Rattle.lua_scope.specs.declared.occurrence.Occurrence.{Occurrence}
use Rattle.lua_scope.specs.declared.place.Place.{Place}
use Rattle.lua_scope.specs.declared.occurrence.Occurrence.TheVariants as occurrence
use Rattle.lua_scope.specs.Scope.{declared, first_variable}
use Rattle.lua_scope.specs.Variables.{meaning, variable_of, place_of_name, place_by}
use Rattle.lua_ast.specs.Decode.{ChunkNodes}
use Rattle.lua_ast.specs.Once.{IsEachOnce}
use Rattle.lua_scope.specs.OfChunk.{occurrences_of}
use Rattle.lua_scope.proofs.ToldOnce.{told_once}
use Rattle.lua_scope.specs.Meets.{Meets}
use Rattle.lua_scope.proofs.TellsOnce.{node_of, nodes_of, same_number, same_itself, TellsOnce}

-- a number that differs from all that a walk tells of differs from each of them
told_apart : (j i : ℕ) (e : Occurrence) (after before : List Occurrence) → node_of e ≡ Some i → AllByRecursion (λ k. (j == k) ≡ false) (nodes_of (after ++ e ∷ before)) → (j == i) ≡ false
told_apart j i (occurrence.Declare k _) [] before is h =
    let same : k ≡ i = cc in subst (λ (m : ℕ). (j == m) ≡ false) same h.0
told_apart j i (occurrence.Use k _) [] before is h =
    let same : k ≡ i = cc in subst (λ (m : ℕ). (j == m) ≡ false) same h.0
told_apart j i (occurrence.Open _) [] before is h = absurd cc
told_apart j i occurrence.Close [] before is h = absurd cc
told_apart j i (occurrence.Enter _ _) [] before is h = absurd cc
told_apart j i (occurrence.Goto _ _) [] before is h = absurd cc
told_apart j i (occurrence.SecondLabel _) [] before is h = absurd cc
told_apart j i (occurrence.Break _) [] before is h = absurd cc
told_apart j i (occurrence.Vararg _) [] before is h = absurd cc
told_apart j i e (occurrence.Declare k _ ∷ after) before is h = told_apart j i e after before is h.1
told_apart j i e (occurrence.Use k _ ∷ after) before is h = told_apart j i e after before is h.1
told_apart j i e (occurrence.Open _ ∷ after) before is h = told_apart j i e after before is h
told_apart j i e (occurrence.Close ∷ after) before is h = told_apart j i e after before is h
told_apart j i e (occurrence.Enter _ _ ∷ after) before is h = told_apart j i e after before is h
told_apart j i e (occurrence.Goto _ _ ∷ after) before is h = told_apart j i e after before is h
told_apart j i e (occurrence.SecondLabel _ ∷ after) before is h = told_apart j i e after before is h
told_apart j i e (occurrence.Break _ ∷ after) before is h = told_apart j i e after before is h
told_apart j i e (occurrence.Vararg _ ∷ after) before is h = told_apart j i e after before is h

rest_once : (j : ℕ) (h : List Occurrence) → IsDistinct same_number (j ∷ nodes_of h) → TellsOnce h
rest_once j h d = IsDistinct-tail same_number j (nodes_of h) d

-- a Name means what its name means where it stands
variable_there : (i : ℕ) (x : List ℕ) (after before : List Occurrence) → TellsOnce (after ++ occurrence.Use i x ∷ before) → variable_of (after ++ occurrence.Use i x ∷ before) i ≡ meaning before x
unfolding variable_of
variable_there i x [] before h = ap (λ (b : Bool). (if b then meaning before x else variable_of before i)) (same_itself i)
variable_there i x (occurrence.Use j y ∷ after) before h =
    ap (λ (b : Bool). (if b then meaning (after ++ occurrence.Use i x ∷ before) y else variable_of (after ++ occurrence.Use i x ∷ before) i)) (told_apart j i (occurrence.Use i x) after before refl (IsDistinct-head same_number j (nodes_of (after ++ occurrence.Use i x ∷ before)) h))
    ∙ variable_there i x after before (rest_once j (after ++ occurrence.Use i x ∷ before) h)
variable_there i x (occurrence.Declare j n ∷ after) before h = variable_there i x after before (rest_once j (after ++ occurrence.Use i x ∷ before) h)
variable_there i x (occurrence.Open _ ∷ after) before h = variable_there i x after before h
variable_there i x (occurrence.Close ∷ after) before h = variable_there i x after before h
variable_there i x (occurrence.Enter _ _ ∷ after) before h = variable_there i x after before h
variable_there i x (occurrence.Goto _ _ ∷ after) before h = variable_there i x after before h
variable_there i x (occurrence.SecondLabel _ ∷ after) before h = variable_there i x after before h
variable_there i x (occurrence.Break _ ∷ after) before h = variable_there i x after before h
variable_there i x (occurrence.Vararg _ ∷ after) before h = variable_there i x after before h

name_there : (i : ℕ) (x : List ℕ) (whole before : List Occurrence) → TellsOnce whole → Meets whole before (occurrence.Use i x) → variable_of whole i ≡ meaning before x
name_there i x whole before once m =
    ap (λ (h : List Occurrence). variable_of h i) (sym m.joined) ∙ variable_there i x m.after before (subst TellsOnce (sym m.joined) once)

-- a node's first variable has as its number how many were named before it
first_there : (i n : ℕ) (after before : List Occurrence) → TellsOnce (after ++ occurrence.Declare i n ∷ before) → first_variable (after ++ occurrence.Declare i n ∷ before) i ≡ declared before
unfolding first_variable
first_there i n [] before h = ap (λ (b : Bool). (if b then declared before else first_variable before i)) (same_itself i)
first_there i n (occurrence.Declare j m ∷ after) before h =
    ap (λ (b : Bool). (if b then declared (after ++ occurrence.Declare i n ∷ before) else first_variable (after ++ occurrence.Declare i n ∷ before) i)) (told_apart j i (occurrence.Declare i n) after before refl (IsDistinct-head same_number j (nodes_of (after ++ occurrence.Declare i n ∷ before)) h))
    ∙ first_there i n after before (rest_once j (after ++ occurrence.Declare i n ∷ before) h)
first_there i n (occurrence.Use j y ∷ after) before h = first_there i n after before (rest_once j (after ++ occurrence.Declare i n ∷ before) h)
first_there i n (occurrence.Open _ ∷ after) before h = first_there i n after before h
first_there i n (occurrence.Close ∷ after) before h = first_there i n after before h
first_there i n (occurrence.Enter _ _ ∷ after) before h = first_there i n after before h
first_there i n (occurrence.Goto _ _ ∷ after) before h = first_there i n after before h
first_there i n (occurrence.SecondLabel _ ∷ after) before h = first_there i n after before h
first_there i n (occurrence.Break _ ∷ after) before h = first_there i n after before h
first_there i n (occurrence.Vararg _ ∷ after) before h = first_there i n after before h

declared_there : (i n : ℕ) (whole before : List Occurrence) → TellsOnce whole → Meets whole before (occurrence.Declare i n) → first_variable whole i ≡ declared before
declared_there i n whole before once m =
    ap (λ (h : List Occurrence). first_variable h i) (sym m.joined) ∙ first_there i n m.after before (subst TellsOnce (sym m.joined) once)

-- of a chunk in whose tree each node stands once
place_there : (c : ChunkNodes) (i : ℕ) → IsEachOnce c → (x : List ℕ) (before : List Occurrence) → Meets (occurrences_of c) before (occurrence.Use i x) → place_of_name (occurrences_of c) i ≡ place_by (occurrences_of c) (meaning before x)
place_there c i each x before m = ap (place_by (occurrences_of c)) (name_there i x (occurrences_of c) before (told_once c each) m)

first_variable_there : (c : ChunkNodes) (i : ℕ) → IsEachOnce c → (n : ℕ) (before : List Occurrence) → Meets (occurrences_of c) before (occurrence.Declare i n) → first_variable (occurrences_of c) i ≡ declared before
first_variable_there c i each n before m = declared_there i n (occurrences_of c) before (told_once c each) m

-- the same of an answer
pub place_found : (place : Place) (c : ChunkNodes) (i : ℕ) → IsEachOnce c → place ≡ place_of_name (occurrences_of c) i
    → (x : List ℕ) (before : List Occurrence) → Meets (occurrences_of c) before (occurrence.Use i x) → place ≡ place_by (occurrences_of c) (meaning before x)
place_found place c i each is x before m = is ∙ place_there c i each x before m

pub number_found : (number : ℕ) (c : ChunkNodes) (i : ℕ) → IsEachOnce c → number ≡ first_variable (occurrences_of c) i
    → (n : ℕ) (before : List Occurrence) → Meets (occurrences_of c) before (occurrence.Declare i n) → number ≡ declared before
number_found number c i each is n before m = is ∙ first_variable_there c i each n before m
