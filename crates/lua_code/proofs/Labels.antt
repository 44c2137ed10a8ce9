-- The labels of a block in the meaning are those of the scope rules.
use Rattle.std.specs.Prelude.{◌≡◌, ℕ, ◌+◌, Bool, if◌then◌else◌, List, Option, Some, None, refl}
use Rattle.std.proofs.Common.{ap, ◌∙◌}
use Rattle.lua_ast.specs.Tree.{Tree, Label, Local, Trees, none, snoc}
use Rattle.lua_meaning.specs.Code.{is_label, label_next, from_label, locals_declared, locals_next, locals_before}
use Rattle.lua_scope.specs.Labels.{locals_at}
use Rattle.lua_scope.specs.Jumps.{is_label_of, label_on, stats_from, locals_on, locals_up_to}

same_label : (x : List ℕ) (t : Tree) → is_label x t ≡ is_label_of x t
same_label x (Label n l y) = refl
same_label x t = refl

same_locals : (t : Tree) → locals_declared t ≡ locals_at t
same_locals (Local n l names exps) = refl
same_locals t = refl

same_on : (x : List ℕ) (o : Option Trees) (t : Tree) → label_next x o t ≡ label_on x o t
same_on x (Some part) t = refl
same_on x None t = ap (λ (b : Bool). if b then Some (snoc none t) else None) (same_label x t)

pub same_from : (x : List ℕ) (ts : Trees) → from_label x ts ≡ stats_from x ts
same_from x none = refl
same_from x (snoc ts t) = ap (λ (o : Option Trees). label_next x o t) (same_from x ts) ∙ same_on x (stats_from x ts) t

same_next : (x : List ℕ) (o : Option Trees) (n : ℕ) (t : Tree) → locals_next x o n t ≡ locals_on x o n t
same_next x (Some part) n t = refl
same_next x None n t =
    ap (λ (b : Bool). if b then n else (n + locals_declared t)) (same_label x t) ∙ ap (λ (k : ℕ). if is_label_of x t then n else (n + k)) (same_locals t)

pub same_before : (x : List ℕ) (ts : Trees) → locals_before x ts ≡ locals_up_to x ts
same_before x none = refl
same_before x (snoc ts t) =
    ap (λ (o : Option Trees). locals_next x o (locals_before x ts) t) (same_from x ts)
    ∙ (ap (λ (n : ℕ). locals_next x (stats_from x ts) n t) (same_before x ts) ∙ same_next x (stats_from x ts) (locals_up_to x ts) t)
