-- Short lists of nodes.
use Rattle.std.specs.Prelude.{◌≡◌, ℕ, List, [], ◌∷◌, ◌++◌, ◌+◌, length, refl}
use Rattle.std.proofs.Common.{length-append, sym, ap, ◌∙◌}
use Rattle.lua_ast.specs.Tree.{Tree, none, snoc, no_case}
use Rattle.lua_ast.specs.Decode.{list_of, cases_of}

pub list_of_none : (part : ℕ → Tree) → list_of part [] ≡ none
unfolding list_of
list_of_none part = refl

pub one_of : (part : ℕ → Tree) (i : ℕ) → list_of part ([] ++ i ∷ []) ≡ snoc none (part i)
unfolding list_of
one_of part i = refl

pub cases_of_none : (part : ℕ → Tree) → cases_of part [] [] ≡ no_case
unfolding cases_of
cases_of_none part = refl

pub length_push : (is js : List ℕ) (i j : ℕ) → length is ≡ length js → length (is ++ i ∷ []) ≡ length (js ++ j ∷ [])
length_push is js i j e = length-append is (i ∷ []) ∙ ap (λ (n : ℕ). n + 1) e ∙ sym (length-append js (j ∷ []))
