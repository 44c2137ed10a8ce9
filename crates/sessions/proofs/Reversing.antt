-- Lists that are taken from the end.
use Rattle.std.proofs.Common.{◌≡◌, ◌++◌, List, [], ◌∷◌, reverse, ap, sym, ◌∙◌, append_assoc}
use Rattle.std.proofs.lemmas.List.{reverse-append}

-- one more taken, and put last
pub reversed_more : {X : Type 0} (all left rest done : List X) (x : X) → all ≡ left ++ reverse done → left ≡ rest ++ x ∷ [] → all ≡ rest ++ reverse (done ++ x ∷ [])
reversed_more {X = X} all left rest done x is last =
    is ∙ (ap (λ (l : List X). l ++ reverse done) last ∙ (append_assoc rest (x ∷ []) (reverse done) ∙ ap (λ (l : List X). rest ++ l) (sym (reverse-append done (x ∷ [])))))

-- the last is the first of the list in order
pub reversed_last : {X : Type 0} (all rest : List X) (x : X) → all ≡ rest ++ x ∷ [] → reverse all ≡ x ∷ reverse rest
reversed_last all rest x is = ap reverse is ∙ reverse-append rest (x ∷ [])
