-- A list walked through from its end.
use Rattle.std.specs.Prelude.{◌≡◌, List, [], ◌∷◌, reverse}
use Rattle.std.specs.List.{push}
use Rattle.std.proofs.lemmas.List.{reverse-append}

pub reverse_push : {X : Type 0} (xs : List X) (x : X) → reverse (push xs x) ≡ x ∷ reverse xs
reverse_push xs x = reverse-append xs (x ∷ [])
