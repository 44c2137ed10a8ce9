-- Steps of the loop that looks for a closing bracket.
use Rattle.std.proofs.Common.{◌≡◌, ℕ, ◌+◌, ◌<◌, ◌≤◌, List, [], ◌∷◌, length, drop, get_or, Option, Some, None, true, false, refl, ap, sym, ◌∙◌, arith, add-one, drop-cons}
use Rattle.lua_lexer.specs.Brackets.{closes}
use Rattle.lua_lexer.specs.Scan.{closing, one_further}
use Rattle.lua_lexer.proofs.Drops.{drop-past}

-- an offset that many further
abbrev pub shifted : ℕ → Option ℕ → Option ℕ
shifted i (Some k) = Some (k + i)
shifted i None = None

pub closing-yes : (n : ℕ) (xs : List ℕ) → closes n xs ≡ true → closing n xs ≡ Some 0
unfolding closing closes
closing-yes n [] h = cc
closing-yes n (x ∷ xs) h = rw h

shifted-one : (i : ℕ) (o : Option ℕ) → shifted i (one_further o) ≡ shifted (i + 1) o
shifted-one i (Some k) = ap Some (omega arith)
shifted-one i None = refl

closing-cons : (n x : ℕ) (xs : List ℕ) → closes n (x ∷ xs) ≡ false → closing n (x ∷ xs) ≡ one_further (closing n xs)
unfolding closing
closing-cons n x xs h = rw h

pub closing-no : (n i : ℕ) (xs : List ℕ) → i < length xs → closes n (drop i xs) ≡ false → shifted i (closing n (drop i xs)) ≡ shifted (i + 1) (closing n (drop (i + 1) xs))
closing-no n i xs lt h =
    let e : drop i xs ≡ (get_or xs i 0 ∷ drop (i + 1) xs) = rw (add-one, drop-cons xs i 0) in
    let h' : closes n (get_or xs i 0 ∷ drop (i + 1) xs) ≡ false = rw e at h in
    rw e (rw (closing-cons n (get_or xs i 0) (drop (i + 1) xs) h') (shifted-one i (closing n (drop (i + 1) xs))))

pub closing_found : (n i : ℕ) (xs : List ℕ) (whole : Option ℕ) → closes n (drop i xs) ≡ true → shifted i (closing n (drop i xs)) ≡ whole → Some i ≡ whole
closing_found n i xs whole h inv =
    let e : closing n (drop i xs) ≡ Some 0 = closing-yes n (drop i xs) h in
    let one : i ≡ 0 + i = omega arith in
    ap Some one ∙ (rw e at inv)

pub closing_next : (n i : ℕ) (xs : List ℕ) (whole : Option ℕ) → i < length xs → closes n (drop i xs) ≡ false → shifted i (closing n (drop i xs)) ≡ whole → shifted (i + 1) (closing n (drop (i + 1) xs)) ≡ whole
closing_next n i xs whole lt h inv = sym (closing-no n i xs lt h) ∙ inv

pub closing_none : (n i : ℕ) (xs : List ℕ) (whole : Option ℕ) → length xs ≤ i → shifted i (closing n (drop i xs)) ≡ whole → None ≡ whole
unfolding closing
closing_none n i xs whole h inv = rw (drop-past i xs h) at inv
