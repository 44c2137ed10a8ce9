-- The kind of a word.
use Rattle.std.proofs.Common.{◌≡◌, ℕ, ◌+◌, ◌<◌, ◌≤◌, List, [], ◌∷◌, length, take, Some, Bool, true, false, cond, refl, ap, sym, ◌∙◌, arith, zero, suc, length-take, get_or-take}
use Rattle.std.specs.Prelude.{All, IsTrue, codes, ◌≢◌}
use Rattle.std.specs.List.{prefix_len}
use Rattle.std.specs.Str.{bytes_eq}
use Rattle.std.proofs.lemmas.Slice.Eq.{bytes_eq-Decides}
use Rattle.std.proofs.lemmas.Bool.Decides.{nat_tests}
use Rattle.std.proofs.lemmas.List.Sums.{prefix_len_passes}
use Rattle.lua_lexer.specs.declared.token.TokenKind.{TokenKind}
use Rattle.lua_lexer.specs.declared.token.TokenKind.TheVariants.{And, Break, Do, Else, Elseif, End, False, For, Function, Goto, If, In, Local, Nil, Not, Or, Repeat, Return, Then, True, Until, While, Name}
use Rattle.lua_lexer.specs.Bytes.{is_name_start, is_name_byte}
use Rattle.lua_lexer.specs.Spelling.{spelling}
use Rattle.lua_lexer.specs.Spells.{IsWord}
use Rattle.lua_lexer.specs.Scan.{word_kind, late_kind}

pub data KindOf (w : List ℕ) (k : TokenKind) : Type 0 where
  is_a_name : k ≡ Name → KindOf w k
  is_a_keyword : spelling k ≡ Some w → KindOf w k

kind_if : (t : Bool) (w s : List ℕ) (k j : TokenKind) → (t ≡ true → w ≡ s) → spelling k ≡ Some s → KindOf w j → KindOf w (cond t k j)
kind_if true w s k j h e o = is_a_keyword (e ∙ ap Some (sym (h refl)))
kind_if false w s k j h e o = o

kind_step : (w s : List ℕ) (k j : TokenKind) → spelling k ≡ Some s → KindOf w j → KindOf w (cond (bytes_eq w s) k j)
kind_step w s k j e o = kind_if (bytes_eq w s) w s k j (bytes_eq-Decides w s).0 e o

pub kind_of : (w : List ℕ) → KindOf w (word_kind w)
unfolding word_kind late_kind
kind_of w = kind_step w (codes "and") And _ refl (kind_step w (codes "break") Break _ refl (kind_step w (codes "do") Do _ refl (kind_step w (codes "else") Else _ refl (kind_step w (codes "elseif") Elseif _ refl (kind_step w (codes "end") End _ refl (kind_step w (codes "false") False _ refl (kind_step w (codes "for") For _ refl (kind_step w (codes "function") Function _ refl (kind_step w (codes "goto") Goto _ refl (kind_step w (codes "if") If _ refl (kind_step w (codes "in") In _ refl (kind_step w (codes "local") Local _ refl (kind_step w (codes "nil") Nil _ refl (kind_step w (codes "not") Not _ refl (kind_step w (codes "or") Or _ refl (kind_step w (codes "repeat") Repeat _ refl (kind_step w (codes "return") Return _ refl (kind_step w (codes "then") Then _ refl (kind_step w (codes "true") True _ refl (kind_step w (codes "until") Until _ refl (kind_step w (codes "while") While _ refl (is_a_name refl))))))))))))))))))))))

-- what is no keyword is a name
pub kind_name : (w : List ℕ) → ((j : TokenKind) → spelling j ≢ Some w) → word_kind w ≡ Name
kind_name w h = elim (kind_of w) [ is_a_name e ↦ e | is_a_keyword e ↦ absurd (h (word_kind w) e) ]

pub start_is_byte : (b : ℕ) → is_name_start b ≡ true → is_name_byte b ≡ true
start_is_byte b h = grind (arith, nat_tests)

pub all-prefix : (p : ℕ → Bool) (s : List ℕ) → All (λ c. IsTrue (p c)) s → prefix_len p s ≡ length s
all-prefix p [] h = refl
all-prefix p (x ∷ xs) h =
    let front : p x ≡ true = h 0 0 (omega arith) in
    rw front (omega (arith, all-prefix p xs (λ k d lt. h (suc k) d (omega arith))))

pub run_passes : (p : ℕ → Bool) (xs : List ℕ) → All (λ c. IsTrue (p c)) (take (prefix_len p xs) xs)
run_passes p xs k d lt =
    let below : k < prefix_len p xs = omega (arith, length-take (prefix_len p xs) xs) in
    rw get_or-take (prefix_len_passes p xs k d below)

-- a cut list has no longer run
pub prefix-cut : (p : ℕ → Bool) (n : ℕ) (xs : List ℕ) → prefix_len p (take n xs) ≤ prefix_len p xs
prefix-cut p zero xs = omega arith
prefix-cut p (suc n) [] = omega arith
prefix-cut p (suc n) (x ∷ xs) = cut-if (p x) _ _ (prefix-cut p n xs)
  where
    cut-if : (t : Bool) (m n : ℕ) → m ≤ n → cond t (1 + m) 0 ≤ cond t (1 + n) 0
    cut-if true m n h = omega arith
    cut-if false m n h = omega arith

pub word-prefix : (s : List ℕ) → IsWord s → prefix_len is_name_byte s ≡ length s
word-prefix [] h = absurd h
word-prefix (b ∷ s) h =
    let first : is_name_byte b ≡ true = start_is_byte b h.0 in
    rw first (omega (arith, all-prefix is_name_byte s h.1))
