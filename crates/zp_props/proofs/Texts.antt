-- Texts that are read: words, digits, UTF-8.
use Rattle.std.proofs.Common.{◌≡◌, ℕ, ◌<◌, ◌≤◌, ◌^◌, ◌==◌, ◌&&◌, ◌||◌, Bool, true, false, not, cond, List, [], ◌∷◌, length, map, refl, sym, ap, ◌∙◌, inl, inr, arith, rules, Some, None, Err, Bor, bytes_eq}
use Rattle.std.specs.Char.{is_ascii_digit}
use Rattle.std.specs.List.{list_any, list_all}
use Rattle.std.specs.Str.{IsUtf8, is_utf8, IsAscii}
use Rattle.std.specs.Str.Parse.{ParsesUnsigned, digits_value}
use Rattle.std.proofs.lemmas.Bool.{cases_Bool, and_parts, eqb-false}
use Rattle.std.proofs.lemmas.Bool.Decides.{nat_tests, leb_tells}
use Rattle.std.proofs.lemmas.Str.{is_utf8-from_IsUtf8, IsUtf8-from_is_utf8, IsUtf8-from_ascii}
use Rattle.std.proofs.lemmas.Str.Ascii.{IsAscii-nil, IsAscii-cons}
use Rattle.std.proofs.lemmas.Str.Parse.{IsNumeralModel, numerals_by_value, parse_digits}
use Rattle.zp_props.specs.declared.setting.PropValue.TheVariants.{Text}
use Rattle.zp_props.specs.Lines.{words_of}
use Rattle.zp_props.specs.ReadSetting.{decimal_in, value_in}

any_word : (ws : List (Bor (List ℕ))) (t : List ℕ) → list_any (λ w. bytes_eq w.now t) ws ≡ list_any (λ w. bytes_eq w t) (map (λ w. w.now) ws)
any_word [] t = refl
any_word (w ∷ ws) t = ap (λ b. bytes_eq w.now t || b) (any_word ws t)

-- a text is one of some words
pub word_value : (ws : List (Bor (List ℕ))) (t : List ℕ) (b : Bool) → list_any (λ w. bytes_eq w.now t) ws ≡ b → cond b (Some (Text t)) None ≡ value_in (words_of ws) t
word_value ws t b e = ap (λ c. cond c (Some (Text t)) None) (sym e ∙ any_word ws t)

pub utf8_holds : (t : List ℕ) → IsUtf8 t → true ≡ is_utf8 t
utf8_holds t h = sym (is_utf8-from_IsUtf8 t h)

pub utf8_fails : (t : List ℕ) → ¬ (IsUtf8 t) → false ≡ is_utf8 t
utf8_fails t h = elim (cases_Bool (is_utf8 t)) [
  | inl e ↦ absurd (h (IsUtf8-from_is_utf8 t e))
  | inr e ↦ sym e
]

-- a text of bytes that pass a test which only ASCII passes
pub passing_ascii : (p : ℕ → Bool) → ((b : ℕ) → p b ≡ true → b < 128) → (t : List ℕ) → list_all p t ≡ true → IsAscii t
passing_ascii p low [] e = IsAscii-nil
passing_ascii p low (b ∷ bs) e = let parts = and_parts (p b) (list_all p bs) e in IsAscii-cons b bs (low b parts.0) (passing_ascii p low bs parts.1)

digit_low : (b : ℕ) → is_ascii_digit b ≡ true → b < 128
digit_low b e = grind (arith, nat_tests)

pub digits_utf8 : (t : List ℕ) → list_all is_ascii_digit t ≡ true → IsUtf8 t
digits_utf8 t e = IsUtf8-from_ascii t (passing_ascii is_ascii_digit digit_low t e)

pub own : IsNumeralModel (λ ds. list_all is_ascii_digit ds ≡ true) (digits_value 10)
own = numerals_by_value _ (search rules)

-- what the test of a text's length gives
counted : (t : List ℕ) (n : ℕ) → (z : Bool) → (length t == 0) ≡ z → list_all is_ascii_digit t ≡ true → decimal_in t ≡ Some n → (0 < length t) × (digits_value 10 t ≡ n)
counted t n true z digits e = let is : None ≡ Some n = sym (ap (λ b. cond (not b && list_all is_ascii_digit t) (Some (digits_value 10 t)) None) z) ∙ e in cc
counted t n false z digits e =
    let none : length t ≡ 0 → ⊥ = eqb-false (length t) 0 z in
    let is : Some (digits_value 10 t) ≡ Some n = sym (ap (λ b. cond (not b && list_all is_ascii_digit t) (Some (digits_value 10 t)) None) z ∙ ap (λ b. cond b (Some (digits_value 10 t)) None) digits) ∙ e in
    (omega arith, cc)

-- digits that are no number of 64 bits write a larger one
pub too_large : {E : Type 0} (t : List ℕ) (error : E) (n : ℕ) → list_all is_ascii_digit t ≡ true → ParsesUnsigned 64 10 t (Err error) → decimal_in t ≡ Some n → 2 ^ 64 ≤ n
too_large {E} t error n digits parsed e =
    let none : (0 < length t) × (digits_value 10 t < 2 ^ 64) → ⊥ = parse_digits own {E = E} 64 t (Err error) parsed digits in
    let it = counted t n (length t == 0) refl digits e in
    elim (leb_tells (2 ^ 64) n) [ inl s ↦ s.1 | inr s ↦ absurd (none (it.0, let small : n < 2 ^ 64 = s.1 in let same = it.1 in omega arith)) ]
