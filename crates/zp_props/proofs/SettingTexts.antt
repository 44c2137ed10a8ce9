-- What is read can be printed.
use Rattle.std.proofs.Common.{◌≡◌, ℕ, ◌<◌, nat_lt, List, [], ◌∷◌, Bool, true, false, not, ◌&&◌, ◌||◌, cond, Option, Some, None, Ok, Err, find, refl, sym, ap, subst, ◌∙◌, bytes_eq, inl, inr, arith, nat_le, length, option_and_then}
use Rattle.std.specs.List.{list_any, list_all}
use Rattle.std.specs.Option.{option_map_or}
use Rattle.std.specs.Str.{IsUtf8, is_utf8}
use Rattle.std.proofs.lemmas.Bool.{cases_Bool, and_parts, ltb-true}
use Rattle.std.proofs.lemmas.Bool.Decides.{nat_tests}
use Rattle.std.proofs.lemmas.Slice.Eq.{bytes_eq-Decides}
use Rattle.std.proofs.lemmas.Str.{IsUtf8-from_ascii, IsUtf8-from_is_utf8}
use Rattle.zp_props.specs.declared.setting.Setting.{Setting}
use Rattle.zp_props.specs.declared.setting.PropValue.{PropValue}
use Rattle.zp_props.specs.declared.setting.PropValue.TheVariants.{Number, Text}
use Rattle.zp_props.specs.declared.kind.Kind3.{Kind3}
use Rattle.zp_props.specs.declared.prop.Prop.{Prop}
use Rattle.zp_props.specs.declared.bad_setting.BadSetting.TheVariants as bad
use Rattle.zp_props.specs.Settings.{IsValue, is_user_name}
use Rattle.zp_props.specs.UserProperties.{is_user_name_byte, is_valid_user_name, begins_with_dash, longest_user_value}
use Rattle.zp_props.specs.Lines.{Allowed, read_only, words, numbers, Native, includes, keeps_rule}
use Rattle.zp_props.specs.Properties.{native, natives, prop_named, is_settable}
use Rattle.zp_props.specs.ReadSetting.{value_in, decimal_in, if_within, native_setting, user_setting, setting_or_refusal, setting_of}
use Rattle.zp_props.proofs.Texts.{passing_ascii}

abbrev is_low : ℕ → Bool
is_low b = nat_lt b 128

low : (b : ℕ) → is_low b ≡ true → b < 128
low b e = ltb-true b 128 e

plain : (t : List ℕ) → list_all is_low t ≡ true → IsUtf8 t
plain t e = IsUtf8-from_ascii t (passing_ascii is_low low t e)

user-byte-low : (b : ℕ) → is_user_name_byte b ≡ true → b < 128
user-byte-low b e = grind (arith, nat_tests)

-- the words and the names of the table are ASCII
abbrev plain_words : Allowed → Bool
plain_words read_only = true
plain_words (words ws) = list_all (list_all is_low) ws
plain_words (numbers low high rule) = true

abbrev plain_line : Native → Bool
plain_line l = list_all is_low l.name && plain_words l.allowed

all-plain : list_all (λ p. plain_line (native p)) natives ≡ true
all-plain = refl

-- what holds of all holds of what is found, and that passes
found-passes : {X : Type 0} (q p : X → Bool) (xs : List X) (x : X) → list_all q xs ≡ true → find p xs ≡ Some x → (q x ≡ true) × (p x ≡ true)
found-passes q p [] x a e = cc
found-passes q p (y ∷ ys) x a e =
    let parts = and_parts (q y) (list_all q ys) a in
    elim (cases_Bool (p y)) [
      | inl hit ↦ let is : Some y ≡ Some x = sym (ap (λ b. cond b (Some y) (find p ys)) hit) ∙ e in let it : y ≡ x = cc in (ap q (sym it) ∙ parts.0, ap p (sym it) ∙ hit)
      | inr miss ↦ found-passes q p ys x parts.1 (sym (ap (λ b. cond b (Some y) (find p ys)) miss) ∙ e)
    ]

word-plain : (ws : List (List ℕ)) (t : List ℕ) → list_all (list_all is_low) ws ≡ true → list_any (λ w. bytes_eq w t) ws ≡ true → IsUtf8 t
word-plain [] t a e = cc
word-plain (w ∷ ws) t a e =
    let parts = and_parts (list_all is_low w) (list_all (list_all is_low) ws) a in
    elim (cases_Bool (bytes_eq w t)) [
      | inl hit ↦ subst IsUtf8 ((bytes_eq-Decides w t).0 hit) (plain w parts.0)
      | inr miss ↦ word-plain ws t parts.1 (sym (ap (λ b. b || list_any (λ w. bytes_eq w t) ws) miss) ∙ e)
    ]

-- a value that is read can be printed
value-good : (a : Allowed) (t : List ℕ) (v : PropValue) → plain_words a ≡ true → value_in a t ≡ Some v → IsValue v
value-good read_only t v p e = cc
value-good (words ws) t v p e = elim (cases_Bool (list_any (λ w. bytes_eq w t) ws)) [
  | inl hit ↦ (let is : Some (Text t) ≡ Some v = sym (ap (λ b. cond b (Some (Text t)) None) hit) ∙ e in let it : Text t ≡ v = cc in subst IsValue it (word-plain ws t p hit))
  | inr miss ↦ (let is : None ≡ Some v = sym (ap (λ b. cond b (Some (Text t)) None) miss) ∙ e in cc)
]
value-good (numbers low high rule) t v p e = go (decimal_in t) e
  where
    tested : (b : Bool) (n : ℕ) → cond b (Some (Number n)) None ≡ Some v → IsValue v
    tested true n f = let it : Number n ≡ v = cc in subst IsValue it tt
    tested false n f = cc

    go : (o : Option ℕ) → option_and_then (if_within low high rule) o ≡ Some v → IsValue v
    go None f = cc
    go (Some n) f = tested (nat_le low n && nat_le n high && keeps_rule rule n) n f

-- what a setting that was read is: of the name that was given, with a name and a value that can be printed
pub record IsReadAs (name : List ℕ) (s : Setting) : Type 0 where
  pub named : s.name ≡ name
  pub text : IsUtf8 s.name
  pub value : IsValue s.value

read-as : (name n : List ℕ) (v : PropValue) (s : Setting) → setting_of n v ≡ s → n ≡ name → IsUtf8 n → IsValue v → IsReadAs name s
read-as name n v s e is text value = subst (IsReadAs name) e (record { named = is; text = text; value = value })

native-read : (kind : Kind3) (name text : List ℕ) (p : Prop) (s : Setting) → prop_named name ≡ Some p → native_setting kind (native p) text ≡ Ok s → IsReadAs name s
native-read kind name text p s found e =
    let there = found-passes (λ p. plain_line (native p)) (λ p. bytes_eq (native p).name name) natives p all-plain found in
    let parts = and_parts (list_all is_low (native p).name) (plain_words (native p).allowed) there.0 in
    let is : (native p).name ≡ name = (bytes_eq-Decides (native p).name name).0 there.1 in
    settable (is_settable (native p).allowed) (includes (native p).kinds kind) (λ v f. value-good (native p).allowed text v parts.1 f) is (plain (native p).name parts.0) (value_in (native p).allowed text) refl e
  where
    settable : (a b : Bool) → ((v : PropValue) → value_in (native p).allowed text ≡ Some v → IsValue v) → (native p).name ≡ name → IsUtf8 (native p).name → (o : Option PropValue) → value_in (native p).allowed text ≡ o → cond (not a) (Err bad.ReadOnly) (cond (not b) (Err bad.NotForKind) (option_map_or (λ v. Ok (setting_of (native p).name v)) o (Err bad.BadValue))) ≡ Ok s → IsReadAs name s
    settable false b good is utf8 o f h = cc
    settable true false good is utf8 o f h = cc
    settable true true good is utf8 None f h = cc
    settable true true good is utf8 (Some v) f h = read-as name (native p).name v s (let it : setting_of (native p).name v ≡ s = cc in it) is utf8 (good v f)

user-read : (name text : List ℕ) (s : Setting) → user_setting name text ≡ Ok s → IsReadAs name s
user-read name text s e = go (is_valid_user_name name) refl (is_utf8 text) refl (nat_lt longest_user_value (length text)) e
  where
    go : (a : Bool) → is_valid_user_name name ≡ a → (b : Bool) → is_utf8 text ≡ b → (c : Bool) → cond (not a) (Err bad.BadUserName) (cond (not b) (Err bad.BadValue) (cond c (Err (bad.TooLong (length text))) (Ok (setting_of name (Text text))))) ≡ Ok s → IsReadAs name s
    go false f b g c h = cc
    go true f false g c h = cc
    go true f true g true h = cc
    go true f true g false h =
        let one = and_parts (is_user_name name && list_all is_user_name_byte name && not (begins_with_dash name)) (nat_le (length name) 256) f in
        let two = and_parts (is_user_name name && list_all is_user_name_byte name) (not (begins_with_dash name)) one.0 in
        let three = and_parts (is_user_name name) (list_all is_user_name_byte name) two.0 in
        read-as name name (Text text) s (let it : setting_of name (Text text) ≡ s = cc in it) refl (IsUtf8-from_ascii name (passing_ascii is_user_name_byte user-byte-low name three.1)) (IsUtf8-from_is_utf8 text g)

pub reads-good : (kind : Kind3) (name text : List ℕ) (s : Setting) → setting_or_refusal kind name text ≡ Ok s → IsReadAs name s
reads-good kind name text s e = go (is_user_name name) (prop_named name) refl e
  where
    go : (u : Bool) (o : Option Prop) → prop_named name ≡ o → cond u (user_setting name text) (option_map_or (λ p. native_setting kind (native p) text) o (Err bad.Unknown)) ≡ Ok s → IsReadAs name s
    go true o f h = user-read name text s h
    go false None f h = cc
    go false (Some p) f h = native-read kind name text p s f h
