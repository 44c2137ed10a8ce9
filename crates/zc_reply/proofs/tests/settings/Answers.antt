-- The settings differ by name, and their texts are UTF-8.
use Rattle.std.proofs.Common.{◌≡◌, ℕ, List, [], ◌∷◌, ◌++◌, refl, sym, ap, ◌∙◌, subst, codes}
use Rattle.std.specs.List.{IsDistinct}
use Rattle.std.specs.Str.{IsUtf8}
use Rattle.std.proofs.lemmas.List.Elements.{All-from_recursion}
use Rattle.zp_names.specs.Names.{is_valid_short}
use Rattle.zp_props.specs.declared.setting.Setting.{Setting}
use Rattle.zp_props.specs.declared.setting.PropValue.TheVariants.{Number, Text}
use Rattle.zp_props.specs.Settings.{AreSettings, IsValue}
use Rattle.zp_names.proofs.ShortNames.{valid_short_utf8}
use Rattle.zc_reply.proofs.tests.settings.Goals as goal

-- two settings with these names
abbrev of : List ℕ → List ℕ → List ℕ → List Setting
of size note text = record { name = size; value = Number 1024 } ∷ record { name = note; value = Text text } ∷ []

-- the texts are UTF-8
size_text : IsUtf8 (codes "volsize")
unfolding is_valid_short
size_text = valid_short_utf8 (codes "volsize") refl

note_text : IsUtf8 (codes "org:note")
unfolding is_valid_short
note_text = valid_short_utf8 (codes "org:note") refl

value_text : IsUtf8 (codes "a b")
unfolding is_valid_short
value_text = valid_short_utf8 (codes "a b") refl

-- they are those of one record
are : AreSettings (of (codes "volsize") (codes "org:note") (codes "a b"))
unfolding IsDistinct
are = record {
  distinct = ((refl, tt), (tt, tt));
  names = All-from_recursion (λ (s : Setting). IsUtf8 s.name) (of (codes "volsize") (codes "org:note") (codes "a b")) (size_text, (note_text, tt));
  values = All-from_recursion (λ (s : Setting). IsValue s.value) (of (codes "volsize") (codes "org:note") (codes "a b")) (tt, (value_text, tt));
}

-- so are those with equal names
named : (size note text : List ℕ) → size ≡ codes "volsize" → note ≡ codes "org:note" → text ≡ codes "a b" → AreSettings (of size note text)
named size note text e f h = rw (e, f, h) are

pub returns : goal.returns
returns c =
    let all = c.from_vec.ensures ∙ c.in_ok-push-2.ensures.items ∙ ap (λ (xs : List Setting). xs ++ record { name = c.in_ok-bytes-2.field-0; value = Text c.in_ok-bytes-3.field-0 } ∷ []) (c.in_ok-push.ensures.items ∙ ap (λ (xs : List Setting). xs ++ record { name = c.in_ok-bytes.field-0; value = Number 1024 } ∷ []) c.new-settings.ensures.items) in
    subst (λ xs. AreSettings xs) (sym all) (named _ _ _ c.in_ok-bytes.ensures c.in_ok-bytes-2.ensures c.in_ok-bytes-3.ensures)
