-- The snapshot has one hold, whose tag is UTF-8.
use Rattle.std.proofs.Common.{◌≡◌, ℕ, List, [], ◌∷◌, ◌++◌, refl, ap, ◌∙◌, codes, map, true, All}
use Rattle.std.specs.Prelude.{bytes_eq}
use Rattle.std.specs.List.{IsDistinct}
use Rattle.std.specs.Str.{IsUtf8}
use Rattle.std.proofs.lemmas.List.Elements.{All-nil, All-from_recursion}
use Rattle.zp_names.specs.Names.{is_valid_short}
use Rattle.zp_props.specs.declared.setting.Setting.{Setting}
use Rattle.zp_props.specs.Settings.{AreSettings}
use Rattle.zp_tree.specs.declared.item.Hold.{Hold}
use Rattle.zp_names.proofs.ShortNames.{valid_short_utf8}
use Rattle.zc_reply.proofs.tests.held_snapshot.Goals as goal

-- no settings
none : (settings : List Setting) → settings ≡ [] → AreSettings settings
unfolding IsDistinct
none settings e = rw e (record { distinct = tt; names = All-nil _; values = All-nil _ })

-- one tag differs from no other
tags : (holds : List Hold) (tag : List ℕ) → holds ≡ record { tag = tag; at = 99 } ∷ [] → IsDistinct bytes_eq (map (λ (h : Hold). h.tag) holds)
unfolding IsDistinct
tags holds tag e = rw e (tt, tt)

-- the tag is UTF-8
texts : (holds : List Hold) (tag : List ℕ) → holds ≡ record { tag = tag; at = 99 } ∷ [] → tag ≡ codes "keep" → All (λ (h : Hold). IsUtf8 h.tag) holds
unfolding is_valid_short
texts holds tag e f = rw (e, f) (All-from_recursion (λ (h : Hold). IsUtf8 h.tag) (record { tag = codes "keep"; at = 99 } ∷ []) (valid_short_utf8 (codes "keep") refl, tt))

-- the short name is valid
short : (s : List ℕ) → s ≡ codes "s" → is_valid_short s ≡ true
unfolding is_valid_short
short s e = rw e refl

pub returns : goal.returns
returns c =
    let all = c.from_vec.ensures ∙ c.in_ok-push.ensures.items ∙ ap (λ (xs : List Hold). xs ++ record { tag = c.in_ok-bytes.field-0; at = 99 } ∷ []) c.new-holds.ensures.items in
    record { short = short _ c.in_ok-bytes-2.ensures; settings = none _ c.new.ensures; tags = tags _ _ all; texts = texts _ _ all c.in_ok-bytes.ensures }
