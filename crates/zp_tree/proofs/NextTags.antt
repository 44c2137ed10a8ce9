-- From the hold that comes first to its tag and its moment.
use Rattle.std.proofs.Common.{◌≡◌, ℕ, List, [], Option, Some, None, refl, sym, subst, option_map}
use Rattle.zp_tree.specs.declared.item.Hold.{Hold}
use Rattle.zp_tree.specs.FirstByKey.{FirstBy}
use Rattle.zp_tree.specs.NextTag.{tag_of, is_tag_above, tag_and_moment, IsNextTag}

next-tag : (holds : List Hold) (after : List ℕ) (o : Option Hold) → FirstBy tag_of holds (is_tag_above after) o → IsNextTag holds after (option_map tag_and_moment o)
next-tag holds after None h = h
next-tag holds after (Some x) h = record { hold = x; tells = refl; first = h }

-- what is told of the hold that comes first
pub told_next : (holds : List Hold) (after : List ℕ) (o : Option Hold) (told : Option (List ℕ × ℕ)) → told ≡ option_map tag_and_moment o → FirstBy tag_of holds (is_tag_above after) o → IsNextTag holds after told
told_next holds after o told e h = subst (IsNextTag holds after) (sym e) (next-tag holds after o h)

-- where there are no holds, none comes
pub none_held : (after : List ℕ) → IsNextTag [] after None
none_held after = record { none = λ k x e. cc }
