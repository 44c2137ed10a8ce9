-- The least tag above a text, by bytes: how zfs-holds(8) is gone through.
use Rattle.std.specs.Prelude.{ℕ, ◌≡◌, Bool, List, [], Option, MatchOption, option_and_then}
use Rattle.std.specs.Option.{option_map_or}
use Rattle.zp_tree.specs.declared.item.Item.{Item}
use Rattle.zp_tree.specs.declared.item.Snapshot.{Snapshot}
use Rattle.zp_tree.specs.declared.item.Hold.{Hold}
use Rattle.zp_tree.specs.Tree.{at, as_snapshot}
use Rattle.zp_tree.specs.NextByName.{is_above}
use Rattle.zp_tree.specs.FirstByKey.{NonePasses, IsLeastBy}

-- the user references on the snapshot with this id
abbrev pub holds_at : List Item → ℕ → List Hold
holds_at rs i = option_map_or (λ (s : Snapshot). s.holds) (option_and_then as_snapshot (at rs i)) []

abbrev pub tag_of : Hold → List ℕ
tag_of h = h.tag

abbrev pub is_tag_above : List ℕ → Hold → Bool
is_tag_above after h = is_above h.tag after

-- the tag of a hold, and the moment at which it was placed
abbrev pub tag_and_moment : Hold → List ℕ × ℕ
tag_and_moment h = (h.tag, h.at)

-- those of the hold whose tag comes first
pub record HasFirstTag (holds : List Hold) (after : List ℕ) (told : List ℕ × ℕ) : Type 0 where
  pub hold : Hold
  pub tells : tag_and_moment hold ≡ told
  pub first : IsLeastBy tag_of holds (is_tag_above after) hold

-- what such a look-up answers: none exactly where no tag is above the text
abbrev pub IsNextTag : List Hold → List ℕ → Option (List ℕ × ℕ) → Type 0
IsNextTag holds after found = MatchOption found (NonePasses holds (is_tag_above after)) (HasFirstTag holds after)
