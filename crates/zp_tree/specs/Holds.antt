-- User references on snapshots: zfs-hold(8).
use Rattle.std.specs.Prelude.{ℕ, ◌==◌, ◌&&◌, Bool, not, nat_le, List, length, filter, bytes_eq}
use Rattle.std.specs.List.{list_any}
use Rattle.std.specs.Str.{is_utf8}
use Rattle.zp_tree.specs.declared.item.Hold.{Hold}
use Rattle.zp_tree.specs.declared.item.Snapshot.{Snapshot}

-- the name of a reference: one byte or more, 255 at most, and UTF-8
abbrev pub is_tag : List ℕ → Bool
is_tag tag = not (length tag == 0) && nat_le (length tag) 255 && is_utf8 tag

-- the reference with this tag
abbrev pub is_tagged : List ℕ → Hold → Bool
is_tagged tag h = bytes_eq tag h.tag

abbrev pub has_tag : List ℕ → Snapshot → Bool
has_tag tag s = list_any (is_tagged tag) s.holds

-- the references but that with this tag
abbrev pub holds_without : List ℕ → List Hold → List Hold
holds_without tag holds = filter (λ h. not (is_tagged tag h)) holds
