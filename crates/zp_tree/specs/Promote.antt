-- Promoting a clone: zfs-promote(8). The snapshots up to its origin become the clone's own, and the dataset that had
-- them becomes a clone of it.
use Rattle.std.specs.Prelude.{ℕ, ◌==◌, ◌&&◌, nat_le, nat_lt, Bool, not, is_some, if◌then◌else◌, List, [], ◌∷◌, length, bytes_eq, Option, Some, None, option_map, option_and_then}
use Rattle.std.specs.Option.{option_map_or}
use Rattle.std.specs.List.{filter_map, list_any}
use Rattle.zp_names.specs.Names.{is_head}
use Rattle.zp_names.specs.ErrorNumbers.{eexist, einval, enoent}
use Rattle.zp_names.specs.declared.verdict.Verdict.{Verdict}
use Rattle.zp_tree.specs.declared.item.Item.{Item}
use Rattle.zp_tree.specs.declared.item.Item.TheVariants as item
use Rattle.zp_tree.specs.declared.item.Head.{Head}
use Rattle.zp_tree.specs.declared.item.Snapshot.{Snapshot}
use Rattle.zp_tree.specs.declared.promotion.Promotion.{Promotion}
use Rattle.zp_tree.specs.Tree.{Tree, head_named, head_at, snapshot_at, changed}
use Rattle.zp_tree.specs.ShortNames.{short_name_if, short_names}
use Rattle.zp_tree.specs.Rows.{refuse, first_row}

-- the clone, its origin, the head that has the origin, and that head's own origin
abbrev pub promotion_from : Tree → Head → Snapshot → Option Promotion
promotion_from t clone origin = option_map (λ (old : Head). record { clone = clone.id; origin = origin.id; owner = old.id; owner_origin = old.origin }) (head_at t origin.owner)

-- none where no head has this name, or it is no clone
abbrev pub promotion_of : Tree → List ℕ → Option Promotion
promotion_of t name = option_and_then (λ (clone : Head). option_and_then (λ o. option_and_then (promotion_from t clone) (snapshot_at t o)) clone.origin) (head_named t name)

-- a snapshot of the origin's owner that is no younger than the origin
abbrev pub moves : Promotion → Snapshot → Bool
moves m s = s.owner == m.owner && nat_le s.id m.origin

-- a snapshot of this head
abbrev pub is_owned_by : ℕ → Snapshot → Bool
is_owned_by head s = s.owner == head

-- a snapshot of this head has this short name
abbrev pub has_short : Tree → ℕ → List ℕ → Bool
has_short t head short = list_any (bytes_eq short) (filter_map (short_name_if (is_owned_by head)) t.records)

-- a snapshot that would move, and whose short name one of the clone's own has
abbrev pub is_in_the_way : Tree → Promotion → Snapshot → Bool
is_in_the_way t m s = moves m s && has_short t m.clone s.short

-- their short names, in byte order
abbrev pub names_in_the_way : Tree → Promotion → List (List ℕ)
names_in_the_way t m = short_names (is_in_the_way t m) t.records

-- the same of the head of this name; none where it is no clone
abbrev pub in_the_way : Tree → List ℕ → List (List ℕ)
in_the_way t name = option_map_or (names_in_the_way t) (promotion_of t name) []

abbrev pub promote_rows : Tree → List ℕ → List (Bool × Verdict)
promote_rows t name =
    (not (is_head name), refuse einval)
    ∷ (not (is_some (head_named t name)), refuse enoent)
    ∷ (not (is_some (promotion_of t name)), refuse einval)
    ∷ (nat_lt 0 (length (in_the_way t name)), record { errno = eexist; details = in_the_way t name })
    ∷ []

abbrev pub promote_check : Tree → List ℕ → Verdict
promote_check t name = first_row (promote_rows t name)

-- what becomes of a record: the snapshots that move get the clone as owner, the clone the owner's origin, and the
-- owner the clone's origin
abbrev pub promoted : Promotion → Item → Option Item
promoted m (item.Head d) = if d.id == m.clone then Some (item.Head (record d { origin = m.owner_origin })) else (if d.id == m.owner then Some (item.Head (record d { origin = Some m.origin })) else None)
promoted m (item.Snap s) = if moves m s then Some (item.Snap (record s { owner = m.clone })) else None
promoted m (item.Mark b) = None

abbrev pub promote_change : Tree → List ℕ → Tree
promote_change t name = option_map_or (λ m. record t { records = changed (promoted m) t.records }) (promotion_of t name) t
