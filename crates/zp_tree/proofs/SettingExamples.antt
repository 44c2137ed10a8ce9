-- Setting a property and taking its setting away, worked out on a small tree.
use Rattle.std.proofs.Common.{◌≡◌, ℕ, List, [], ◌∷◌, ◌++◌, true, false, codes, map, None, refl}
use Rattle.zp_names.specs.declared.command.Command.TheVariants as command
use Rattle.zp_props.specs.declared.setting.Setting.{Setting}
use Rattle.zp_props.specs.declared.setting.PropValue.TheVariants.{Number, Text}
use Rattle.zp_props.specs.ReadSetting.{setting_of}
use Rattle.zp_tree.specs.declared.item.Item.{Item}
use Rattle.zp_tree.specs.declared.item.Item.TheVariants as item
use Rattle.zp_tree.specs.declared.item.HeadKind.{HeadKind}
use Rattle.zp_tree.specs.declared.item.HeadKind.TheVariants.{Filesystem, Volume}
use Rattle.zp_tree.specs.Tree.{Tree}
use Rattle.zp_tree.specs.Rows.{passed, refuse}
use Rattle.zp_tree.specs.SetProperty.{set_check, set_change}
use Rattle.zp_tree.specs.InheritProperty.{inherit_check, inherit_change}
use Rattle.zp_tree.specs.NamedRecords.{names_record}

head : ℕ → List ℕ → HeadKind → List Setting → Item
head id name kind settings = item.Head (record { id = id; name = name; kind = kind; origin = None; settings = settings; stamp = 0; mounted = false; createtxg = 1 })

snapshot : List Setting → Item
snapshot settings = item.Snap (record { id = 3; owner = 2; short = codes "s"; settings = settings; stamp = 0; createtxg = 1; deferred = false; holds = [] })

size : List Setting
size = setting_of (codes "volsize") (Number 1024) ∷ []

-- `p`; `p/a`, with these settings, and its snapshot, with those; a volume
with-settings : List Setting → List Setting → Tree
with-settings own of-snapshot = record { records = head 1 (codes "p") Filesystem [] ∷ head 2 (codes "p/a") Filesystem own ∷ snapshot of-snapshot ∷ head 4 (codes "p/v") Volume size ∷ []; next = 5 }

copies-and-atime : ℕ → List Setting
copies-and-atime n = setting_of (codes "copies") (Number n) ∷ setting_of (codes "atime") (Text (codes "off")) ∷ []

before : Tree
before = with-settings (copies-and-atime 1) []

-- ---- verdicts

bookmark-named : set_check before (codes "p/a#s") (codes "copies") (codes "2") ≡ refuse 22
unfolding before with-settings copies-and-atime head snapshot size
bookmark-named = refl

missing : set_check before (codes "p/x") (codes "copies") (codes "2") ≡ refuse 2
unfolding before with-settings copies-and-atime head snapshot size
missing = refl

no-value : set_check before (codes "p/a") (codes "copies") (codes "4") ≡ refuse 22
unfolding before with-settings copies-and-atime head snapshot size
no-value = refl

-- a native property is set on heads alone
of-heads : set_check before (codes "p/a@s") (codes "copies") (codes "2") ≡ refuse 22
unfolding before with-settings copies-and-atime head snapshot size
of-heads = refl

free : set_check before (codes "p/a") (codes "copies") (codes "2") ≡ passed
unfolding before with-settings copies-and-atime head snapshot size
free = refl

keeps-its-size : inherit_check before (codes "p/v") (codes "volsize") ≡ refuse 22
unfolding before with-settings copies-and-atime head snapshot size
keeps-its-size = refl

-- also one that isn't set can be taken away
not-set : inherit_check before (codes "p/a") (codes "canmount") ≡ passed
unfolding before with-settings copies-and-atime head snapshot size
not-set = refl

-- ---- changes

-- a setting that is there is changed in its place
in-its-place : set_change before (codes "p/a") (codes "copies") (codes "2") ≡ with-settings (copies-and-atime 2) []
unfolding before with-settings copies-and-atime head snapshot size
in-its-place = refl

-- a further one goes last
goes-last : set_change before (codes "p/a") (codes "canmount") (codes "off") ≡ with-settings (copies-and-atime 1 ++ setting_of (codes "canmount") (Text (codes "off")) ∷ []) []
unfolding before with-settings copies-and-atime head snapshot size
goes-last = refl

taken-away : inherit_change before (codes "p/a") (codes "copies") ≡ with-settings (setting_of (codes "atime") (Text (codes "off")) ∷ []) []
unfolding before with-settings copies-and-atime head snapshot size
taken-away = refl

nothing-to-take : inherit_change before (codes "p/a") (codes "canmount") ≡ before
unfolding before with-settings copies-and-atime head snapshot size
nothing-to-take = refl

-- ---- what they name

named : map (names_record before (command.Set (codes "p/a@s") (codes "x:y") (codes "a"))) before.records ≡ false ∷ false ∷ true ∷ false ∷ []
unfolding before with-settings copies-and-atime head snapshot size
named = refl

named-again : map (names_record before (command.Inherit (codes "p/a") (codes "copies"))) before.records ≡ false ∷ true ∷ false ∷ false ∷ []
unfolding before with-settings copies-and-atime head snapshot size
named-again = refl
