-- Making volumes and bookmarks, worked out on a small tree.
use Rattle.std.proofs.Common.{◌≡◌, ℕ, List, [], ◌∷◌, ◌++◌, false, codes, None, refl}
use Rattle.zp_props.specs.declared.setting.Setting.{Setting}
use Rattle.zp_props.specs.declared.setting.PropValue.TheVariants.{Number}
use Rattle.zp_tree.specs.declared.item.Item.{Item}
use Rattle.zp_tree.specs.declared.item.Item.TheVariants as item
use Rattle.zp_tree.specs.declared.item.HeadKind.{HeadKind}
use Rattle.zp_tree.specs.declared.item.HeadKind.TheVariants.{Filesystem, Volume}
use Rattle.zp_tree.specs.Tree.{Tree}
use Rattle.zp_tree.specs.Rows.{passed, refuse}
use Rattle.zp_tree.specs.CreateVolume.{create_volume_check, create_volume_change}
use Rattle.zp_tree.specs.MakeBookmark.{bookmark_check, bookmark_change}

head : ℕ → List ℕ → HeadKind → List Setting → Item
head id name kind settings = item.Head (record { id = id; name = name; kind = kind; origin = None; settings = settings; stamp = 0; mounted = false; createtxg = 1 })

snapshot : ℕ → List ℕ → Item
snapshot id short = item.Snap (record { id = id; owner = 2; short = short; settings = []; stamp = 0; createtxg = 5; deferred = false; holds = [] })

bookmark : ℕ → List ℕ → ℕ → ℕ → Item
bookmark id short source createtxg = item.Mark (record { id = id; owner = 2; short = short; source = source; createtxg = createtxg })

size : ℕ → List Setting
size n = record { name = codes "volsize"; value = Number n } ∷ []

-- `p`; `p/a` with the snapshot `s` of group 5, and the bookmark `old` of one that is gone; the volume `p/v`
records : List Item
records = head 1 (codes "p") Filesystem [] ∷ head 2 (codes "p/a") Filesystem [] ∷ snapshot 4 (codes "s") ∷ bookmark 5 (codes "old") 3 2 ∷ head 6 (codes "p/v") Volume (size 512) ∷ []

before : Tree
before = record { records = records; next = 7 }

-- ---- volumes

no-multiple : create_volume_check before (codes "p/w") 1000 ≡ refuse 22
unfolding before records head snapshot bookmark size
no-multiple = refl

-- the size comes before the name
size-first : create_volume_check before (codes "p/v") 1000 ≡ refuse 22
unfolding before records head snapshot bookmark size
size-first = refl

there-already : create_volume_check before (codes "p/v") 1024 ≡ refuse 17
unfolding before records head snapshot bookmark size
there-already = refl

below-a-volume : create_volume_check before (codes "p/v/w") 1024 ≡ refuse 22
unfolding before records head snapshot bookmark size
below-a-volume = refl

a-volume : create_volume_check before (codes "p/w") 1024 ≡ passed
unfolding before records head snapshot bookmark size
a-volume = refl

volume-made : create_volume_change before (codes "p/w") 1024 1 ≡ record { records = records ++ head 7 (codes "p/w") Volume (size 1024) ∷ []; next = 8 }
unfolding before records head snapshot bookmark size
volume-made = refl

-- ---- bookmarks

of-a-head : bookmark_check before (codes "p/a") (codes "p/a#m") ≡ refuse 22
unfolding before records head snapshot bookmark size
of-a-head = refl

no-bookmark : bookmark_check before (codes "p/a@s") (codes "p/a@m") ≡ refuse 22
unfolding before records head snapshot bookmark size
no-bookmark = refl

-- another head comes before a missing source
of-another : bookmark_check before (codes "p/a@x") (codes "p/v#m") ≡ refuse 22
unfolding before records head snapshot bookmark size
of-another = refl

no-source : bookmark_check before (codes "p/a@x") (codes "p/a#m") ≡ refuse 2
unfolding before records head snapshot bookmark size
no-source = refl

marked-already : bookmark_check before (codes "p/a@s") (codes "p/a#old") ≡ refuse 17
unfolding before records head snapshot bookmark size
marked-already = refl

-- the group is that of the snapshot
of-a-snapshot : bookmark_change before (codes "p/a@s") (codes "p/a#m") ≡ record { records = records ++ bookmark 7 (codes "m") 4 5 ∷ []; next = 8 }
unfolding before records head snapshot bookmark size
of-a-snapshot = refl

-- the snapshot that it marks may be gone
of-a-bookmark : bookmark_change before (codes "p/a#old") (codes "p/a#m") ≡ record { records = records ++ bookmark 7 (codes "m") 3 2 ∷ []; next = 8 }
unfolding before records head snapshot bookmark size
of-a-bookmark = refl
