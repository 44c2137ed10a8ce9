-- What a record says by itself.
use Rattle.std.specs.Prelude.{Bool, true, false}
use Rattle.zp_tree.specs.declared.item.HeadKind.{HeadKind}
use Rattle.zp_tree.specs.declared.item.HeadKind.TheVariants.{Filesystem, Volume}
use Rattle.zp_tree.specs.declared.item.Head.{Head}

abbrev pub is_volume_kind : HeadKind → Bool
is_volume_kind Filesystem = false
is_volume_kind Volume = true

abbrev pub is_volume : Head → Bool
is_volume d = is_volume_kind d.kind

abbrev pub is_mounted : Head → Bool
is_mounted d = d.mounted
