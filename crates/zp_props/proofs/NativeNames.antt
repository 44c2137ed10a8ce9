-- The names of the native properties.
use Rattle.std.proofs.Common.{◌≡◌, refl, Some}
use Rattle.zp_props.specs.declared.prop.Prop.{Prop}
use Rattle.zp_props.specs.declared.prop.Prop.TheVariants as prop
use Rattle.zp_props.specs.Properties.{native, prop_named}

-- no two native properties have one name, and each is in the list of all
pub found_by_name : (p : Prop) → prop_named (native p).name ≡ Some p
found_by_name prop.DatasetType = refl
found_by_name prop.Guid = refl
found_by_name prop.Createtxg = refl
found_by_name prop.Stamp = refl
found_by_name prop.Origin = refl
found_by_name prop.Userrefs = refl
found_by_name prop.DeferDestroy = refl
found_by_name prop.Clones = refl
found_by_name prop.Readonly = refl
found_by_name prop.Atime = refl
found_by_name prop.Exec = refl
found_by_name prop.Setuid = refl
found_by_name prop.Devices = refl
found_by_name prop.Snapdir = refl
found_by_name prop.Sync = refl
found_by_name prop.Primarycache = refl
found_by_name prop.Copies = refl
found_by_name prop.Recordsize = refl
found_by_name prop.Canmount = refl
found_by_name prop.Volsize = refl
