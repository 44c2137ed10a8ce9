-- A promotion leaves each record its id.
use Rattle.std.proofs.Common.{◌≡◌, Bool, true, false, cond, Some, None, nat_eq, refl}
use Rattle.zp_tree.specs.declared.item.Item.{Item}
use Rattle.zp_tree.specs.declared.item.Item.TheVariants as item
use Rattle.zp_tree.specs.Tree.{id_of}
use Rattle.zp_tree.specs.declared.promotion.Promotion.{Promotion}
use Rattle.zp_tree.specs.Promote.{promoted, moves}

keeps-if : (b : Bool) (x y r : Item) → id_of y ≡ id_of r → cond b (Some y) None ≡ Some x → id_of x ≡ id_of r
keeps-if true x y r e h = let is : y ≡ x = cc in cc
keeps-if false x y r e h = cc

keeps-either : (b c : Bool) (x y z r : Item) → id_of y ≡ id_of r → id_of z ≡ id_of r → cond b (Some y) (cond c (Some z) None) ≡ Some x → id_of x ≡ id_of r
keeps-either true c x y z r e f h = let is : y ≡ x = cc in cc
keeps-either false c x y z r e f h = keeps-if c x z r f h

pub promoted-keeps : (m : Promotion) (r x : Item) → promoted m r ≡ Some x → id_of x ≡ id_of r
promoted-keeps m (item.Head d) x e = keeps-either (nat_eq d.id m.clone) (nat_eq d.id m.owner) x (item.Head (record d { origin = m.owner_origin })) (item.Head (record d { origin = Some m.origin })) (item.Head d) refl refl e
promoted-keeps m (item.Snap s) x e = keeps-if (moves m s) x (item.Snap (record s { owner = m.clone })) (item.Snap s) refl e
promoted-keeps m (item.Mark b) x e = cc
