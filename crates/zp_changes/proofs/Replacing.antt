-- A well-formed tree in which one record is replaced.
use Rattle.std.proofs.Common.{◌≡◌, ℕ, [], length, true, Some, is_some, sym, ap, subst, ◌⊎◌, sum_by, arith}
use Rattle.zp_tree.specs.declared.item.Item.{Item}
use Rattle.zp_tree.specs.declared.item.Item.TheVariants as item
use Rattle.zp_tree.specs.declared.item.Head.{Head}
use Rattle.zp_tree.specs.declared.item.Snapshot.{Snapshot}
use Rattle.zp_tree.specs.Tree.{Tree, at, id_of, put, replaced}
use Rattle.zp_tree.specs.WellFormed.{snapshot_in, user_settings, IsHead, IsSnapshot, HasClone, Agrees, IsWellFormed}
use Rattle.zp_tree.proofs.Rising.{rises-put}
use Rattle.zp_tree.proofs.Edits.{edit, look-put, length-put}
use Rattle.zp_tree.proofs.Changing.{agrees-changed-head, agrees-changed-snapshot}
use Rattle.zp_tree.proofs.Sums.{sum-put}

replaced-well : (t : Tree) (r x : Item) → IsWellFormed t → at t.records (id_of x) ≡ Some r → Agrees (edit (at t.records) (id_of x) (Some x)) → user_settings x ≡ user_settings r → IsWellFormed (replaced t x)
replaced-well t r x w there agrees weight = record {
  rises = rises-put 0 t.next x t.records w.rises;
  agrees = subst Agrees (sym (look-put x t.records (ap is_some there))) agrees;
  few_records = (let same : length (put x t.records) ≡ length t.records = length-put x t.records in let few = w.few_records in omega arith);
  few_settings = (let same : sum_by user_settings (put x t.records) ≡ sum_by user_settings t.records = sum-put user_settings x r t.records there weight in let few = w.few_settings in omega arith);
}

-- a head that keeps its id, name, kind, origin and settings
pub changed-head-well : (t : Tree) (d e : Head) → IsWellFormed t → at t.records e.id ≡ Some (item.Head d) → (IsHead d → IsHead e) → e.name ≡ d.name → e.kind ≡ d.kind → e.origin ≡ d.origin → user_settings (item.Head e) ≡ user_settings (item.Head d) → IsWellFormed (replaced t (item.Head e))
changed-head-well t d e w there good name kind origin weight =
    replaced-well t (item.Head d) (item.Head e) w there (agrees-changed-head (at t.records) e.id d e there w.agrees (good (w.agrees.records e.id (item.Head d) there)) name kind origin) weight

-- a snapshot that keeps its id and owner, with a short name that no other snapshot of the owner has
pub changed-snapshot-well : (t : Tree) (r s : Snapshot) → IsWellFormed t → at t.records s.id ≡ Some (item.Snap r) → (IsSnapshot r → IsSnapshot s) → s.owner ≡ r.owner →
    ((i : ℕ) (u : Snapshot) → snapshot_in (at t.records) i ≡ Some u → (i ≡ s.id → ⊥) → u.owner ≡ s.owner → u.short ≡ s.short → ⊥) →
    (s.deferred ≡ true → (¬ (s.holds ≡ [])) ⊎ HasClone (at t.records) s.id) →
    user_settings (item.Snap s) ≡ user_settings (item.Snap r) → IsWellFormed (replaced t (item.Snap s))
changed-snapshot-well t r s w there good owner new why weight =
    replaced-well t (item.Snap r) (item.Snap s) w there (agrees-changed-snapshot (at t.records) s.id r s there w.agrees (good (w.agrees.records s.id (item.Snap r) there)) owner new why) weight
