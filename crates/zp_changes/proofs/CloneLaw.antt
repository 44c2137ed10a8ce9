-- Making a clone keeps a tree well formed.
use Rattle.std.proofs.Common.{◌≡◌, ℕ, ◌+◌, ◌≤◌, List, [], ◌∷◌, ◌++◌, length, true, ◌&&◌, Option, Some, None, IsSome, is_some, refl, sym, ap, subst, arith, sum_by, length-append, option_and_then}
use Rattle.std.specs.Option.{option_map_or}
use Rattle.std.proofs.lemmas.Bool.{and_parts}
use Rattle.std.proofs.lemmas.List.Sums.{sum_by-append}
use Rattle.zp_names.specs.Names.{is_valid_name, is_head}
use Rattle.zp_names.specs.NameParts.{is_snapshot_name}
use Rattle.zp_tree.specs.declared.item.Item.TheVariants as item
use Rattle.zp_tree.specs.declared.item.Head.{Head}
use Rattle.zp_tree.specs.declared.item.Snapshot.{Snapshot}
use Rattle.zp_tree.specs.Tree.{Tree, at, as_snapshot, parent_in, head_at, snapshot_named, added}
use Rattle.zp_tree.specs.WellFormed.{snapshot_in, user_settings, IsHead, Agrees, IsWellFormed}
use Rattle.zp_tree.specs.Rows.{passed}
use Rattle.zp_tree.specs.MakeClone.{clone_check, clone_rows, clone_change, new_clone, with_clone}
use Rattle.zp_tree.proofs.Rising.{rises-added, id-below}
use Rattle.zp_tree.proofs.Edits.{at-new, look-added}
use Rattle.zp_tree.proofs.Adding.{agrees-head}
use Rattle.zp_tree.proofs.Clear.{clear, not-false}
use Rattle.zp_tree.proofs.Found.{is-head, free-name, parent-there, room-left, snapshot-found}
use Rattle.zp_changes.proofs.CloneSettings.{clone-good, volume-kind, kind-volume}

pub clone-well : (t : Tree) (source name : List ℕ) (txg : ℕ) → IsWellFormed t → is_valid_name name ≡ true → clone_check t source name ≡ passed → IsWellFormed (clone_change t source name txg)
clone-well t source name txg w valid e = go (snapshot_named t source) refl
  where
    owned-by : (s : Snapshot) → snapshot_named t source ≡ Some s → (o : Option Head) → head_at t s.owner ≡ o → IsWellFormed (option_map_or (λ d. added t (new_clone t.next name txg s d)) o t)
    owned-by s f None g = w
    owned-by s f (Some d) g =
        let rows = clear (clone_rows t source name) refl e in
        let x = new_clone t.next name txg s d in
        let form = (and_parts (is_snapshot_name source) (is_head name) (not-false (is_snapshot_name source && is_head name) rows.0)).1 in
        let there = (snapshot-found t source s w f).0 in
        let owner : IsHead d = w.agrees.records s.owner (item.Head d) (is-head (at t.records s.owner) d g) in
        let good = clone-good d owner.settings (λ v. owner.size (kind-volume d.kind v)) in
        let pool = w.agrees.pool in
        let below : pool.id + 1 ≤ t.next = id-below 0 t.next pool.id t.records (item.Head pool.head) w.rises (is-head (at t.records pool.id) pool.head pool.there) in record {
          rises = rises-added 0 t.next t.records x w.rises refl;
          agrees = subst Agrees (sym (look-added t.next t.records x w.rises refl)) (agrees-head (at t.records) t.next _ (at-new 0 t.next t.records w.rises) w.agrees (omega arith)
              (record { name = valid; form = form; settings = good.settings_are; size = λ v. good.sized (volume-kind d.kind v) })
              (λ i f h same. free-name t name i f rows.1.0 h same)
              (parent-there t name w (not-false (is_some (parent_in t name)) rows.1.1.0) rows.1.1.1.0)
              (λ o h. (let is : Some s.id ≡ Some o = h in let it : s.id ≡ o = cc in subst (λ k. IsSome (snapshot_in (at t.records) k)) it (ap (λ q. is_some (option_and_then as_snapshot q)) there))));
          few_records = let less = room-left t rows.1.1.1.1.1.0 in let size : length (t.records ++ x ∷ []) ≡ length t.records + 1 = length-append t.records (x ∷ []) in omega arith;
          few_settings = let size : sum_by user_settings (t.records ++ x ∷ []) ≡ sum_by user_settings t.records + (0 + user_settings x) = sum_by-append user_settings t.records (x ∷ []) in let none : user_settings x ≡ 0 = good.no_user in let before = w.few_settings in omega arith;
        }

    go : (o : Option Snapshot) → snapshot_named t source ≡ o → IsWellFormed (option_map_or (with_clone t name txg) o t)
    go None f = w
    go (Some s) f = owned-by s f (head_at t s.owner) refl
