-- Creating a file system keeps a tree well formed.
use Rattle.std.proofs.Common.{◌≡◌, ℕ, ◌+◌, ◌≤◌, List, [], ◌∷◌, ◌++◌, length, true, Option, Some, None, is_some, refl, sym, ap, subst, ◌∙◌, arith, sum_by, length-append}
use Rattle.std.proofs.lemmas.List.Sums.{sum_by-append}
use Rattle.zp_names.specs.Names.{is_valid_name, is_head}
use Rattle.zp_props.specs.Settings.{user_count}
use Rattle.zp_props.proofs.NoSettings.{no_settings}
use Rattle.zp_tree.specs.declared.item.Item.TheVariants as item
use Rattle.zp_tree.specs.declared.item.Head.{Head}
use Rattle.zp_tree.specs.Tree.{Tree, at, parent_in, added}
use Rattle.zp_tree.specs.WellFormed.{user_settings, IsHead, Agrees, IsWellFormed}
use Rattle.zp_tree.specs.Rows.{passed}
use Rattle.zp_tree.specs.Create.{create_check, create_rows, create_change}
use Rattle.zp_tree.proofs.Rising.{rises-added, id-below}
use Rattle.zp_tree.proofs.Edits.{at-new, look-added}
use Rattle.zp_tree.proofs.Adding.{agrees-head}
use Rattle.zp_tree.proofs.Clear.{clear, not-false}
use Rattle.zp_tree.proofs.Found.{is-head, free-name, parent-there, room-left}

-- a head without origin and settings of user properties, which has the next id, where the rows let its name pass
pub head-created : (t : Tree) (d : Head) → IsWellFormed t → IsHead d → d.id ≡ t.next → d.origin ≡ None → user_count d.settings ≡ 0 → create_check t d.name ≡ passed → IsWellFormed (added t (item.Head d))
head-created t d w good id origin settings e =
    let rows = clear (create_rows t d.name) refl e in
    let x = item.Head d in
    let pool = w.agrees.pool in
    let below : pool.id + 1 ≤ t.next = id-below 0 t.next pool.id t.records (item.Head pool.head) w.rises (is-head (at t.records pool.id) pool.head pool.there) in record {
      rises = rises-added 0 t.next t.records x w.rises id;
      agrees = subst Agrees (sym (look-added t.next t.records x w.rises id)) (agrees-head (at t.records) t.next d (at-new 0 t.next t.records w.rises) w.agrees (omega arith)
          good
          (λ i f h same. free-name t d.name i f rows.1.0 h same)
          (parent-there t d.name w (not-false (is_some (parent_in t d.name)) rows.1.1.0) rows.1.1.1.0)
          (λ o h. let none : None ≡ Some o = sym origin ∙ h in cc));
      few_records = let less = room-left t rows.1.1.1.1.0 in let size : length (t.records ++ x ∷ []) ≡ length t.records + 1 = length-append t.records (x ∷ []) in omega arith;
      few_settings = let size : sum_by user_settings (t.records ++ x ∷ []) ≡ sum_by user_settings t.records + (0 + user_settings x) = sum_by-append user_settings t.records (x ∷ []) in let none : user_settings x ≡ 0 = settings in let before = w.few_settings in omega arith;
    }

-- the law
pub create-well : (t : Tree) (name : List ℕ) (txg : ℕ) → IsWellFormed t → is_valid_name name ≡ true → create_check t name ≡ passed → IsWellFormed (create_change t name txg)
create-well t name txg w valid e =
    let rows = clear (create_rows t name) refl e in
    head-created t _ w (record { name = valid; form = not-false (is_head name) rows.0; settings = no_settings; size = λ v. cc }) refl refl refl e
