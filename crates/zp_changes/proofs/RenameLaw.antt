-- Renaming a dataset keeps a tree well formed.
use Rattle.std.proofs.Common.{◌≡◌, ℕ, List, length, true, sum_by, arith}
use Rattle.zp_names.specs.Names.{is_valid_name}
use Rattle.zp_tree.specs.Tree.{Tree, at, changed}
use Rattle.zp_tree.specs.Rows.{passed}
use Rattle.zp_tree.specs.WellFormed.{user_settings, IsWellFormed}
use Rattle.zp_tree.specs.Rename.{rename_check, renamed, rename_change}
use Rattle.zp_changes.specs.Renaming.{renamed-keeps}
use Rattle.zp_changes.proofs.Changed.{at-changed, rises-changed, length-changed, sum-changed}
use Rattle.zp_changes.proofs.Renamed.{settings-after, agrees-renamed}
use Rattle.zp_changes.proofs.RenameFacts.{passed-rename, is-rename}

pub rename-well : (t : Tree) (name to : List ℕ) → IsWellFormed t → is_valid_name to ≡ true → rename_check t name to ≡ passed → IsWellFormed (rename_change t name to)
rename-well t name to w valid e = record {
  rises = rises-changed (renamed name to) (renamed-keeps name to) 0 t.next t.records w.rises;
  agrees = agrees-renamed (at t.records) (at (changed (renamed name to) t.records)) name to (λ i. at-changed (renamed name to) (renamed-keeps name to) t.records i) w.agrees (is-rename t name to w valid (passed-rename t name to w e));
  few_records = (let same : length (changed (renamed name to) t.records) ≡ length t.records = length-changed (renamed name to) t.records in let few = w.few_records in omega arith);
  few_settings = (let same : sum_by user_settings (changed (renamed name to) t.records) ≡ sum_by user_settings t.records = sum-changed (renamed name to) user_settings (settings-after name to) t.records in let few = w.few_settings in omega arith);
}
