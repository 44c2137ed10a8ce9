use Rattle.std.proofs.Common.{◌≡◌, ℕ, List, sym, ap, ◌∙◌}
use Rattle.std.specs.Prelude.{false, Some, is_some}
use Rattle.lua_scope.specs.ByName.{at_name}
use Rattle.lua_scope.proofs.NameTables.{at_changed}
use Rattle.lua_scope.proofs.Targets.{noted}
use Rattle.lua_scope.proofs.labels.note.Goals as goal

pub returns-in_ok-insert-clause-ok : goal.returns-in_ok-insert-clause-ok
returns-in_ok-insert-clause-ok c =
    let name = c.args.name.items in
    let absent : c.contains_key.result ≡ false = c.if-not-contains_key.true in
    let none = ap (λ (x : List ℕ). is_some (at_name x c.args.first.now)) (sym c.as_slice.ensures.value) ∙ (sym c.contains_key.ensures ∙ absent) in
    noted name c.args.first.now c.insert.new.self c.args.label none
    (at_changed name c.args.first.now c.insert.new.self (Some c.args.label) c.in_ok-insert.ensures.updates)
