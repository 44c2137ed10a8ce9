use Rattle.std.specs.Prelude.{Some}
use Rattle.lua_scope.proofs.NameTables.{at_changed}
use Rattle.lua_scope.proofs.visible.restore.Goals as goal

pub returns-in-Some : goal.returns-in-Some
returns-in-Some c =
    at_changed c.args.name.now c.args.meanings.now (c.get_mut.follows.lender c.args.meaning) (Some c.args.meaning) ((c.get_mut.follows.holds c.args.meaning).3 c.requires)
