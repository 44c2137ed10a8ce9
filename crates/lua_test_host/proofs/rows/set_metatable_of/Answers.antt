use Rattle.std.proofs.Common.{◌<◌, length}
use Rattle.lua_values.specs.Ids.{ids_of}
use Rattle.lua_test_host.proofs.rows.set_metatable_of.Goals as goal

pub with_meta-requires-clause-meta : goal.with_meta-requires-clause-meta
with_meta-requires-clause-meta g c = c.in-Some.ensures.own (ids_of c.args.heap.now) c.requires.args
