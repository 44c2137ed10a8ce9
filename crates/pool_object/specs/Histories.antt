-- Where the calls of sessions on a pool begin.
use Rattle.std.specs.Prelude.{ℕ, List}
use Rattle.zp_tree.specs.Tree.{Tree}
use Rattle.zp_calls.specs.declared.call.Call.{Call}
use Rattle.zp_calls.specs.declared.reply.Reply.{Reply}
use Rattle.txg_core.specs.Rules.{Origin}
use Rattle.pool_object.specs.Pool.{pool_rules}

-- on a pool with this tree in which it is this moment
abbrev pub pool_origin : ℕ → Tree → List ℕ → Origin Tree Call Reply
pool_origin now t counts = record { rules = pool_rules now; world = t; counts = counts }
