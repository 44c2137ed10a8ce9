use Rattle.std.proofs.Common.{arith}
use Rattle.lua_steps.proofs.NodeTrees.{is_there, past_end}
use Rattle.lua_transitions.proofs.parts.node_at.Goals as goal

pub returns-then-index-len-clause-there : goal.returns-then-index-len-clause-there
returns-then-index-len-clause-there c = is_there c.args.chunk.now.nodes c.args.id c.node.result.now c.node.ensures.node c.node.ensures.tree

pub returns-else-index-len-clause-past : goal.returns-else-index-len-clause-past
returns-else-index-len-clause-past c = past_end c.args.chunk.now.nodes c.args.id (omega (arith, c.if-index-len.false, c.len.ensures.count, c.index.ensures))
