use Rattle.std.proofs.Common.{rules}
use Rattle.lua_code.specs.CodeOf.{code_of}
use Rattle.lua_frames.proofs.stepping.step.Goals as goal

pub returns-in-Leave : goal.returns-in-Leave
returns-in-Leave g c = let told = c.leave.ensures c.args.parsed.now.chunk.nodes (code_of c.args.parsed.now.chunk) in search rules

pub returns-in-Break : goal.returns-in-Break
returns-in-Break g c = let told = c.break_out.ensures c.args.parsed.now.chunk.nodes (code_of c.args.parsed.now.chunk) in search rules

pub returns-in-Jump : goal.returns-in-Jump
returns-in-Jump g c = let told = c.jump.ensures (code_of c.args.parsed.now.chunk) in search rules

pub returns-in-Turn : goal.returns-in-Turn
returns-in-Turn g c = let told = c.turn.ensures (code_of c.args.parsed.now.chunk) in search rules

pub returns-in-Round : goal.returns-in-Round
returns-in-Round g c = let told = c.round.ensures (code_of c.args.parsed.now.chunk) in search rules

pub returns-in-Open : goal.returns-in-Open
returns-in-Open g c = let told = c.open.ensures (code_of c.args.parsed.now.chunk) in search rules

pub returns-in-Next : goal.returns-in-Next
returns-in-Next g c = let told = c.next_values.ensures (code_of c.args.parsed.now.chunk) in search rules

pub returns-in-Return : goal.returns-in-Return
returns-in-Return g c = let told = c.return_values.ensures (code_of c.args.parsed.now.chunk) in search rules

pub returns-in-Apply : goal.returns-in-Apply
returns-in-Apply g c = let told = c.apply.ensures (code_of c.args.parsed.now.chunk) in search rules

pub returns-in-Made : goal.returns-in-Made
returns-in-Made g c = let told = c.made.ensures c.args.parsed.now.chunk.nodes in search rules
