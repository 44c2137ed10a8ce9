use Rattle.lua_code.specs.CodeOf.{code_of}
use Rattle.lua_frames.proofs.OtherValues.{called_other}
use Rattle.lua_frames.proofs.calls.call.Goals as goal

pub returns-in_default : goal.returns-in_default
returns-in_default g c =
    let chunk = c.args.parsed.now.chunk in
    rw (called_other chunk.nodes (code_of chunk) c.args.function c.args.args c.args.lines c.args.is_own c.args.configuration.now c.in_default.not-Closure c.in_default.not-Builtin c.in_default.not-Iter)
    (c.call_by_metamethod.ensures chunk.nodes)
