use Rattle.lua_frames.proofs.fields.put_entry.Goals as goal

pub returns : goal.returns
returns g c = rw (← c.line_number-line.ensures) (c.put.ensures c.args.configuration.now.call.lines)
