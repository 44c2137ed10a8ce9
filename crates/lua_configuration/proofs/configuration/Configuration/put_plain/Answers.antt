use Rattle.lua_configuration.proofs.configuration.Configuration.put_plain.Goals as goal

pub returns : goal.returns
returns g c = rw (← c.line_number.ensures) (rw (← c.new.ensures) (c.put.ensures c.args.self.now.call.lines))
