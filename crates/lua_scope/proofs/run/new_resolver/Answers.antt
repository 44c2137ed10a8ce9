use Rattle.std.proofs.Common.{refl}
use Rattle.lua_scope.specs.declared.resolver.Resolver.{Resolver as Tables}
use Rattle.lua_scope.proofs.Runs.{resolved_none}
use Rattle.lua_scope.proofs.run.new_resolver.Goals as goal

pub returns : goal.returns
returns c =
    let new : Tables = record { scope = c.new.result; declared = 0; first = c.in_ok-first.first; meanings = c.in_ok-meanings.meanings; captured = c.in_ok-captured.captured; is_captured = c.new-2.result }
    in resolved_none c.args.nodes new c.new.ensures.variables c.new.ensures.frames refl (c.in_ok-first.ensures.items_if_clones_equal (λ y e. e)) c.in_ok-meanings.ensures c.in_ok-captured.ensures c.new-2.ensures.items
