use Rattle.std.proofs.Common.{rules, ◌≡◌, ◌∷◌, All, subst}
use Rattle.std.proofs.lemmas.List.Elements.{All-head}
use Rattle.lua_values.specs.Ids.{ids_of}
use Rattle.lua_steps.specs.Own.{IsOwnTarget}
use Rattle.lua_frames.proofs.assignments.store.Goals as goal

pub store_in-requires-clause-target : goal.store_in-requires-clause-target
store_in-requires-clause-target g c =
    let is : c.args.targets ≡ c.in-Some.target ∷ c.take_first.new.self = search rules in
    let all = subst (λ ts. All (IsOwnTarget (ids_of c.args.configuration.now.heap)) ts) is c.requires.targets in
    All-head (IsOwnTarget (ids_of c.args.configuration.now.heap)) c.in-Some.target c.take_first.new.self all
