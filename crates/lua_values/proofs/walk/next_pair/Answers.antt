use Rattle.std.proofs.Common.{◌∙◌, sym, slice_get, drop, refl, ap, option_map}
use Rattle.lua_values.proofs.Walking.{walks_to}
use Rattle.lua_values.proofs.walk.next_pair.Goals as goal

pub returns-in-Err-clause-fails : goal.returns-in-Err-clause-fails
returns-in-Err-clause-fails c =
    let ps = c.args.table.now.pairs in
    let behind = sym c.place_behind.ensures.behind ∙ ap (option_map (λ place. drop place ps)) c.in-Some.is in (
      slice_get ps c.in_ok-place.place,
      walks_to ps c.args.key.now c.args.budget.now c.skip.new.budget c.in-Some.from c.in_ok-place.place (slice_get ps c.in_ok-place.place)
          behind c.in_ok-place.ensures.place c.in_ok-place.ensures.enough c.in_ok-place.ensures.used refl,
    )
