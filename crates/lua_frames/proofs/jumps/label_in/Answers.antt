use Rattle.std.proofs.Common.{rules, ◌≡◌, ◌∙◌, ◌+◌, Some, false, ap, sym, slice_get, drop}
use Rattle.lua_steps.specs.Parts.{of_part, list_at}
use Rattle.lua_steps.specs.Passed.{is_label_of, locals_left, label_from}
use Rattle.lua_frames.proofs.Labels.{label_further, place_within}
use Rattle.lua_frames.proofs.jumps.label_in.Goals as goal

pub loop-statement-preserved : goal.loop-statement-preserved
loop-statement-preserved c =
    let nodes = c.args.chunk.now.nodes in
    let stats = list_at nodes c.args.block in
    let at = c.loop-statement in
    let there : slice_get stats at.place ≡ Some c.in-Some.statement = search rules in
    let no : of_part nodes false (is_label_of c.name-name.result.now) c.in-Some.statement ≡ false = search rules in
    let more : c.in-Some-checked_add.more ≡ at.locals + of_part nodes 0 locals_left c.in-Some.statement = search rules in (
      at.invariant.0 ∙ label_further nodes c.name-name.result.now stats at.place at.locals c.in-Some.statement there no
          ∙ ap (λ n. label_from nodes c.name-name.result.now (at.place + 1) n (drop (at.place + 1) stats)) (sym more),
      place_within stats at.place c.in-Some.statement there,
    )
