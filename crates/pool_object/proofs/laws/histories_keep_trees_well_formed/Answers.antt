use Rattle.pool_object.specs.Histories.{pool_origin}
use Rattle.pool_object.proofs.laws.histories_keep_trees_well_formed.Goals as goal

pub returns-clause-world : goal.returns-clause-world
returns-clause-world c = λ now t counts h w valid.
    let keeps = c.calls_keep_trees_well_formed.ensures.tree in
    c.kept_by_doing.ensures.world (pool_origin now t counts) h (λ u d group named well. keeps now u d group well named) w valid

pub returns-clause-replies : goal.returns-clause-replies
returns-clause-replies c = λ now t counts h s w valid.
    let keeps = c.calls_keep_trees_well_formed.ensures in
    c.kept_by_doing.ensures.given (pool_origin now t counts) h s (λ u d group named well. keeps.tree now u d group well named) (λ u d group named well. keeps.reply now u d group well) w valid
