use Rattle.std.proofs.Common.{◌≡◌, ◌∙◌}
use Rattle.std.proofs.lemmas.Result.{IfOk-weaker}
use Rattle.zp_tree.specs.Promote.{names_in_the_way}
use Rattle.zp_checks.proofs.Naming.{in-the-way}
use Rattle.zp_checks.proofs.promote.names_in_the_way.Goals as goal

pub returns : goal.returns
returns g c =
    let t = g.T.Datasets.tree c.args.tree.now in
    let m = c.args.promotion.now in
    IfOk-weaker c.into_texts.result (λ names. names ≡ c.in_ok-names.names) (λ names. names ≡ names_in_the_way t m) (λ names is. is ∙ c.in_ok-names.ensures ∙ in-the-way t m c.in_ok-own.own c.in_ok-own.ensures) c.into_texts.ensures
