use Rattle.std.proofs.Common.{◌≡◌, sym, ap, ◌∙◌, eq-eqb}
use Rattle.zp_names.specs.declared.verdict.Verdict.{Verdict}
use Rattle.zp_tree.specs.Commands.{check_of}
use Rattle.zp_tree.proofs.Passing.{zero_passes}
use Rattle.pool_object.proofs.object.PoolSerialObject.apply.Goals as goal

pub apply-requires-clause-passed : goal.apply-requires-clause-passed
apply-requires-clause-passed g c =
    let t = g.T.Datasets.tree c.self.inside.tree in
    let command = c.in-Command.command in
    zero_passes t command (eq-eqb (check_of t command).errno 0 (sym (ap (λ (v : Verdict). v.errno) c.in_ok-verdict-in-Command.ensures) ∙ c.if-verdict-eq0.true))
