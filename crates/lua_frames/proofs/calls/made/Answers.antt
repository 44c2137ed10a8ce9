use Rattle.std.proofs.Common.{rules, ◌≡◌, ◌∙◌, IfOk, subst}
use Rattle.std.specs.Prelude.{codes}
use Rattle.lua_meaning.specs.declared.status.After.TheVariants.{OneText}
use Rattle.lua_steps.specs.Configuration.{Next}
use Rattle.lua_steps.specs.Effects.{failing}
use Rattle.lua_frames.proofs.OtherValues.{made_other}
use Rattle.lua_frames.proofs.calls.made.Goals as goal

pub returns : goal.returns
returns g c nodes =
    let now = c.args.configuration.now in
    let is : c.args.after ≡ OneText = search rules in
    let same : c.as_slice.result.now ≡ c.args.lines = search rules in
    let told = subst (λ ls. IfOk c.fail.result (λ m. ◌≡◌ {A = Next} (m, c.fail.new.self) (failing ls (codes "bad argument 1 to tostring") now))) same c.fail.ensures in
    rw is (rw (made_other nodes c.args.lines c.args.values now (λ s e. c.in_default.not-Text s (c.into_first.ensures ∙ e))) told)
