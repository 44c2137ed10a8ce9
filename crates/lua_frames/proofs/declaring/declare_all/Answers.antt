use Rattle.std.proofs.Common.{rules, ◌≡◌, ◌∙◌, ◌<◌, ◌+◌, true, sym, subst, All}
use Rattle.lua_meaning.specs.Values.{first}
use Rattle.lua_values.specs.Ids.{ids_of, IsOf}
use Rattle.lua_code.specs.CodeOf.{code_of}
use Rattle.lua_steps.specs.Effects.{declared}
use Rattle.lua_frames.proofs.Declarations.{goes_on, left_own}
use Rattle.lua_frames.proofs.declaring.declare_all.Goals as goal

pub loop-left-preserved : goal.loop-left-preserved
loop-left-preserved g c =
    let code = code_of c.args.parsed.now.chunk in
    let at = c.loop-left in
    let more : 0 < at.left = search rules in
    let told = subst (λ v. c.in_ok-declare.field-0 ≡ (declared code at.variable v at.configuration.heap at.configuration.call.locals).done) c.take_first.ensures.value c.in_ok-declare.ensures.told in
    let done : (declared code at.variable (first at.values) at.configuration.heap at.configuration.call.locals).done ≡ true = search rules in
    let after = c.in_ok-declare.ensures.after in
    let next : c.in-Some.next ≡ at.variable + 1 = search rules in (
      at.invariant.0 ∙ goes_on code at.variable at.left at.values at.configuration.heap at.configuration.call.locals more done ∙ search rules,
      search rules,
      subst (λ vs. All (IsOf (ids_of c.declare.new.configuration.heap)) vs) (sym c.take_first.ensures.others) (left_own at.configuration.heap c.declare.new.configuration.heap at.values c.in_ok-declare.ensures.keeps at.invariant.2),
    )
