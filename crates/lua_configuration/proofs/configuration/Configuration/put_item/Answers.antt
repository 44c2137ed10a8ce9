use Rattle.std.proofs.Common.{rules, ◌≡◌, ◌∷◌, IfOk, subst}
use Rattle.std.specs.Prelude.{pos}
use Rattle.lua_meaning.specs.declared.value.Value.TheVariants as value
use Rattle.lua_steps.specs.Configuration.{with_heap}
use Rattle.lua_steps.specs.Effects.{put_in}
use Rattle.lua_configuration.proofs.configuration.Configuration.put_item.Goals as goal

pub returns-clause-told : goal.returns-clause-told
returns-clause-told g c rest =
    let is : c.in-Some.key ≡ value.Int (pos c.args.place) = search rules in
    subst (λ z. IfOk c.put_in.result (λ fault. fault ≡ (put_in (c.args.line ∷ rest) c.args.table z c.args.value c.args.self.now.heap).0)) is (c.put_in.ensures.told rest)

pub returns-clause-heap : goal.returns-clause-heap
returns-clause-heap g c rest =
    let is : c.in-Some.key ≡ value.Int (pos c.args.place) = search rules in
    subst (λ z. IfOk c.put_in.result (λ x. c.put_in.new.self ≡ with_heap (put_in (c.args.line ∷ rest) c.args.table z c.args.value c.args.self.now.heap).1 c.args.self.now)) is (c.put_in.ensures.heap rest)
