use Rattle.std.proofs.Common.{rules, ◌≡◌, ◌∷◌, ◌∙◌, ◌+◌, [], ap, sym, subst, drop, true, false, All}
use Rattle.std.specs.Prelude.{pos}
use Rattle.std.specs.Option.{is_some}
use Rattle.lua_meaning.specs.declared.value.Value.TheVariants as value
use Rattle.lua_meaning.specs.Values.{first}
use Rattle.lua_values.specs.Ids.{ids_of, IsOf}
use Rattle.lua_steps.specs.Configuration.{with_heap}
use Rattle.lua_steps.specs.Effects.{put_in, put_all}
use Rattle.lua_configuration.proofs.Putting.{goes_on, stops, left_own, others}
use Rattle.lua_configuration.proofs.configuration.Configuration.put_all.Goals as goal

pub returns-then-is_some-clause-fault : goal.returns-then-is_some-clause-fault
returns-then-is_some-clause-fault g c rest =
    let some : c.loop-table.values ≡ [] → ⊥ = search rules in
    let told = subst (λ v. c.in_ok-fault.fault ≡ (put_in (c.args.line ∷ rest) c.args.table (value.Int (pos c.loop-table.count)) v c.loop-table.self.heap).0) c.take_first-value.ensures.value (c.in_ok-fault.ensures.told rest) in
    let is = subst (λ o. is_some o ≡ true) told (search rules) in
    told ∙ ap (λ q. q.fault) (sym (c.loop-table.invariant.0 rest ∙ stops (c.args.line ∷ rest) c.args.table c.loop-table.count c.loop-table.values c.loop-table.self.heap some is))

pub returns-then-is_some-clause-count : goal.returns-then-is_some-clause-count
returns-then-is_some-clause-count g c rest =
    let some : c.loop-table.values ≡ [] → ⊥ = search rules in
    let told = subst (λ v. c.in_ok-fault.fault ≡ (put_in (c.args.line ∷ rest) c.args.table (value.Int (pos c.loop-table.count)) v c.loop-table.self.heap).0) c.take_first-value.ensures.value (c.in_ok-fault.ensures.told rest) in
    let is = subst (λ o. is_some o ≡ true) told (search rules) in
    ap (λ q. q.count) (sym (c.loop-table.invariant.0 rest ∙ stops (c.args.line ∷ rest) c.args.table c.loop-table.count c.loop-table.values c.loop-table.self.heap some is))

pub returns-then-is_some-clause-after : goal.returns-then-is_some-clause-after
returns-then-is_some-clause-after g c rest =
    let some : c.loop-table.values ≡ [] → ⊥ = search rules in
    let told = subst (λ v. c.in_ok-fault.fault ≡ (put_in (c.args.line ∷ rest) c.args.table (value.Int (pos c.loop-table.count)) v c.loop-table.self.heap).0) c.take_first-value.ensures.value (c.in_ok-fault.ensures.told rest) in
    let is = subst (λ o. is_some o ≡ true) told (search rules) in
    let heap = subst (λ v. c.put_item.new.self ≡ with_heap (put_in (c.args.line ∷ rest) c.args.table (value.Int (pos c.loop-table.count)) v c.loop-table.self.heap).1 c.loop-table.self) c.take_first-value.ensures.value (c.in_ok-fault.ensures.heap rest) in
    heap ∙ ap (λ x. with_heap (put_in (c.args.line ∷ rest) c.args.table (value.Int (pos c.loop-table.count)) (first c.loop-table.values) c.loop-table.self.heap).1 x) c.loop-table.invariant.1 ∙ ap (λ q. with_heap q.heap c.args.self.now) (sym (c.loop-table.invariant.0 rest ∙ stops (c.args.line ∷ rest) c.args.table c.loop-table.count c.loop-table.values c.loop-table.self.heap some is))

pub loop-table-preserved : goal.loop-table-preserved
loop-table-preserved g c = (
  (λ rest.
      let some : c.loop-table.values ≡ [] → ⊥ = search rules in
      let told = subst (λ v. c.in_ok-fault.fault ≡ (put_in (c.args.line ∷ rest) c.args.table (value.Int (pos c.loop-table.count)) v c.loop-table.self.heap).0) c.take_first-value.ensures.value (c.in_ok-fault.ensures.told rest) in
      let is = subst (λ o. is_some o ≡ false) told (search rules) in
      let heap = subst (λ v. c.put_item.new.self ≡ with_heap (put_in (c.args.line ∷ rest) c.args.table (value.Int (pos c.loop-table.count)) v c.loop-table.self.heap).1 c.loop-table.self) c.take_first-value.ensures.value (c.in_ok-fault.ensures.heap rest) in
      c.loop-table.invariant.0 rest ∙ goes_on (c.args.line ∷ rest) c.args.table c.loop-table.count c.loop-table.values c.loop-table.self.heap some is ∙ ap (λ h. put_all (c.args.line ∷ rest) c.args.table (c.loop-table.count + 1) (drop 1 c.loop-table.values) h) (ap (λ x. x.heap) (sym heap))
      ∙ ap (λ vs. put_all (c.args.line ∷ rest) c.args.table (c.loop-table.count + 1) vs c.put_item.new.self.heap) (sym c.take_first-value.ensures.others)),
  others c.args.self.now c.loop-table.self c.put_item.new.self (put_in (c.args.line ∷ []) c.args.table (value.Int (pos c.loop-table.count)) c.take_first-value.result c.loop-table.self.heap).1 c.loop-table.invariant.1 (c.in_ok-fault.ensures.heap []),
  search rules,
  subst (λ vs. All (IsOf (ids_of c.put_item.new.self.heap)) vs) (sym c.take_first-value.ensures.others) (left_own c.loop-table.self.heap c.put_item.new.self.heap c.loop-table.values c.in_ok-fault.ensures.keeps c.loop-table.invariant.3),
)
