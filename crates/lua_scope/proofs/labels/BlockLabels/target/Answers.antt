use Rattle.std.proofs.Common.{◌≡◌, ℕ, List, sym, ap, ◌∙◌}
use Rattle.std.specs.Prelude.{Bool, cond, Some, true, false, nat_lt}
use Rattle.std.proofs.lemmas.Bool.Decides.{Decides-ltb}
use Rattle.lua_scope.specs.ByName.{at_name}
use Rattle.lua_scope.proofs.Targets.{aimed, not_below}
use Rattle.lua_scope.proofs.labels.BlockLabels.target.Goals as goal

pub returns-in_err-first : goal.returns-in_err-first
returns-in_err-first c =
    let read = c.copied.ensures ∙ (c.get.ensures.value ∙ (ap (λ (x : List ℕ). at_name x c.self.inside.first) c.as_slice.ensures ∙ c.self.invariant c.args.name.now)) in
    c.from_residual.ensures ∙ aimed c.args.name.now c.args.inside c.self.inside.labels.items c.args.self.now _ (sym c.in_err-first.was ∙ read) c.self.view_is

pub returns-then-first-inside : goal.returns-then-first-inside
returns-then-first-inside c =
    let read = c.copied.ensures ∙ (c.get.ensures.value ∙ (ap (λ (x : List ℕ). at_name x c.self.inside.first) c.as_slice.ensures ∙ c.self.invariant c.args.name.now)) in
    let first = c.in_ok-first.first in
    let inside : nat_lt first.place c.args.inside ≡ true = (Decides-ltb first.place c.args.inside).1 c.if-first-inside.true in
    sym (ap (λ (b : Bool). Some (cond b first.locals 0)) inside)
    ∙ aimed c.args.name.now c.args.inside c.self.inside.labels.items c.args.self.now _ (sym c.in_ok-first.was ∙ read) c.self.view_is

pub returns-else-first-inside : goal.returns-else-first-inside
returns-else-first-inside c =
    let read = c.copied.ensures ∙ (c.get.ensures.value ∙ (ap (λ (x : List ℕ). at_name x c.self.inside.first) c.as_slice.ensures ∙ c.self.invariant c.args.name.now)) in
    let first = c.in_ok-first.first in
    let outside : nat_lt first.place c.args.inside ≡ false = not_below first.place c.args.inside c.if-first-inside.false in
    sym (ap (λ (b : Bool). Some (cond b first.locals 0)) outside)
    ∙ aimed c.args.name.now c.args.inside c.self.inside.labels.items c.args.self.now _ (sym c.in_ok-first.was ∙ read) c.self.view_is
