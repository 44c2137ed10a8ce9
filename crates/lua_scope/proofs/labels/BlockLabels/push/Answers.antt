use Rattle.std.proofs.Common.{◌≡◌, ℕ, List, [], ◌∷◌, ◌++◌, length, sym, ap, subst, ◌∙◌}
use Rattle.std.specs.Prelude.{Some, None, cond, bytes_eq}
use Rattle.std.specs.Option.{option_or}
use Rattle.lua_scope.specs.declared.occurrence.Label.{Label}
use Rattle.lua_scope.specs.ByName.{at_name}
use Rattle.lua_scope.specs.FirstLabels.{HasFirstLabels}
use Rattle.lua_scope.proofs.Targets.{pushed_next}
use Rattle.lua_scope.proofs.labels.BlockLabels.push.Goals as goal

pub invariant_of-self-2 : goal.invariant_of-self-2
invariant_of-self-2 c =
    let key : List ℕ = c.in_ok-key.key.items in
    let old = c.self.inside.labels.items in
    let new = c.note.new.first in
    let with : List ℕ → Label = λ x. record { name = x; locals = c.args.locals } in
    let same : key ≡ c.in_ok-name.name = c.in_ok-key.ensures.items ∙ (c.as_slice.ensures ∙ sym c.in_ok-name.ensures) in
    let noted = subst (λ (n : ℕ). (x : List ℕ) → at_name x new ≡ option_or (at_name x c.self.inside.first) (cond (bytes_eq key x) (Some (record { place = n; locals = c.args.locals })) None))
    (c.len-place.ensures ∙ ap length (sym c.self.view_is)) c.in_ok-note.ensures.ok in
    let next = pushed_next old c.self.inside.first new key c.args.locals c.self.invariant noted in
    let items = c.push_reserved.ensures.items ∙ ap (λ (ls : List Label). ls ++ with c.in_ok-name.name ∷ []) c.reserve.ensures.items in
    subst (λ (ls : List Label). HasFirstLabels ls new) (sym items)
    (subst (λ (x : List ℕ). HasFirstLabels (old ++ with x ∷ []) new) same next)
