use Rattle.std.proofs.Common.{◌≡◌, ap, ◌∙◌, ◌∷◌, ◌≤◌, inl, inr}
use Rattle.txg_core.specs.History.{takes, joined, synced}
use Rattle.txg_core.proofs.Driving.{within-or}
use Rattle.txg_core.proofs.KeptReply.{synced-by}
use Rattle.txg_core.specs.Openings.{origin_at}
use Rattle.shared_pool.proofs.Recording.{awaits-at, along, taken-is, taken-at, recording}
use Rattle.shared_pool.specs.Recordings.{one_entry_more}
use Rattle.shared_pool.proofs.recorded_core.RecordedCore.take.Goals as goal

pub take-requires : goal.take-requires
take-requires g c = let k = c.self in awaits-at g.O.Stated.means k.inside.opening.value k.inside.core k.inside.history.value c.args.self.now k.inside.core.spent c.args.session k.invariant k.view_is c.requires

pub invariant_of-self-2 : goal.invariant_of-self-2
invariant_of-self-2 g c = let k = c.self in let h = k.inside.history.value in let s = c.args.session in
    let d = c.in_ok-done.ensures.reply _ h k.invariant in
    let le : joined h s ≤ synced h = elim (within-or (synced h) (joined h s)) [
      | inl lt ↦ absurd (let no = (c.in_ok-done.ensures.early _ h k.invariant).1 lt in cc)
      | inr le ↦ le
    ] in
    along g.O.Stated.means k.inside.opening.value c.take.new.self (takes s d.0 ∷ h) c.after_take-history.result.value
    (c.after_take-history.ensures ∙ taken-is g.O.Stated.means k.inside.opening.value h s d.0 c.in_ok-done.done.reply d.1)
    (c.in_ok-done.ensures.stands _ h d.0 k.invariant (le, (c.in_ok-done.done.reply, d.1)))

pub returns-clause-made : goal.returns-clause-made
returns-clause-made g c = let k = c.self in let x = k.inside.opening.value in let h = k.inside.history.value in let s = c.args.session in let r = c.in_ok-done.done.reply in
    let d = c.in_ok-done.ensures.reply _ h k.invariant in
    let is : c.after_take-history.result.value ≡ takes s d.0 ∷ h = c.after_take-history.ensures ∙ taken-is g.O.Stated.means x h s d.0 r d.1 in
    let kept : recording x c.after_take-history.result.value c.take.new.self.spent ≡ one_entry_more (recording x h k.inside.core.spent) (takes s d.0) = ap (λ l. recording x l c.take.new.self.spent) is ∙ ap (λ b. recording x (takes s d.0 ∷ h) b) c.take.ensures.spent in
    taken-at g.O.Stated.means x h k.inside.core.spent c.args.self.now k.view_is s d.0 r (recording x c.after_take-history.result.value c.take.new.self.spent) kept d.1 (synced-by (origin_at g.O.Stated.means x) h s d.0 r k.invariant.legal d.1)
