use Rattle.std.proofs.Common.{◌≡◌, ◌↔◌, ℕ, Option, Some, option_map, slice_get, sym, subst, arith}
use Rattle.std.proofs.lemmas.Grind.{common_steps}
use Rattle.txg_core.specs.Enabled.{MayCome}
use Rattle.txg_core.specs.declared.event.Event.TheVariants as event
use Rattle.txg_core.proofs.Allowing.{first-may-come}
use Rattle.txg_core.proofs.state.Core.first_to_sync.Goals as goal

pub returns-clause-may_come : goal.returns-clause-may_come
returns-clause-may_come g c =
    let first : c.map.result ≡ option_map (λ t. t.session) (slice_get c.args.self.now.syncing_queue 0) = grind (arith, common_steps) in
    λ o h s st f. subst (λ (r : Option ℕ). (r ≡ Some s) ↔ MayCome o h (event.Sync s)) (sym first) (first-may-come g.O.Stated.means o c.args.self.now h s st f)
