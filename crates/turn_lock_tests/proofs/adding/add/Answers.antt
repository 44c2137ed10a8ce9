use Rattle.std.proofs.Common.{ap, ◌∙◌}
use Rattle.turn_lock_tests.proofs.Counting.{adds, adds_one}
use Rattle.turn_lock_tests.proofs.adding.add.Goals as goal

pub give-requires-clause-made : goal.give-requires-clause-made
give-requires-clause-made g c = adds c.add-added.result c.take-numbers.result.items.items c.add-added.new.self.items.items c.take-numbers.new.seat.seen c.list-list.result.value c.take-numbers.new.seat.numbers c.args.number
    c.add-added.ensures.added c.add-added.ensures.same c.take-numbers.ensures.stands c.list-list.ensures (ap (λ s. s.numbers) c.take-numbers.ensures.seat ∙ c.requires.number)

pub returns-clause-more : goal.returns-clause-more
returns-clause-more g c = adds_one c.add-added.result c.args.seat.now.seen c.take-numbers.result.items.items c.add-added.new.self.items.items c.take-numbers.new.seat.seen c.list-list.result.value c.args.seat.now.numbers c.give.new.seat.seen c.args.number
    c.add-added.ensures.added c.take-numbers.ensures.stands c.list-list.ensures c.requires.number c.take-numbers.ensures.seen (ap (λ s. s.seen) c.give.ensures)
