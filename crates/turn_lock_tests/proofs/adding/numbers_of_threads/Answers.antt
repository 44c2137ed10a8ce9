use Rattle.std.proofs.Common.{ap, ◌∙◌, reverse}
use Rattle.turn_lock_tests.proofs.Counting.{every_number, all_left}
use Rattle.turn_lock_tests.proofs.adding.numbers_of_threads.Goals as goal

pub close-items-requires-clause-every : goal.close-items-requires-clause-every
close-items-requires-clause-every g c = every_number c.args.threads c.in_ok-lock.lock.numbers c.in_ok-lock.seat.numbers c.add_by_threads.new.seat.numbers c.in_ok-lock.ensures.numbers (ap (λ s. s.numbers) c.in_ok-lock.ensures.seat) c.in_ok-add_by_threads.ensures.numbers

pub returns : goal.returns
returns g c = all_left c.args.threads c.args.turns c.in_ok-lock.seat.numbers c.add_by_threads.new.seat.numbers c.in_ok-lock.seat.seen c.add_by_threads.new.seat.seen c.close-items.ensures.0 c.close-items.result.items.items
    (ap (λ s. s.numbers) c.in_ok-lock.ensures.seat) c.in_ok-add_by_threads.ensures.numbers (ap (λ s. s.seen) c.in_ok-lock.ensures.seat ∙ (c.list-list.ensures ∙ ap (λ v. reverse v) c.new-numbers.ensures)) c.in_ok-add_by_threads.ensures.added c.close-items.ensures.1 c.close-items.ensures.2
