use Rattle.std.proofs.Common.{rules, ◌≡◌, ℕ, ◌+◌, ◌-◌, ◌<◌, [], ◌∷◌, OnOk, ap, ◌∙◌}
use Rattle.turn_lock.specs.Entries.{times}
use Rattle.turn_lock_tests.proofs.Counting.{more_numbers, joined_numbers, joined_seen, without_last}
use Rattle.turn_lock_tests.proofs.adding.+add_by_threads+fn-add_by_threads-join_mut+arg2.Goals as goal

pub split-other-requires-clause-more : goal.split-other-requires-clause-more
split-other-requires-clause-more g t c = more_numbers c.args.threads c.args.seat.now.numbers c.requires.some c.if-threads-eq1.false c.requires.numbers

pub returns-in_err-rest-clause-numbers : goal.returns-in_err-rest-clause-numbers
returns-in_err-rest-clause-numbers g t c = λ k.
    let mine : (k : ℕ) → times k c.seat-1.given.0.numbers ≡ times k c.split-other.new.seat.numbers = search rules in
    let theirs : c.other-2-1.given.0.numbers ≡ (c.args.threads - 1) ∷ [] = search rules in
    joined_numbers c.args.threads k c.args.seat.now.numbers c.split-other.new.seat.numbers c.seat-1.given.0.numbers c.other-2-1.given.0.numbers c.join.new.seat.numbers c.requires.some c.requires.numbers (ap (λ s. s.numbers) c.split-other.ensures.kept) mine theirs (ap (λ s. s.numbers) c.join.ensures.same)

pub returns-clause-numbers : goal.returns-clause-numbers
returns-clause-numbers g t c = λ k.
    let mine : (k : ℕ) → times k c.seat-1.given.0.numbers ≡ times k c.split-other.new.seat.numbers = search rules in
    let theirs : c.other-2-1.given.0.numbers ≡ (c.args.threads - 1) ∷ [] = search rules in
    joined_numbers c.args.threads k c.args.seat.now.numbers c.split-other.new.seat.numbers c.seat-1.given.0.numbers c.other-2-1.given.0.numbers c.join.new.seat.numbers c.requires.some c.requires.numbers (ap (λ s. s.numbers) c.split-other.ensures.kept) mine theirs (ap (λ s. s.numbers) c.join.ensures.same)

pub returns-clause-added : goal.returns-clause-added
returns-clause-added g t c =
    let mine : (k : ℕ) → times k c.seat-1.given.0.numbers ≡ times k c.split-other.new.seat.numbers = search rules in
    let theirs : c.other-2-1.given.0.numbers ≡ (c.args.threads - 1) ∷ [] = search rules in
    let rest : OnOk c.join_mut-rest.result.0 ((k : ℕ) → k < c.args.threads - 1 → times k c.seat-1.given.0.seen ≡ times k c.split-other.new.seat.seen + c.args.turns) = search rules in
    let last : OnOk c.join_mut-rest.result.1 (times (c.args.threads - 1) c.other-2-1.given.0.seen ≡ times (c.args.threads - 1) c.split-other.result.seen + c.args.turns) = search rules in
    joined_seen c.join_mut-rest.result.0 c.join_mut-rest.result.1 c.in_ok-rest.field-0 c.args.threads c.args.turns c.args.seat.now.seen c.split-other.new.seat.seen c.split-other.result.seen c.seat-1.given.0.seen c.other-2-1.given.0.seen c.join.new.seat.seen
    c.seat-1.given.0.numbers c.other-2-1.given.0.numbers c.requires.some c.in_ok-rest.was rest last (ap (λ s. s.seen) c.split-other.ensures.kept) (ap (λ s. s.seen) c.split-other.ensures.given)
    (λ k. mine k ∙ without_last c.args.threads k c.args.seat.now.numbers c.split-other.new.seat.numbers c.requires.some c.requires.numbers (ap (λ s. s.numbers) c.split-other.ensures.kept)) theirs c.join.ensures.own c.join.ensures.others
