use Rattle.std.proofs.Common.{◌<◌, List, length, IsSome, ℕ, sym, ap, subst, ◌∙◌}
use Rattle.zc_offline.specs.Replay.{call_in, number_in}
use Rattle.zc_offline.proofs.Steps.{replies-there, number-next}
use Rattle.zc_offline.proofs.replay.Run.next_call.Goals as goal

pub given_count-number-requires : goal.given_count-number-requires
given_count-number-requires g c =
    let f = c.requires.following.1.1 in
    let s = c.args.session in
    let there = c.requires.there c.requires.following.0 c.requires.following.1.0 f in
    subst (λ (xs : List (List g.row.O-Reply.Denot)). s < length xs) (sym c.as_slice.ensures.value) (replies-there s f there.0)

pub call_at-requires : goal.call_at-requires
call_at-requires g c =
    let f = c.requires.following.1.1 in
    let s = c.args.session in
    let there = c.requires.there c.requires.following.0 c.requires.following.1.0 f in
    let number = c.given_count-number.ensures ∙ ap (λ (xs : List (List g.row.O-Reply.Denot)). number_in xs s) c.as_slice.ensures.value ∙ number-next s f there.0 in
    subst (λ (n : ℕ). IsSome (call_in c.args.sessions.now s n)) (sym number) there.1

pub returns : goal.returns
returns g c = λ o h f.
    let s = c.args.session in
    let there = c.requires.there o h f in
    let number = c.given_count-number.ensures ∙ ap (λ (xs : List (List g.row.O-Reply.Denot)). number_in xs s) c.as_slice.ensures.value ∙ number-next s f there.0 in
    (there.0, ap (call_in c.args.sessions.now s) (sym number) ∙ c.call_at.ensures)
