use Rattle.std.proofs.Common.{rules, refl, ◌∙◌, ap}
use Rattle.turn_lock.proofs.Turning.{exchanged_raises, serves, gave}
use Rattle.turn_lock.proofs.turns.put_back.Goals as goal

pub store-requires : goal.store-requires
store-requires g c = let h = c.requires in let turn = h.turn in let e = c.exchange-empty.ensures in (
  e.0 ∙ h.own.0,
  search rules,
  exchanged_raises _ _ _ _ _ _ _ turn.0.0 c.args.place.now.me _ _ turn.1.0 _ c.args.list.value h.grows.0 h.stands.0
      e.3 turn.1.1 turn.0.1 refl refl h.stands.1 h.stands.2 (c.len-count.ensures _ _ h.stands.2) (search rules) h.grows.1 h.grows.2,
)

pub fetch_add-requires : goal.fetch_add-requires
fetch_add-requires g c = let h = c.requires in let turn = h.turn in let e = c.exchange-empty.ensures in
    let a = gave c.args.place.now.me c.exchange-empty.new.seat.me c.store.new.seat.me _ turn.1.0 c.args.list.value turn.0.0 e.3 turn.1.1 turn.0.1 refl c.store.ensures.2 in
    (c.store.ensures.0 ∙ (e.0 ∙ h.own.0), search rules, serves _ _ _ _ _ _ turn.0.0 _ (ap (λ v. v.stage) a.1))
