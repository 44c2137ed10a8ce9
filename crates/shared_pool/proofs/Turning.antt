-- What a pass knows when its turn comes, and what it has seen after it.
use Rattle.std.proofs.Common.{◌≡◌, ℕ, ◌+◌, ◌-◌, ◌<◌, ⊎_elim, true, false, List, [], ◌∷◌, ◌++◌, length, slice_index, refl, ap, sym, ◌∙◌, subst, arith}
use Rattle.turn_lock.specs.Entries.{GoesOnByOthers}
use Rattle.turn_lock.specs.Seats.{SeatView}
use Rattle.txg_core.specs.Rules.{Meaning, Origin}
use Rattle.txg_core.specs.Openings.{origin_at}
use Rattle.txg_core.specs.History.{joined, maker_of}
use Rattle.txg_core.specs.Serial.{next}
use Rattle.txg_core.specs.Sessions.{Phase, idle, holding, checked, waiting, decided, phase, IsQueued, is_busy}
use Rattle.txg_core.specs.Enabled.{Legal, MayStart}
use Rattle.txg_core.specs.Laws.{StaysSo, IsLeftAlone}
use Rattle.txg_core.specs.declared.event.Entry.{Entry}
use Rattle.txg_core.specs.declared.origin.Opening.{Opening}
use Rattle.txg_core.proofs.CallsLemmas.{alone}
use Rattle.shared_pool.specs.declared.answers.Ticket.{Ticket}
use Rattle.shared_pool.specs.declared.progress.Progress.{Progress}
use Rattle.shared_pool.specs.Recordings.{Recording}
use Rattle.shared_pool.specs.Passes.{PassView, GrowsByOthers, GrowsByOwn, GoesOn, IsSeatOfMaker, IsProgressOf, IsPass, IsSamePass, is_pass_busy, calls_left}
use Rattle.shared_pool.specs.Submits.{IsTicketOf}
use Rattle.shared_pool.specs.Turns.{Enters}
use Rattle.shared_pool.proofs.Makers.{by-others}

pub enters : {O W C R : Type 0} (means : O → Meaning W C R) (v w : SeatView (Opening O) (Entry C)) (a : Recording O C) → w ≡ record v { seen = w.seen; has_turn = true; turns = v.turns + 1 } → a.opening ≡ w.origin → a.history ≡ w.seen
    → GoesOnByOthers maker_of v.numbers v.seen w.seen → Legal (origin_at means a.opening) a.history → Enters means v a w
enters {O = O} {C = C} means v w a seat opening history others legal = record {
  seat = seat ∙ ap (λ (h : List (Entry C)). record v { seen = h; has_turn = true; turns = v.turns + 1 }) (sym history);
  opening = opening ∙ ap (λ (z : SeatView (Opening O) (Entry C)). z.origin) seat;
  legal = legal;
  others = λ k e. by-others k v.numbers v.seen a.history (subst (λ (h : List (Entry C)). GoesOnByOthers maker_of v.numbers v.seen h) (sym history) others) e;
}

-- what others leave of a session
module _ {W C R : Type 0} (o : Origin W C R) (s : ℕ) (front h : List (Entry C)) (legal : Legal o h) (g : GrowsByOthers (s + 1) front h) where
  left : IsLeftAlone o front g.later s
  left = alone o front g.later s (subst (Legal o) g.is legal) g.none_own

  pub same-next : next o h s ≡ next o front s
  same-next = ap (λ (l : List (Entry C)). next o l s) g.is ∙ left.same_call

  pub same-group : joined h s ≡ joined front s
  same-group = ap (λ (l : List (Entry C)). joined l s) g.is ∙ left.same_group

  pub still-idle : phase o front s ≡ idle → phase o h s ≡ idle
  still-idle is = ap (λ (l : List (Entry C)). phase o l s) g.is ∙ subst (λ (p : Phase C R). StaysSo p (phase o (g.later ++ front) s)) is left.stays

  queued-later : (p q : Phase C R) → StaysSo p q → IsQueued p → IsQueued q
  queued-later (waiting c) q stays t = ⊎_elim (λ (e : q ≡ waiting c). subst IsQueued (sym e) tt) (λ (r : (reply : R) × (q ≡ decided c reply)). subst IsQueued (sym r.1) tt) stays
  queued-later (decided c r) q stays t = subst IsQueued (sym stays) tt
  queued-later idle q stays t = absurd t
  queued-later (holding c) q stays t = absurd t
  queued-later (checked c) q stays t = absurd t

  pub still-queued : IsQueued (phase o front s) → IsQueued (phase o h s)
  still-queued q = subst (λ (l : List (Entry C)). IsQueued (phase o l s)) (sym g.is) (queued-later (phase o front s) (phase o (g.later ++ front) s) left.stays q)

-- a ticket is still that of the queued call
pub ticket-on : {W C R : Type 0} (o : Origin W C R) (t : Ticket) (front h : List (Entry C)) → Legal o h → GrowsByOthers (t.session + 1) front h → IsTicketOf o front t → IsTicketOf o h t
ticket-on o t front h legal g is = record {
  queued = still-queued o t.session front h legal g is.queued;
  number = is.number ∙ sym (same-next o t.session front h legal g);
  group_is = is.group_is ∙ sym (same-group o t.session front h legal g);
}

module _ {O W C R : Type 0} (means : O → Meaning W C R) (v w : SeatView (Opening O) (Entry C)) (a : Recording O C) (k : ℕ) (en : Enters means v a w) (seat : IsSeatOfMaker means v k) where
  pub others : GrowsByOthers k v.seen a.history
  others = en.others k seat.numbers

  at_opening : (P : Opening O → Type 0) → P v.origin → P a.opening
  at_opening P p = subst P (sym en.opening) p

  -- what is made under the pass's number may be given back
  pub may-leave : (new : List (Entry C)) → GrowsByOwn k a.history new → (maker : ℕ) × (w.numbers ≡ maker ∷ []) × GrowsByOwn maker w.seen new
  may-leave new own = (k, ap (λ (z : SeatView (Opening O) (Entry C)). z.numbers) en.seat ∙ seat.numbers, subst (λ (h : List (Entry C)). GrowsByOwn k h new) (sym (ap (λ (z : SeatView (Opening O) (Entry C)). z.seen) en.seat)) own)

  pub opening-kept : (b : Recording O C) → b.opening ≡ a.opening → b.opening ≡ w.origin
  opening-kept b same = same ∙ (en.opening ∙ sym (ap (λ (z : SeatView (Opening O) (Entry C)). z.origin) en.seat))

  pub legal-at : (b : Recording O C) → b.opening ≡ a.opening → Legal (origin_at means b.opening) b.history → Legal (origin_at means v.origin) b.history
  legal-at b same legal = subst (λ (z : Opening O). Legal (origin_at means z) b.history) (same ∙ en.opening) legal

  pub goes-on : (makes : Origin W C R → List (Entry C) → List (Entry C) → Type 0) (b : Recording O C) (new : List (Entry C)) → b.opening ≡ a.opening → Legal (origin_at means b.opening) b.history → makes (origin_at means a.opening) a.history b.history → new ≡ b.history
      → GoesOn (origin_at means v.origin) k v.seen (makes (origin_at means v.origin)) new
  goes-on makes b new same legal made is = record {
    found = a.history;
    others = others;
    made = subst (λ (l : List (Entry C)). makes (origin_at means v.origin) a.history l) (sym is) (subst (λ (z : Opening O). makes (origin_at means z) a.history b.history) en.opening made);
    legal = subst (Legal (origin_at means v.origin)) (sym is) (legal-at b same legal);
  }

  seat-at : (b : Recording O C) → b.opening ≡ a.opening → Legal (origin_at means b.opening) b.history → IsSeatOfMaker means (record v { seen = b.history; has_turn = false; turns = v.turns + 1 }) k
  seat-at b same legal = record { free = refl; numbers = seat.numbers; legal = legal-at b same legal }

  pub left-as : (b : Recording O C) (z : SeatView (Opening O) (Entry C)) → z ≡ record w { seen = b.history; has_turn = false } → z ≡ record v { seen = b.history; has_turn = false; turns = v.turns + 1 }
  left-as b z is = is ∙ ap (λ (y : SeatView (Opening O) (Entry C)). record y { seen = b.history; has_turn = false }) en.seat

  pub seat-after : (b : Recording O C) (z : SeatView (Opening O) (Entry C)) → z ≡ record w { seen = b.history; has_turn = false } → b.opening ≡ a.opening → Legal (origin_at means b.opening) b.history → IsSeatOfMaker means z k
  seat-after b z is same legal = subst (λ (y : SeatView (Opening O) (Entry C)). IsSeatOfMaker means y k) (sym (left-as b z is)) (seat-at b same legal)

-- a session's pass at a seat
abbrev pub pass_at : {O C : Type 0} → ℕ → SeatView (Opening O) (Entry C) → PassView O C
pass_at s v = record { pool = v.lock; opening = v.origin; session = s; front = v.seen; turns = v.turns }

idle-is : {C R : Type 0} (p : Phase C R) → is_busy p ≡ false → p ≡ idle
idle-is idle e = refl
idle-is (holding c) e = cc
idle-is (checked c) e = cc
idle-is (waiting c) e = cc
idle-is (decided c r) e = cc

-- the same of a session's pass
module _ {O W C R : Type 0} (means : O → Meaning W C R) (v w : SeatView (Opening O) (Entry C)) (a : Recording O C) (s count : ℕ) (p : Progress) (en : Enters means v a w) (pass : IsPass means v s count p) where
  in_turn : (P : Opening O → Type 0) → P v.origin → P a.opening
  in_turn P h = subst P (sym en.opening) h

  legal_now : Legal (origin_at means v.origin) a.history
  legal_now = subst (λ (z : Opening O). Legal (origin_at means z) a.history) en.opening en.legal

  later : GrowsByOthers (s + 1) v.seen a.history
  later = en.others (s + 1) pass.seat_is.numbers

  -- the session may start its next call, which has this number
  pub may-start : (z : PassView O C) → pass_at s v ≡ z → is_pass_busy means z ≡ false → 0 < calls_left means z → MayStart (origin_at means a.opening) a.history s
  may-start z is calm some =
      let calm_here : is_busy (phase (origin_at means v.origin) v.seen s) ≡ false = subst (λ (y : PassView O C). is_pass_busy means y ≡ false) (sym is) calm in
      let some_here : 0 < slice_index v.origin.counts s - next (origin_at means v.origin) v.seen s = subst (λ (y : PassView O C). 0 < calls_left means y) (sym is) some in
      in_turn (λ y. MayStart (origin_at means y) a.history s) (
        still-idle (origin_at means v.origin) s v.seen a.history legal_now later (idle-is (phase (origin_at means v.origin) v.seen s) calm_here),
        let same = same-next (origin_at means v.origin) s v.seen a.history legal_now later in omega arith,
      )

  pub number-in : p.next ≡ next (origin_at means a.opening) a.history s
  number-in = pass.progress_is.number ∙ in_turn (λ z. next (origin_at means v.origin) v.seen s ≡ next (origin_at means z) a.history s) (sym (same-next (origin_at means v.origin) s v.seen a.history legal_now later))

  pub ticket-in : (t : Ticket) → t.session ≡ s → IsTicketOf (origin_at means v.origin) v.seen t → IsTicketOf (origin_at means a.opening) a.history t
  ticket-in t e is = in_turn (λ z. IsTicketOf (origin_at means z) a.history t) (ticket-on (origin_at means v.origin) t v.seen a.history legal_now (subst (λ (n : ℕ). GrowsByOthers (n + 1) v.seen a.history) (sym e) later) is)

  pub session-in : (b : Recording O C) → b.opening ≡ a.opening → s < length b.opening.counts
  session-in b same = subst (λ (z : Opening O). s < length z.counts) (sym (same ∙ en.opening)) pass.there

  pass-at : (b : Recording O C) (q : Progress) (z : SeatView (Opening O) (Entry C)) → z ≡ record v { seen = b.history; has_turn = false; turns = v.turns + 1 } → IsSeatOfMaker means z (s + 1) → IsProgressOf (origin_at means v.origin) b.history s q → IsPass means z s count q
  pass-at b q z is seat far = record {
    seat_is = seat;
    there = subst (λ (y : SeatView (Opening O) (Entry C)). s < length y.origin.counts) (sym is) pass.there;
    count_is = subst (λ (y : SeatView (Opening O) (Entry C)). count ≡ slice_index y.origin.counts s) (sym is) pass.count_is;
    progress_is = subst (λ (y : SeatView (Opening O) (Entry C)). IsProgressOf (origin_at means y.origin) y.seen s q) (sym is) far;
  }

  pub pass-after : (b : Recording O C) (q : Progress) (z : SeatView (Opening O) (Entry C)) → z ≡ record w { seen = b.history; has_turn = false } → b.opening ≡ a.opening → Legal (origin_at means b.opening) b.history → IsProgressOf (origin_at means b.opening) b.history s q → IsPass means z s count q
  pass-after b q z is same legal far = pass-at b q z (left-as means v w a (s + 1) en pass.seat_is b z is) (seat-after means v w a (s + 1) en pass.seat_is b z is same legal)
      (subst (λ (y : Opening O). IsProgressOf (origin_at means y) b.history s q) (same ∙ en.opening) far)

  pub same-after : (b : Recording O C) (z : SeatView (Opening O) (Entry C)) (y : PassView O C) → z ≡ record w { seen = b.history; has_turn = false } → pass_at s v ≡ y → IsSamePass y (pass_at s z)
  same-after b z y is view = let l = left-as means v w a (s + 1) en pass.seat_is b z is in (
    ap (λ (x : SeatView (Opening O) (Entry C)). x.lock) l ∙ ap (λ (x : PassView O C). x.pool) view,
    ap (λ (x : SeatView (Opening O) (Entry C)). x.origin) l ∙ ap (λ (x : PassView O C). x.opening) view,
    ap (λ (x : PassView O C). x.session) view,
  )
