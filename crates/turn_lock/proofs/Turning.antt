-- Each step keeps the rule.
use Rattle.std.proofs.Common.{◌≡◌, ◌≢◌, ℕ, zero, suc, ◌+◌, ◌%◌, ◌^◌, ◌<◌, ◌≤◌, Some, List, [], ◌∷◌, ◌++◌, length, get_or, set, refl, ap, sym, ◌∙◌, subst, inl, inr, ⊎_elim, arith, append_assoc}
use mathlib.Core.Option.{Option, some, none, some-injective, some-ne-none}
use mathlib.Core.Logic.{dite}
use native.Mathlib.Decide.{ℕ_discrete}
use native.Mathlib.Nat.{mod-add-mod}
use lib.ListN.{get_elem?}
use lib.Seq.{set-get_or}
use Rattle.atomic_table.specs.Table.{State, Me, Step, step, keeps, takes, gives, stepped, Allows, Splits, Joins}
use Rattle.atomic_table.proofs.Lists.{at_set, set_else, set_again, one_turn}
use Rattle.turn_lock.specs.declared.view.View.{View}
use Rattle.turn_lock.specs.declared.view.Stored.{Stored}
use Rattle.turn_lock.specs.declared.view.Stage.{Stage}
use Rattle.turn_lock.specs.declared.view.Stage.TheVariants.{Idle, Waiting, Holding, Leaving}
use Rattle.turn_lock.specs.Entries.{times, NoneByThese, EachByThese}
use Rattle.turn_lock.specs.Rule.{has_ticket, IsTicket, IsHolding, IsPlaced, tickets_of, held_numbers, plain_view, ViewFits, TicketsDiffer, IsStored, IsSlotAt, KeepsTurns}
use Rattle.turn_lock.specs.Steps.{leaving, staged, DrewTicket, LookedAtServing, RaisedCount, ServedNext, LookedAtCount}
use Rattle.turn_lock.proofs.Sums.{total_set, same_total, two_of, total_le, times_once}

waiting_same : (u t : ℕ) → Waiting u ≡ Waiting t → u ≡ t
waiting_same u t e = cc

pub some_same : {O : Type 0} (a b : O) → Some a ≡ Some b → a ≡ b
some_same a b e = cc

pub same_slot : {A : Type 0} (x y : A) (j k : ℕ) (c d : List (ℕ × A)) → ◌≡◌ {A = List (ℕ × A)} ((j, x) ∷ d) ((k, y) ∷ c) → x ≡ y
same_slot {A} x y j k c d e = let both : ◌≡◌ {A = ℕ × A} (j, x) (k, y) = cc in ap (λ (z : ℕ × A). z.1) both

leaving_tickets : (g : Stage) → has_ticket (leaving g) ≡ has_ticket g
leaving_tickets Idle = refl
leaving_tickets (Waiting t) = refl
leaving_tickets (Holding t) = refl
leaving_tickets (Leaving t) = refl

leaving_ticket : (u : ℕ) (g : Stage) → IsTicket u (leaving g) → IsTicket u g
leaving_ticket u Idle i = i
leaving_ticket u (Waiting t) i = i
leaving_ticket u (Holding t) i = i
leaving_ticket u (Leaving t) i = i

leaving_placed : (served drawn t : ℕ) (g : Stage) → g ≡ Holding t → IsPlaced served drawn g → IsPlaced served drawn (leaving g)
leaving_placed served drawn t g e p = let q : IsPlaced served drawn (Holding t) = subst (IsPlaced served drawn) e p in subst (λ (z : Stage). IsPlaced served drawn (leaving z)) (sym e) q

leaving_free : (t : ℕ) (g : Stage) → g ≡ Holding t → ¬ IsHolding (leaving g)
leaving_free t g e h = let q : IsHolding (leaving (Holding t)) = subst (λ (z : Stage). IsHolding (leaving z)) e h in absurd q

served_one : (served drawn : ℕ) (g : Stage) → ¬ IsTicket served g → IsPlaced served drawn g → IsPlaced (served + 1) drawn g
served_one served drawn Idle n p = tt
served_one served drawn (Waiting t) n p = let a = p.0 in (dite (ℕ_discrete t served) (λ e. absurd (n e)) (λ ne. omega arith), p.1)
served_one served drawn (Holding t) n p = absurd (n p.0)
served_one served drawn (Leaving t) n p = absurd (n p.0)

module _ {E : Type 0} (maker : E → ℕ) where
  pub none_append : (ns : List ℕ) (xs ys : List E) → NoneByThese maker ns xs → NoneByThese maker ns ys → NoneByThese maker ns (xs ++ ys)
  none_append ns [] ys a b = b
  none_append ns (x ∷ xs) ys a b = (a.0, none_append ns xs ys a.1 b)

  pub none_of_others : (ns ms : List ℕ) → ((k : ℕ) → 0 < times k ns → times k ms ≡ 0) → (xs : List E) → EachByThese maker ns xs → NoneByThese maker ms xs
  none_of_others ns ms h [] a = tt
  none_of_others ns ms h (x ∷ xs) a = (h (maker x) a.0, none_of_others ns ms h xs a.1)

  pub none_of_none : (xs : List E) → NoneByThese maker [] xs
  none_of_none [] = tt
  none_of_none (x ∷ xs) = (refl, none_of_none xs)

module _ {V : Type 0} where
  -- what holds of each view, where one changes
  pub each_set : (P Q : ℕ → V → Type 0) (vs : List V) (i : ℕ) (w : V) → Q i w → ((j : ℕ) (v : V) → j ≢ i → get_elem? vs j ≡ some v → Q j v)
      → (j : ℕ) (v : V) → get_elem? (set vs i w) j ≡ some v → Q j v
  each_set P Q vs i w mine others j v e = ⊎_elim
      (λ (t : (j ≡ i) × (w ≡ v)). subst (λ (z : ℕ × V). Q z.0 z.1) (λ k. (sym t.0 k, t.1 k)) mine)
      (λ (t : (j ≢ i) × (get_elem? vs j ≡ some v)). others j v t.0 t.1) (at_set vs i j w v e)

  pub is_there : (vs : List V) (i : ℕ) (v w : V) → get_elem? vs i ≡ some v → get_elem? (set vs i w) i ≡ some w
  is_there [] i v w e = absurd (some-ne-none v (sym e))
  is_there (x ∷ xs) zero v w e = refl
  is_there (x ∷ xs) (suc i) v w e = is_there xs i v w e

  pub one_there : (vs : List V) (i : ℕ) (v w : V) → get_elem? vs i ≡ some v → get_elem? vs i ≡ some w → v ≡ w
  one_there vs i v w a b = some-injective v w (sym a ∙ b)

-- a ticket lies between the two words
pub between : (served drawn t : ℕ) (s : Stage) → IsPlaced served drawn s → IsTicket t s → (served ≤ t) × (t < drawn)
between served drawn t Idle p i = absurd i
between served drawn t (Waiting u) p i = let a = p.0 in let b = p.1 in (omega arith, omega arith)
between served drawn t (Holding u) p i = let a = p.0 in let b = p.1 in (omega arith, omega arith)
between served drawn t (Leaving u) p i = let a = p.0 in let b = p.1 in (omega arith, omega arith)

pub held_ticket : (served drawn : ℕ) (s : Stage) → IsPlaced served drawn s → IsHolding s → IsTicket served s
held_ticket served drawn Idle p h = absurd h
held_ticket served drawn (Waiting u) p h = absurd h
held_ticket served drawn (Holding u) p h = p.0
held_ticket served drawn (Leaving u) p h = absurd h

pub more_drawn : (served drawn drawn' : ℕ) → drawn ≤ drawn' → (s : Stage) → IsPlaced served drawn s → IsPlaced served drawn' s
more_drawn served drawn drawn' le Idle p = tt
more_drawn served drawn drawn' le (Waiting u) p = let b = p.1 in (p.0, omega arith)
more_drawn served drawn drawn' le (Holding u) p = let b = p.1 in (p.0, omega arith)
more_drawn served drawn drawn' le (Leaving u) p = let b = p.1 in (p.0, omega arith)

module _ {O E : Type 0} where
  pub apart_set : (vs : List (View O E)) (id : ℕ) (w : View O E) → TicketsDiffer vs → ((j t : ℕ) (v : View O E) → j ≢ id → get_elem? vs j ≡ some v → IsTicket t v.stage → ¬ IsTicket t w.stage)
      → TicketsDiffer (set vs id w)
  apart_set vs id w apart new i j t a b ea eb ta tb = ⊎_elim
      (λ (p : (i ≡ id) × (w ≡ a)). ⊎_elim
      (λ (q : (j ≡ id) × (w ≡ b)). p.0 ∙ sym q.0)
      (λ (q : (j ≢ id) × (get_elem? vs j ≡ some b)). absurd (new j t b q.0 q.1 tb (subst (λ (z : View O E). IsTicket t z.stage) (sym p.1) ta)))
      (at_set vs id j w b eb))
      (λ (p : (i ≢ id) × (get_elem? vs i ≡ some a)). ⊎_elim
      (λ (q : (j ≡ id) × (w ≡ b)). absurd (new i t a p.0 p.1 ta (subst (λ (z : View O E). IsTicket t z.stage) (sym q.1) tb)))
      (λ (q : (j ≢ id) × (get_elem? vs j ≡ some b)). apart i j t a b p.1 q.1 ta tb)
      (at_set vs id j w b eb))
      (at_set vs id i w a ea)

module _ {T O E : Type 0} (stands : T → O → List E → Type 0) (maker : E → ℕ) (origin : O) (count : ℕ) where
  abbrev Rule : State (Stored T E) (View O E) → Type 0
  Rule = KeepsTurns stands maker origin count

  abbrev St : Type 0
  St = State (Stored T E) (View O E)

  abbrev Seat : Type 0
  Seat = Me (Stored T E) (View O E)

  pub home_stays : (hand : List E) (homes : List (Option (Stored T E))) (vs : List (View O E)) (id : ℕ) (v w : View O E) → get_elem? vs id ≡ some v → (IsHolding v.stage → IsHolding w.stage)
      → IsSlotAt stands origin hand homes vs → IsSlotAt stands origin hand homes (set vs id w)
  home_stays hand homes vs id v w e keep at = ⊎_elim inl (λ (out : (homes ≡ none ∷ []) × ((j : ℕ) × (u : View O E) × (get_elem? vs j ≡ some u) × IsHolding u.stage)).
      let j = out.1.0 in let u = out.1.1 in inr (
        out.0,
        dite (ℕ_discrete j id)
            (λ same. let is : u ≡ v = one_there vs id u v (subst (λ (z : ℕ). get_elem? vs z ≡ some u) same out.1.2) e in
            (id, w, is_there vs id v w e, keep (subst (λ (z : View O E). IsHolding z.stage) is out.1.3)))
            (λ other. (j, u, set_else vs id j w other ∙ out.1.2, out.1.3)),
      )) at

  few_out : (s : St) (r : Rule s) → r.drawn < r.served + 2 ^ 64
  few_out s r = let a = total_le tickets_of held_numbers s.views (λ j v e. (r.fits j v e).enough) in let b = r.tickets in let c = r.parts in let d = r.few in omega arith

  pub draws : (slots id : ℕ) (m : Seat) → m.0.stage ≡ Idle → 0 < length m.0.numbers → Allows Rule slots id m 1 (λ n. (n + 1) % 2 ^ 64) (DrewTicket (step slots 1 1 0 none) m)
  draws slots id m idle any s r _ at _ =
      let w = staged m.0 (Waiting r.drawn) in
      let old : ((j : ℕ) (v : View O E) → get_elem? s.views j ≡ some v → ViewFits maker origin r.hand r.served r.drawn v) = r.fits in
      let mine = old id m.0 at in
      let word : (get_or s.words 1 0) ≡ r.drawn % 2 ^ 64 = ap (λ (ws : List ℕ). get_or ws 1 0) r.words in
      let enough = mine.enough in let tickets = r.tickets in (
        w,
        keeps,
        tt,
        record {
          hand = r.hand;
          served = r.served;
          drawn = r.drawn + 1;
          words = ap (λ (ws : List ℕ). set ws 1 ((get_or ws 1 0 + 1) % 2 ^ 64)) r.words ∙ ap (λ (n : ℕ). length r.hand ∷ n ∷ (r.served % 2 ^ 64) ∷ []) (mod-add-mod r.drawn (2 ^ 64) 1);
          short = r.short;
          home = home_stays r.hand s.homes s.views id m.0 w at (λ h. absurd (subst IsHolding idle h)) r.home;
          fits = each_set (λ j v. ViewFits maker origin r.hand r.served r.drawn v) (λ j v. ViewFits maker origin r.hand r.served (r.drawn + 1) v) s.views id w
              (record { same_origin = mine.same_origin; seen = mine.seen; placed = (omega arith, omega arith); holds = λ h. absurd h; enough = omega arith; begun = tt })
              (λ j v other e. let f = old j v e in record { same_origin = f.same_origin; seen = f.seen; placed = more_drawn r.served r.drawn (r.drawn + 1) (omega arith) v.stage f.placed; holds = f.holds; enough = f.enough; begun = f.begun });
          apart = apart_set s.views id w r.apart (λ j t v other e is mine. let b = (between r.served r.drawn t v.stage (old j v e).placed is).1 in omega arith);
          tickets = (let s = total_set tickets_of s.views id m.0 w at in let z : tickets_of m.0 ≡ 0 = ap has_ticket idle in omega arith);
          parts = same_total held_numbers s.views id m.0 w at refl ∙ r.parts;
          few = r.few;
          once = λ k. same_total (λ v. times k v.numbers) s.views id m.0 w at refl ∙ r.once k;
        },
        (refl, (r.drawn, refl, word)),
      )

  -- a step that changes nothing
  unmoved : (s : St) (r : Rule s) (i id : ℕ) (m : Seat) → get_elem? s.views id ≡ some m.0 → Rule (stepped s i (get_or s.words i 0) id m.1 m.0 keeps)
  unmoved s r i id m at = subst (λ (vs : List (View O E)). Rule record { words = set s.words i (get_or s.words i 0); homes = s.homes; views = vs }) (sym (set_again s.views id m.0 at))
      (subst (λ (ws : List ℕ). Rule record { words = ws; homes = s.homes; views = s.views }) (sym (set-get_or s.words i 0)) r)

  waits_in : (served drawn t : ℕ) (g : Stage) → g ≡ Waiting t → IsPlaced served drawn g → (served ≤ t) × (t < drawn)
  waits_in served drawn t g e p = let q : IsPlaced served drawn (Waiting t) = subst (IsPlaced served drawn) e p in q

  pub looks : (slots id t : ℕ) (m : Seat) → m.0.stage ≡ Waiting t → Allows Rule slots id m 2 (λ n. n) (LookedAtServing stands maker (step slots 2 0 0 none) m)
  looks slots id t m waits s r _ at _ =
      let old : ((j : ℕ) (v : View O E) → get_elem? s.views j ≡ some v → ViewFits maker origin r.hand r.served r.drawn v) = r.fits in
      let mine = old id m.0 at in
      let word : (get_or s.words 2 0) ≡ r.served % 2 ^ 64 = ap (λ (ws : List ℕ). get_or ws 2 0) r.words in
      let there = waits_in r.served r.drawn t m.0.stage waits mine.placed in
      let few = few_out s r in
      let same_t : ((u : ℕ) → m.0.stage ≡ Waiting u → u ≡ t) = (λ u e. waiting_same u t (sym e ∙ waits)) in
      dite (ℕ_discrete (get_or s.words 2 0) (t % 2 ^ 64))
      (λ yes.
      let now : r.served ≡ t = one_turn r.served t (2 ^ 64) there.0 (omega (arith, there.1)) (sym word ∙ yes) in
      ⊎_elim
      (λ (home : (x : Stored T E) × (s.homes ≡ some x ∷ []) × IsStored stands origin r.hand x).
      let x = home.0 in
      let stored = home.2 in
      let w = plain_view m.0.origin x.list.value m.0.numbers (Holding t) (m.0.turns + 1) in (
        w,
        takes 0 x,
        ap (λ (hs : List (Option (Stored T E))). get_elem? hs 0) home.1,
        record {
          hand = r.hand;
          served = r.served;
          drawn = r.drawn;
          words = set-get_or s.words 2 0 ∙ r.words;
          short = r.short;
          home = inr (ap (λ (hs : List (Option (Stored T E))). set hs 0 none) home.1, (id, w, is_there s.views id m.0 w at, tt));
          fits = each_set (λ j v. ViewFits maker origin r.hand r.served r.drawn v) (λ j v. ViewFits maker origin r.hand r.served r.drawn v) s.views id w
              (record {
                same_origin = mine.same_origin;
                seen = ([], sym stored.2, tt);
                placed = (sym now, omega (arith, there.1));
                holds = λ _. sym stored.2;
                enough = let e = mine.enough in let z : has_ticket m.0.stage ≡ 1 = ap has_ticket waits in omega arith;
                begun = tt;
              })
              (λ j v other e. old j v e);
          apart = apart_set s.views id w r.apart (λ j u v other e is mine'. other (r.apart j id u v m.0 e at is (subst (IsTicket u) (sym waits) mine')));
          tickets = let e = same_total tickets_of s.views id m.0 w at (sym (ap has_ticket waits)) in let p = r.tickets in omega arith;
          parts = same_total held_numbers s.views id m.0 w at refl ∙ r.parts;
          few = r.few;
          once = λ k. same_total (λ v. times k v.numbers) s.views id m.0 w at refl ∙ r.once k;
        },
        (λ u e. (
          (λ _. record {
            stored = x;
            value = stored.0;
            slot = refl;
            is = stored.1;
            view = ap (λ (z : ℕ). plain_view m.0.origin x.list.value m.0.numbers (Holding z) (m.0.turns + 1)) (sym (same_t u e));
            seen = (mine.seen.0, stored.2 ∙ mine.seen.1, mine.seen.2);
            stood = λ o is. let enough : 0 < length m.0.numbers = (let a = mine.enough in let z : has_ticket m.0.stage ≡ 1 = ap has_ticket waits in omega arith) in
                subst (λ (z : O). stands stored.0 z x.list.value) (some_same origin o (sym (mine.same_origin enough) ∙ is)) (subst (stands stored.0 origin) (sym stored.2) stored.3);
          }),
          λ no. absurd (no (yes ∙ ap (λ (z : ℕ). z % 2 ^ 64) (sym (same_t u e)))),
        )),
      ))
      (λ (out : (s.homes ≡ none ∷ []) × ((j : ℕ) × (v : View O E) × (get_elem? s.views j ≡ some v) × IsHolding v.stage)).
      let j = out.1.0 in let v = out.1.1 in
      let same : j ≡ id = r.apart j id r.served v m.0 out.1.2 at (held_ticket r.served r.drawn v.stage (old j v out.1.2).placed out.1.3) (subst (IsTicket r.served) (sym waits) (sym now)) in
      let is : v ≡ m.0 = one_there s.views id v m.0 (subst (λ (z : ℕ). get_elem? s.views z ≡ some v) same out.1.2) at in
      absurd (subst IsHolding waits (subst (λ (z : View O E). IsHolding z.stage) is out.1.3)))
      r.home)
      (λ no. (m.0, keeps, tt, unmoved s r 2 id m at, (λ u e. ((λ yes. absurd (no (yes ∙ ap (λ (z : ℕ). z % 2 ^ 64) (same_t u e)))), λ _. refl))))

  one_home : (hand : List E) (homes : List (Option (Stored T E))) (vs : List (View O E)) → IsSlotAt stands origin hand homes vs → (h : Option (Stored T E)) × (homes ≡ h ∷ [])
  one_home hand homes vs at = ⊎_elim (λ (a : (x : Stored T E) × (homes ≡ some x ∷ []) × IsStored stands origin hand x). (some a.0, a.1))
      (λ (b : (homes ≡ none ∷ []) × ((j : ℕ) × (v : View O E) × (get_elem? vs j ≡ some v) × IsHolding v.stage)). (none, b.0)) at

  held_once : (s : St) (r : Rule s) (i j : ℕ) (v w : View O E) → j ≢ i → get_elem? s.views i ≡ some v → get_elem? s.views j ≡ some w → (k : ℕ) → 0 < times k v.numbers → times k w.numbers ≡ 0
  held_once s r i j v w n e d k h = let a = two_of (λ (z : View O E). times k z.numbers) s.views i j v w n e d in let b = r.once k in let c = times_once k count in omega arith

  pub raises : (slots id new t : ℕ) (m : Seat) (x : Stored T E) (v : T) (list later : List E) (from : O) → m.1 ≡ (0, x) ∷ [] → m.0.stage ≡ Holding t → x.value ≡ Some v → x.list.value ≡ list
      → m.0.origin ≡ Some from → stands v from list → new ≡ length list → new < 2 ^ 64 → list ≡ later ++ m.0.list → EachByThese maker m.0.numbers later
      → Allows Rule slots id m 0 (λ _. new) (λ _. RaisedCount (step slots 0 new 0 none) m new)
  raises slots id new t m x v list later from slot holding value listed begins stood len short grows own s r _ at _ =
      let old : ((j : ℕ) (v : View O E) → get_elem? s.views j ≡ some v → ViewFits maker origin r.hand r.served r.drawn v) = r.fits in
      let mine = old id m.0 at in
      let w = plain_view m.0.origin x.list.value m.0.numbers (leaving m.0.stage) m.0.turns in
      let one = one_home r.hand s.homes s.views r.home in
      let hand_is : r.hand ≡ m.0.list = mine.holds (subst IsHolding (sym holding) tt) in
      let enough : 0 < length m.0.numbers = (let a = mine.enough in let z : has_ticket m.0.stage ≡ 1 = ap has_ticket holding in omega arith) in (
        w,
        gives,
        tt,
        record {
          hand = x.list.value;
          served = r.served;
          drawn = r.drawn;
          words = ap (λ (ws : List ℕ). set ws 0 new) r.words ∙ ap (λ (n : ℕ). n ∷ (r.drawn % 2 ^ 64) ∷ (r.served % 2 ^ 64) ∷ []) (len ∙ ap length (sym listed));
          short = let e = ap length listed in omega arith;
          home = inl (
            x,
            ap (λ (c : List (ℕ × Stored T E)). Rattle.atomic_table.specs.Table.put_back s.homes c) slot ∙ ap (λ (hs : List (Option (Stored T E))). set hs 0 (some x)) one.1,
            (v, value, refl, subst (λ (z : O × List E). stands v z.0 z.1) (λ i. (some_same from origin (sym begins ∙ mine.same_origin enough) i, sym listed i)) stood),
          );
          fits = each_set (λ j v. ViewFits maker origin r.hand r.served r.drawn v) (λ j v. ViewFits maker origin x.list.value r.served r.drawn v) s.views id w
              (record {
                same_origin = mine.same_origin;
                seen = ([], refl, tt);
                placed = leaving_placed r.served r.drawn t m.0.stage holding mine.placed;
                holds = λ h. absurd (leaving_free t m.0.stage holding h);
                enough = let e = mine.enough in let z = leaving_tickets m.0.stage in omega arith;
                begun = tt;
              })
              (λ j u other e. let f = old j u e in record {
                same_origin = f.same_origin;
                seen = (
                  later ++ f.seen.0,
                  listed ∙ (grows ∙ (ap (λ (z : List E). later ++ z) (sym hand_is ∙ f.seen.1) ∙ sym (append_assoc later f.seen.0 u.list))),
                  none_append maker u.numbers later f.seen.0 (none_of_others maker m.0.numbers u.numbers (held_once s r id j m.0 u other at e) later own) f.seen.2,
                );
                placed = f.placed;
                holds = λ h. absurd (other (r.apart j id r.served u m.0 e at (held_ticket r.served r.drawn u.stage f.placed h) (held_ticket r.served r.drawn m.0.stage mine.placed (subst IsHolding (sym holding) tt))));
                enough = f.enough;
                begun = f.begun;
              });
          apart = apart_set s.views id w r.apart (λ j u v other e is mine'. other (r.apart j id u v m.0 e at is (leaving_ticket u m.0.stage mine')));
          tickets = let e = same_total tickets_of s.views id m.0 w at (leaving_tickets m.0.stage) in let p = r.tickets in omega arith;
          parts = same_total held_numbers s.views id m.0 w at refl ∙ r.parts;
          few = r.few;
          once = λ k. same_total (λ v. times k v.numbers) s.views id m.0 w at refl ∙ r.once k;
        },
        λ k y c e. (ap Rattle.atomic_table.specs.Table.rest e, ap (λ (z : Stored T E). plain_view m.0.origin z.list.value m.0.numbers (leaving m.0.stage) m.0.turns) (same_slot x y 0 k c [] (sym slot ∙ e))),
      )

  pub serves : (slots id t : ℕ) (m : Seat) → m.0.stage ≡ Leaving t → Allows Rule slots id m 2 (λ n. (n + 1) % 2 ^ 64) (ServedNext (step slots 2 1 0 none) m)
  serves slots id t m leaves s r _ at _ =
      let old : ((j : ℕ) (v : View O E) → get_elem? s.views j ≡ some v → ViewFits maker origin r.hand r.served r.drawn v) = r.fits in
      let mine = old id m.0 at in
      let w = staged m.0 Idle in
      let has : has_ticket m.0.stage ≡ 1 = ap has_ticket leaves in
      let here : IsPlaced r.served r.drawn (Leaving t) = subst (IsPlaced r.served r.drawn) leaves mine.placed in
      let ticket : IsTicket r.served m.0.stage = subst (IsTicket r.served) (sym leaves) here.0 in (
        w,
        keeps,
        tt,
        record {
          hand = r.hand;
          served = r.served + 1;
          drawn = r.drawn;
          words = ap (λ (ws : List ℕ). set ws 2 ((get_or ws 2 0 + 1) % 2 ^ 64)) r.words ∙ ap (λ (n : ℕ). length r.hand ∷ (r.drawn % 2 ^ 64) ∷ n ∷ []) (mod-add-mod r.served (2 ^ 64) 1);
          short = r.short;
          home = home_stays r.hand s.homes s.views id m.0 w at (λ h. absurd (subst IsHolding leaves h)) r.home;
          fits = each_set (λ j v. ViewFits maker origin r.hand r.served r.drawn v) (λ j v. ViewFits maker origin r.hand (r.served + 1) r.drawn v) s.views id w
              (record { same_origin = mine.same_origin; seen = mine.seen; placed = tt; holds = λ h. absurd h; enough = omega arith; begun = tt })
              (λ j v other e. let f = old j v e in record {
                same_origin = f.same_origin;
                seen = f.seen;
                placed = served_one r.served r.drawn v.stage (λ is. other (r.apart j id r.served v m.0 e at is ticket)) f.placed;
                holds = f.holds;
                enough = f.enough;
                begun = f.begun;
              });
          apart = apart_set s.views id w r.apart (λ j u v other e is mine'. mine');
          tickets = (let e = total_set tickets_of s.views id m.0 w at in let p = r.tickets in omega arith);
          parts = same_total held_numbers s.views id m.0 w at refl ∙ r.parts;
          few = r.few;
          once = λ k. same_total (λ v. times k v.numbers) s.views id m.0 w at refl ∙ r.once k;
        },
        (refl, refl),
      )

  pub counts : (slots id : ℕ) (m : Seat) → Allows Rule slots id m 0 (λ n. n) (LookedAtCount maker (step slots 0 0 0 none) m)
  counts slots id m s r _ at _ =
      let old : ((j : ℕ) (v : View O E) → get_elem? s.views j ≡ some v → ViewFits maker origin r.hand r.served r.drawn v) = r.fits in
      let mine = old id m.0 at in
      let word : (get_or s.words 0 0) ≡ length r.hand = ap (λ (ws : List ℕ). get_or ws 0 0) r.words in
      (m.0, keeps, tt, unmoved s r 0 id m at, (refl, (r.hand, mine.seen, word)))

  pub exchanged_raises : (slots id new t : ℕ) (p m : Seat) (x y : Stored T E) (v : T) (list later : List E) (from : O) → m ≡ (p.0, (0, x) ∷ Rattle.atomic_table.specs.Table.rest p.1) → p.1 ≡ (0, y) ∷ [] → p.0.stage ≡ Holding t
      → x.value ≡ Some v → x.list.value ≡ list
      → p.0.origin ≡ Some from → stands v from list → new ≡ length list → new < 2 ^ 64 → list ≡ later ++ p.0.list → EachByThese maker p.0.numbers later
      → Allows Rule slots id m 0 (λ _. new) (λ _. RaisedCount (step slots 0 new 0 none) m new)
  exchanged_raises slots id new t p m x y v list later from is slot holding value listed begins stood len short grows own =
      subst (λ (z : Seat). Allows Rule slots id z 0 (λ _. new) (λ _. RaisedCount (step slots 0 new 0 none) z new)) (sym is)
      (raises slots id new t (p.0, (0, x) ∷ Rattle.atomic_table.specs.Table.rest p.1) x v list later from (ap (λ (c : List (ℕ × Stored T E)). (0, x) ∷ Rattle.atomic_table.specs.Table.rest c) slot) holding value listed begins stood len short grows own)

module _ {T O E : Type 0} where
  -- the slot of a seat is emptied
  pub lifts : (p q : Me (Stored T E) (View O E)) (x r f : Stored T E) (v w : T) → p.1 ≡ (0, x) ∷ [] → p.1 ≡ (0, r) ∷ Rattle.atomic_table.specs.Table.rest p.1 → q ≡ (p.0, (0, f) ∷ Rattle.atomic_table.specs.Table.rest p.1) → r.value ≡ Some w
      → (q.0 ≡ p.0) × ((y : Stored T E) × (q.1 ≡ (0, y) ∷ [])) × ((y : Stored T E) (c : List (ℕ × Stored T E)) → p.1 ≡ (0, y) ∷ c → y.value ≡ Some w)
  lifts p q x r f v w has found is value = (
    ap (λ (z : Me (Stored T E) (View O E)). z.0) is,
    (f, ap (λ (z : Me (Stored T E) (View O E)). z.1) is ∙ ap (λ (z : List (ℕ × Stored T E)). (0, f) ∷ Rattle.atomic_table.specs.Table.rest z) has),
    λ y c e. ap (λ (z : Stored T E). z.value) (same_slot y r 0 0 (Rattle.atomic_table.specs.Table.rest p.1) c (sym e ∙ found)) ∙ value,
  )

  -- a seat after it gave its value back
  pub gave : (p m n : Me (Stored T E) (View O E)) (x y : Stored T E) (list : List E) (t : ℕ)
      → m ≡ (p.0, (0, x) ∷ Rattle.atomic_table.specs.Table.rest p.1) → p.1 ≡ (0, y) ∷ [] → p.0.stage ≡ Holding t → x.list.value ≡ list → RaisedCount (step 0 0 0 0 none) m 0 n
      → (n.1 ≡ []) × (n.0 ≡ plain_view p.0.origin list p.0.numbers (Leaving t) p.0.turns)
  gave p m n x y list t is slot holding listed told =
      let slots : m.1 ≡ (0, x) ∷ [] = ap (λ (z : Me (Stored T E) (View O E)). z.1) is ∙ ap (λ (z : List (ℕ × Stored T E)). (0, x) ∷ Rattle.atomic_table.specs.Table.rest z) slot in
      let a = told 0 x [] slots in
      let v : m.0 ≡ p.0 = ap (λ (z : Me (Stored T E) (View O E)). z.0) is in (
        a.0,
        a.1 ∙ (ap (λ (z : View O E). plain_view z.origin x.list.value z.numbers (leaving z.stage) z.turns) v
            ∙ (ap (λ (l : List E). plain_view p.0.origin l p.0.numbers (leaving p.0.stage) p.0.turns) listed
            ∙ ap (λ (g : Stage). plain_view p.0.origin list p.0.numbers (leaving g) p.0.turns) holding)),
      )
