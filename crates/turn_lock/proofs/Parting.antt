-- A lock is made, and seats are split and joined.
use Rattle.std.proofs.Common.{◌≡◌, ℕ, zero, suc, ◌+◌, ◌^◌, ◌<◌, ◌≤◌, eqb, nat_lt, Bool, true, false, Some, None, List, [], ◌∷◌, ◌++◌, map, length, get_or, set, refl, ap, sym, ◌∙◌, subst, inl, inr, ⊎_elim, arith, length-append, append_assoc, ne_eqb, eq-eqb, add-zero}
use borrow.Author.Tests.{ltb-true, ltb-false}
use mathlib.Core.List.{append-nil}
use Rattle.std.specs.Prelude.{Option as Option'}
use mathlib.Core.Option.{Option, some, none, some-injective, some-ne-none}
use mathlib.Core.Logic.{dite}
use native.Mathlib.Decide.{ℕ_discrete, dec_le}
use prog.Atomic.{either}
use lib.ListN.{get_elem?}
use lib.Seq.{set-get_or}
use Rattle.atomic_table.specs.Table.{State, Me, step, keeps, Allows, Splits, Joins, opening, Final, Seen}
use Rattle.atomic_table.proofs.Lists.{set_else, at_snoc, at_longer, exchanged}
use Rattle.turn_lock.specs.declared.view.View.{View}
use Rattle.turn_lock.specs.declared.view.Stored.{Stored}
use Rattle.turn_lock.specs.declared.view.Stage.{Stage}
use Rattle.turn_lock.specs.declared.view.Stage.TheVariants.{Idle, Waiting, Holding, Leaving}
use Rattle.turn_lock.specs.Entries.{times, below, without_first, longer, NoneByThese, GoesOnByOthers}
use Rattle.turn_lock.specs.Rule.{sum_over, AllBegin, has_ticket, IsTicket, IsHolding, IsPlaced, tickets_of, held_numbers, plain_view, ViewFits, TicketsDiffer, IsStored, IsSlotAt, KeepsTurns}
use Rattle.turn_lock.specs.Steps.{tail_of, head_only, staged, with_numbers, left_part, right_part, both_parts, spent_part, BroughtNumber, LookedBack}
use Rattle.turn_lock.specs.Places.{Place, Closes, TookIn}
use Rattle.turn_lock.proofs.Sums.{total_set, same_total, two_of, part_of, times_once, times_high}
use Rattle.turn_lock.proofs.Turning.{each_set, apart_set, home_stays, none_of_none, one_there, some_same}

pub times_brought : (j k : ℕ) (ns : List ℕ) → 0 < times k ns → times j (k ∷ without_first k ns) ≡ times j ns
times_brought j k [] h = absurd (omega arith)
times_brought j k (x ∷ xs) h = dite (ℕ_discrete x k)
    (λ e. let yes : eqb x k ≡ true = eq-eqb x k e in rw (yes, e))
    (λ ne. let no : eqb x k ≡ false = ne_eqb x k ne in let more : 0 < times k xs = (let h' = rw no at h in omega arith) in let i = times_brought j k xs more in rw no (omega arith))

pub length_brought : (k : ℕ) (ns : List ℕ) → 0 < times k ns → length (k ∷ without_first k ns) ≡ length ns
length_brought k [] h = absurd (omega arith)
length_brought k (x ∷ xs) h = dite (ℕ_discrete x k)
    (λ e. let yes : eqb x k ≡ true = eq-eqb x k e in rw yes)
    (λ ne. let no : eqb x k ≡ false = ne_eqb x k ne in let more : 0 < times k xs = (let h' = rw no at h in omega arith) in let i = length_brought k xs more in rw no (omega arith))

pub times_parted : (k : ℕ) (ns : List ℕ) → times k (tail_of ns) + times k (head_only ns) ≡ times k ns
times_parted k [] = refl
times_parted k (x ∷ xs) = omega arith

pub length_parted : (ns : List ℕ) → length (tail_of ns) + length (head_only ns) ≡ length ns
length_parted [] = refl
length_parted (x ∷ xs) = omega arith

pub times_append : (k : ℕ) (ns ms : List ℕ) → times k (ns ++ ms) ≡ times k ns + times k ms
times_append k [] ms = omega arith
times_append k (x ∷ xs) ms = let i = times_append k xs ms in omega arith

pub length_below : (n : ℕ) → length (below n) ≡ n
length_below zero = refl
length_below (suc n) = let i = length_below n in omega arith

module _ {E : Type 0} (maker : E → ℕ) where
  pub none_times : (ns ms : List ℕ) → ((k : ℕ) → times k ns ≡ 0 → times k ms ≡ 0) → (xs : List E) → NoneByThese maker ns xs → NoneByThese maker ms xs
  none_times ns ms h [] a = tt
  none_times ns ms h (x ∷ xs) a = (h (maker x) a.0, none_times ns ms h xs a.1)

  pub none_union : (ns ms : List ℕ) (xs : List E) → NoneByThese maker ns xs → NoneByThese maker ms xs → NoneByThese maker (ns ++ ms) xs
  none_union ns ms [] a b = tt
  none_union ns ms (x ∷ xs) a b = (times_append (maker x) ns ms ∙ (let p = a.0 in let q = b.0 in omega arith), none_union ns ms xs a.1 b.1)

  pub none_back : (ns : List ℕ) (xs ys : List E) → NoneByThese maker ns (xs ++ ys) → NoneByThese maker ns ys
  none_back ns [] ys a = a
  none_back ns (x ∷ xs) ys a = none_back ns xs ys a.1

  pub none_front : (ns : List ℕ) (xs ys : List E) → NoneByThese maker ns (xs ++ ys) → NoneByThese maker ns xs
  none_front ns [] ys a = tt
  none_front ns (x ∷ xs) ys a = (a.0, none_front ns xs ys a.1)

heads : {E : Type 0} (a b : E) (xs ys : List E) → a ∷ xs ≡ b ∷ ys → (a ≡ b) × (xs ≡ ys)
heads a b xs ys e = (cc, cc)

pub front_between : {E : Type 0} (la lb xs ys : List E) → la ++ xs ≡ lb ++ ys → length xs ≤ length ys → (z : List E) × (la ≡ lb ++ z)
front_between la [] xs ys e h = (la, refl)
front_between [] (b ∷ lb) xs ys e h = let l = ap length e in let m = length-append lb ys in absurd (omega arith)
front_between (a ∷ la) (b ∷ lb) xs ys e h = let t = heads a b (la ++ xs) (lb ++ ys) e in let r = front_between la lb xs ys t.1 h in (r.0, cc (t.0, r.1))

same_end : {E : Type 0} (xs ys zs : List E) → xs ++ ys ≡ xs ++ zs → ys ≡ zs
same_end [] ys zs e = e
same_end (x ∷ xs) ys zs e = same_end xs ys zs (heads x x (xs ++ ys) (xs ++ zs) e).1

-- of two lists with which one begins, the longer begins with the shorter
pub shorter_begins : {E : Type 0} (maker : E → ℕ) (ns ms : List ℕ) (hand xs ys : List E) → GoesOnByOthers maker ns xs hand → GoesOnByOthers maker ms ys hand → length xs ≤ length ys → GoesOnByOthers maker ns xs ys
shorter_begins {E} maker ns ms hand xs ys p q le =
    let z = front_between p.0 q.0 xs ys (sym p.1 ∙ q.1) le in
    let e : q.0 ++ ys ≡ q.0 ++ (z.0 ++ xs) = sym q.1 ∙ (p.1 ∙ (ap (λ (l : List E). l ++ xs) z.1 ∙ append_assoc q.0 z.0 xs)) in
    (z.0, same_end q.0 ys (z.0 ++ xs) e, none_back maker ns q.0 z.0 (subst (NoneByThese maker ns) z.1 p.2))

module _ {V : Type 0} where
  pub total_snoc : (f : V → ℕ) (vs : List V) (w : V) → sum_over f (vs ++ w ∷ []) ≡ sum_over f vs + f w
  total_snoc f [] w = omega arith
  total_snoc f (x ∷ xs) w = let i = total_snoc f xs w in omega arith

module _ {O E : Type 0} where
  pub apart_snoc : (vs : List (View O E)) (w : View O E) → w.stage ≡ Idle → TicketsDiffer vs → TicketsDiffer (vs ++ w ∷ [])
  apart_snoc vs w idle apart i j t a b ea eb ta tb = ⊎_elim
      (λ (p : get_elem? vs i ≡ some a). ⊎_elim
      (λ (q : get_elem? vs j ≡ some b). apart i j t a b p q ta tb)
      (λ (q : w ≡ b). absurd (subst (IsTicket t) (ap (λ (z : View O E). z.stage) (sym q) ∙ idle) tb))
      (at_snoc vs w b j eb))
      (λ (p : w ≡ a). absurd (subst (IsTicket t) (ap (λ (z : View O E). z.stage) (sym p) ∙ idle) ta))
      (at_snoc vs w a i ea)

module _ {T O E : Type 0} (stands : T → O → List E → Type 0) (maker : E → ℕ) (origin : O) (count : ℕ) where
  abbrev Rule : State (Stored T E) (View O E) → Type 0
  Rule = KeepsTurns stands maker origin count

  abbrev St : Type 0
  St = State (Stored T E) (View O E)

  abbrev Seat : Type 0
  Seat = Me (Stored T E) (View O E)

  abbrev AllFit : St → (r : List E) → ℕ → ℕ → Type 0
  AllFit s hand served drawn = (j : ℕ) (v : View O E) → get_elem? s.views j ≡ some v → ViewFits maker origin hand served drawn v

  -- a view whose numbers are put in another order
  pub brings : (slots id k : ℕ) (m : Seat) → 0 < times k m.0.numbers → Allows Rule slots id m 0 (λ n. either (eqb n k) k n) (BroughtNumber (step slots 0 k k none) m)
  brings slots id k m has s r _ at _ =
      let old : AllFit s r.hand r.served r.drawn = r.fits in
      let mine = old id m.0 at in
      let ns = k ∷ without_first k m.0.numbers in
      let w = with_numbers m.0 ns in
      let len = length_brought k m.0.numbers has in
      let x : ℕ = get_or s.words 0 0 in
      let same : either (eqb x k) k x ≡ x = exchanged x k k (λ z. z ≡ x) (λ hit. sym hit) (λ miss. refl) in (
        w,
        keeps,
        tt,
        record {
          hand = r.hand;
          served = r.served;
          drawn = r.drawn;
          words = ap (λ (n : ℕ). set s.words 0 n) same ∙ (set-get_or s.words 0 0 ∙ r.words);
          short = r.short;
          home = home_stays stands maker origin count r.hand s.homes s.views id m.0 w at (λ h. h) r.home;
          fits = each_set (λ j v. ViewFits maker origin r.hand r.served r.drawn v) (λ j v. ViewFits maker origin r.hand r.served r.drawn v) s.views id w
              (record {
                same_origin = λ h. mine.same_origin (omega arith);
                seen = (mine.seen.0, mine.seen.1, none_times maker m.0.numbers ns (λ j z. times_brought j k m.0.numbers has ∙ z) mine.seen.0 mine.seen.2);
                placed = mine.placed;
                holds = mine.holds;
                enough = let e = mine.enough in omega arith;
                begun = tt;
              })
              (λ j v other e. old j v e);
          apart = apart_set s.views id w r.apart (λ j u v other e is mine'. other (r.apart j id u v m.0 e at is mine'));
          tickets = let e = same_total tickets_of s.views id m.0 w at refl in let p = r.tickets in omega arith;
          parts = same_total held_numbers s.views id m.0 w at len ∙ r.parts;
          few = r.few;
          once = λ j. same_total (λ v. times j v.numbers) s.views id m.0 w at (times_brought j k m.0.numbers has) ∙ r.once j;
        },
        (refl, refl),
      )

  -- a look that ends a join
  pub looks_back : (slots id : ℕ) (m : Seat) → Allows Rule slots id m 0 (λ n. n) (LookedBack maker (step slots 0 0 0 none) m)
  looks_back slots id m s r _ at _ =
      let old : AllFit s r.hand r.served r.drawn = r.fits in
      let mine = old id m.0 at in
      let w = staged m.0 m.0.stage in (
        w,
        keeps,
        tt,
        record {
          hand = r.hand;
          served = r.served;
          drawn = r.drawn;
          words = set-get_or s.words 0 0 ∙ r.words;
          short = r.short;
          home = home_stays stands maker origin count r.hand s.homes s.views id m.0 w at (λ h. h) r.home;
          fits = each_set (λ j v. ViewFits maker origin r.hand r.served r.drawn v) (λ j v. ViewFits maker origin r.hand r.served r.drawn v) s.views id w
              (record { same_origin = mine.same_origin; seen = mine.seen; placed = mine.placed; holds = mine.holds; enough = mine.enough; begun = tt })
              (λ j v other e. old j v e);
          apart = apart_set s.views id w r.apart (λ j u v other e is mine'. other (r.apart j id u v m.0 e at is mine'));
          tickets = let e = same_total tickets_of s.views id m.0 w at refl in let p = r.tickets in omega arith;
          parts = same_total held_numbers s.views id m.0 w at refl ∙ r.parts;
          few = r.few;
          once = λ j. same_total (λ v. times j v.numbers) s.views id m.0 w at refl ∙ r.once j;
        },
        (refl, mine.begun),
      )

  home_longer : (hand : List E) (homes : List (Option (Stored T E))) (vs : List (View O E)) (w : View O E) → IsSlotAt stands origin hand homes vs → IsSlotAt stands origin hand homes (vs ++ w ∷ [])
  home_longer hand homes vs w at = ⊎_elim inl (λ (out : (homes ≡ none ∷ []) × ((j : ℕ) × (u : View O E) × (get_elem? vs j ≡ some u) × IsHolding u.stage)).
      inr (out.0, (out.1.0, out.1.1, at_longer vs (w ∷ []) out.1.0 out.1.1 out.1.2, out.1.3))) at

  pub splits : (id : ℕ) (v : View O E) → v.stage ≡ Idle → Splits Rule id v (left_part v) (right_part v)
  splits id v idle s r at =
      let old : AllFit s r.hand r.served r.drawn = r.fits in
      let mine = old id v at in
      let a = left_part v in
      let b = right_part v in
      let vs = set s.views id a in
      let len = length_parted v.numbers in
      let none : has_ticket v.stage ≡ 0 = ap has_ticket idle in
      let small = λ (ns : List ℕ) (h : (k : ℕ) → times k ns ≤ times k v.numbers). none_times maker v.numbers ns (λ k z. let e = h k in omega arith) mine.seen.0 mine.seen.2 in
      let firsts : ((j : ℕ) (u : View O E) → get_elem? vs j ≡ some u → ViewFits maker origin r.hand r.served r.drawn u) =
      each_set (λ j u. ViewFits maker origin r.hand r.served r.drawn u) (λ j u. ViewFits maker origin r.hand r.served r.drawn u) s.views id a
      (record {
        same_origin = λ h. mine.same_origin (omega arith);
        seen = (mine.seen.0, mine.seen.1, small (tail_of v.numbers) (λ k. let e = times_parted k v.numbers in omega arith));
        placed = mine.placed;
        holds = mine.holds;
        enough = omega arith;
        begun = tt;
      })
      (λ j u other e. old j u e) in
      record {
        hand = r.hand;
        served = r.served;
        drawn = r.drawn;
        words = r.words;
        short = r.short;
        home = home_longer r.hand s.homes vs b (home_stays stands maker origin count r.hand s.homes s.views id v a at (λ h. h) r.home);
        fits = λ j u e. ⊎_elim (firsts j u) (λ (is : b ≡ u). subst (ViewFits maker origin r.hand r.served r.drawn) is (record {
          same_origin = λ h. mine.same_origin (omega arith);
          seen = (mine.seen.0, mine.seen.1, small (head_only v.numbers) (λ k. let e = times_parted k v.numbers in omega arith));
          placed = tt;
          holds = λ h. absurd h;
          enough = omega arith;
          begun = tt;
        })) (at_snoc vs b u j e);
        apart = apart_snoc vs b refl (apart_set s.views id a r.apart (λ j u w other e is mine'. other (r.apart j id u w v e at is mine')));
        tickets = let e = same_total tickets_of s.views id v a at refl in let f = total_snoc tickets_of vs b in let p = r.tickets in omega arith;
        parts = let e = total_set held_numbers s.views id v a at in let f = total_snoc held_numbers vs b in let p = r.parts in omega arith;
        few = r.few;
        once = λ k. let e = total_set (λ (z : View O E). times k z.numbers) s.views id v a at in let f = total_snoc (λ (z : View O E). times k z.numbers) vs b in let p = r.once k in let q = times_parted k v.numbers in omega arith;
      }

  -- what both have seen, and that no further entry is of their makers
  seen_both : (hand xs ys : List E) (ns ms : List ℕ) → GoesOnByOthers maker ns xs hand → GoesOnByOthers maker ms ys hand
      → (b : Bool) → nat_lt (length xs) (length ys) ≡ b → GoesOnByOthers maker (ns ++ ms) (longer xs ys) hand
  seen_both hand xs ys ns ms p q true e =
      let less : length xs < length ys = ltb-true (length xs) (length ys) e in
      let z = front_between p.0 q.0 xs ys (sym p.1 ∙ q.1) (omega arith) in
      let mine : NoneByThese maker ns q.0 = none_front maker ns q.0 z.0 (subst (NoneByThese maker ns) z.1 p.2) in
      rw e (q.0, q.1, none_union maker ns ms q.0 mine q.2)
  seen_both hand xs ys ns ms p q false e =
      let less : length ys ≤ length xs = ltb-false (length xs) (length ys) e in
      let z = front_between q.0 p.0 ys xs (sym q.1 ∙ p.1) less in
      let theirs : NoneByThese maker ms p.0 = none_front maker ms p.0 z.0 (subst (NoneByThese maker ms) z.1 q.2) in
      rw e (p.0, p.1, none_union maker ns ms p.0 p.2 theirs)

  -- the longer list begins with both
  both_begin : (hand xs ys : List E) (ns ms : List ℕ) → GoesOnByOthers maker ns xs hand → GoesOnByOthers maker ms ys hand → (b : Bool) → nat_lt (length xs) (length ys) ≡ b
      → GoesOnByOthers maker ns xs (longer xs ys) × GoesOnByOthers maker ms ys (longer xs ys)
  both_begin hand xs ys ns ms p q true e =
      let less : length xs < length ys = ltb-true (length xs) (length ys) e in
      rw e (shorter_begins maker ns ms hand xs ys p q (omega arith), ([], refl, tt))
  both_begin hand xs ys ns ms p q false e =
      let less : length ys ≤ length xs = ltb-false (length xs) (length ys) e in
      rw e (([], refl, tt), shorter_begins maker ms ns hand ys xs q p less)

  pub joins : (id : ℕ) (v : View O E) (other : ℕ) (w : View O E) → v.stage ≡ Idle → w.stage ≡ Idle → 0 < length v.numbers → 0 < length w.numbers → Joins Rule id v other w (both_parts v w) spent_part
  joins id v other w idle idle' some_v some_w s r at apart at' =
      let old : AllFit s r.hand r.served r.drawn = r.fits in
      let b = both_parts v w in
      let sp : View O E = spent_part in
      let vs = set s.views id b in
      let there : get_elem? s.views other ≡ some w = sym (set_else s.views id other b apart) ∙ at' in
      let mine = old id v at in
      let theirs = old other w there in
      let both = both_begin r.hand v.list w.list v.numbers w.numbers mine.seen theirs.seen (nat_lt (length v.list) (length w.list)) refl in
      let none : has_ticket v.stage ≡ 0 = ap has_ticket idle in
      let none' : has_ticket w.stage ≡ 0 = ap has_ticket idle' in
      let F : ℕ → View O E → Type 0 = λ j u. ViewFits maker origin r.hand r.served r.drawn u in
      let firsts : ((j : ℕ) (u : View O E) → get_elem? vs j ≡ some u → ViewFits maker origin r.hand r.served r.drawn u) =
      each_set F F s.views id b
      (record {
        same_origin = λ h. mine.same_origin some_v;
        seen = seen_both r.hand v.list w.list v.numbers w.numbers mine.seen theirs.seen (nat_lt (length v.list) (length w.list)) refl;
        placed = mine.placed;
        holds = λ h. absurd (subst IsHolding idle h);
        enough = omega arith;
        begun = ((theirs.same_origin some_w ∙ sym (mine.same_origin some_v), both.1), ((refl, both.0), tt));
      })
      (λ j u n e. old j u e) in
      record {
        hand = r.hand;
        served = r.served;
        drawn = r.drawn;
        words = r.words;
        short = r.short;
        home = home_stays stands maker origin count r.hand s.homes vs other w sp at' (λ h. absurd (subst IsHolding idle' h)) (home_stays stands maker origin count r.hand s.homes s.views id v b at (λ h. h) r.home);
        fits = each_set F F vs other sp
            (record {
              same_origin = λ h. absurd (omega arith);
              seen = (r.hand, sym (append-nil r.hand), none_of_none maker r.hand);
              placed = tt;
              holds = λ h. absurd h;
              enough = omega arith;
              begun = tt;
            })
            (λ j u n e. firsts j u e);
        apart = apart_set vs other sp (apart_set s.views id b r.apart (λ j t u n e is mine'. absurd (subst (IsTicket t) idle mine'))) (λ j t u n e is mine'. mine');
        tickets = let e = total_set tickets_of s.views id v b at in let f = total_set tickets_of vs other w sp at' in let p = r.tickets in omega arith;
        parts = let e = total_set held_numbers s.views id v b at in let f = total_set held_numbers vs other w sp at' in let p = r.parts in let q = length-append v.numbers w.numbers in omega arith;
        few = r.few;
        once = λ k. let e = total_set (λ (z : View O E). times k z.numbers) s.views id v b at in let f = total_set (λ (z : View O E). times k z.numbers) vs other w sp at' in let p = r.once k in let q = times_append k v.numbers w.numbers in omega arith;
      }

  first_fits : (v : View O E) (hand : List E) → v.origin ≡ Some origin → v.list ≡ hand → v.stage ≡ Idle → AllBegin maker v.origin v.list v.joined → ViewFits maker origin hand 0 0 v
  first_fits v hand o l idle none_begun = record {
    same_origin = λ _. o;
    seen = ([], sym l, tt);
    placed = subst (IsPlaced 0 0) (sym idle) tt;
    holds = λ h. absurd (subst IsHolding idle h);
    enough = let z : has_ticket v.stage ≡ 0 = ap has_ticket idle in omega arith;
    begun = none_begun;
  }

  pub opens : (value : T) (list : List E) (x : Stored T E) (new : ℕ) (xs : List (Stored T E)) → stands value origin list → x.value ≡ Some value → x.list.value ≡ list → xs ≡ x ∷ [] → new ≡ length list → new < 2 ^ 64 → count < 2 ^ 32
      → Rule (opening (new ∷ 0 ∷ 0 ∷ []) xs (plain_view (Some origin) list (below count) Idle 0))
  opens value list x new xs stood is listed one len short few =
      let v : View O E = plain_view (Some origin) list (below count) Idle 0 in
      record {
        hand = list;
        served = 0;
        drawn = 0;
        words = ap (λ (n : ℕ). n ∷ 0 ∷ 0 ∷ []) len;
        short = omega arith;
        home = inl (x, ap (λ (ys : List (Stored T E)). map (λ (y : Stored T E). some y) ys) one, (value, is, listed, stood));
        fits = λ j u e. only j u e;
        apart = λ i j t a b ea eb ta tb. at_first i a ea ∙ sym (at_first j b eb);
        tickets = refl;
        parts = let l = length_below count in omega arith;
        few = few;
        once = λ k. add-zero (times k (below count));
      }
    where
      only : (j : ℕ) (u : View O E) → get_elem? (plain_view (Some origin) list (below count) Idle 0 ∷ []) j ≡ some u → ViewFits maker origin list 0 0 u
      only zero u e = subst (ViewFits maker origin list 0 0) (some-injective (plain_view (Some origin) list (below count) Idle 0) u e) (first_fits (plain_view (Some origin) list (below count) Idle 0) list refl refl refl tt)
      only (suc j) u e = absurd (some-ne-none u (sym e))

      at_first : (i : ℕ) (a : View O E) → get_elem? (plain_view (Some origin) list (below count) Idle 0 ∷ []) i ≡ some a → i ≡ 0
      at_first zero a e = refl
      at_first (suc i) a e = absurd (some-ne-none a (sym e))

-- the same at an origin and a list that are known by equations
pub opens_at : {T O E : Type 0} (stands : T → O → List E → Type 0) (maker : E → ℕ) (origin o : O) (count n : ℕ) (value : T) (list l : List E) (x : Stored T E) (new : ℕ) (xs : List (Stored T E))
    → origin ≡ o → list ≡ l → count ≡ n → stands value o l → x.value ≡ Some value → x.list.value ≡ l → xs ≡ x ∷ [] → new ≡ length l → new < 2 ^ 64 → n < 2 ^ 32
    → KeepsTurns stands maker origin count (opening (new ∷ 0 ∷ 0 ∷ []) xs (plain_view (Some origin) list (below count) Idle 0))
opens_at {T} {O} {E} stands maker origin o count n value list l x new xs eo el ec stood is listed one len short few =
    subst (λ (z : O × (List E × ℕ)). KeepsTurns stands maker z.0 z.1.1 (opening (new ∷ 0 ∷ 0 ∷ []) xs (plain_view (Some z.0) z.1.0 (below z.1.1) Idle 0)))
    (λ i. (sym eo i, (sym el i, sym ec i))) (opens stands maker o n value l x new xs stood is listed one len short few)

pub numbered_idle : {O E : Type 0} (v w : View O E) (ns : List ℕ) → w ≡ with_numbers v ns → v.stage ≡ Idle → w.stage ≡ Idle
numbered_idle {O} {E} v w ns e idle = ap (λ (z : View O E). z.stage) e ∙ idle

-- what a seat and its part have
pub parted : {T O E : Type 0} (p q u r : Me (Stored T E) (View O E)) (k : ℕ) → 0 < times k p.0.numbers → p.1 ≡ [] → p.0.stage ≡ Idle
    → q.1 ≡ p.1 → q.0 ≡ with_numbers p.0 (k ∷ without_first k p.0.numbers) → u ≡ (left_part q.0, q.1) → r ≡ (right_part q.0, [])
    → (u.0 ≡ with_numbers p.0 (without_first k p.0.numbers)) × ((u.1 ≡ []) × (u.0.stage ≡ Idle)) × ((r.1 ≡ []) × (r.0.stage ≡ Idle)) × (r.0 ≡ plain_view p.0.origin p.0.list (k ∷ []) Idle 0)
parted {T} {O} {E} p q u r k has empty idle a b e f =
    let left : u.0 ≡ with_numbers p.0 (without_first k p.0.numbers) = ap (λ (z : Me (Stored T E) (View O E)). z.0) e ∙ ap (λ (z : View O E). left_part z) b in
    let right : r.0 ≡ plain_view p.0.origin p.0.list (k ∷ []) Idle 0 = ap (λ (z : Me (Stored T E) (View O E)). z.0) f ∙ ap (λ (z : View O E). right_part z) b in
    (left, (ap (λ (z : Me (Stored T E) (View O E)). z.1) e ∙ (a ∙ empty), ap (λ (z : View O E). z.stage) left ∙ idle), (ap (λ (z : Me (Stored T E) (View O E)). z.1) f, ap (λ (z : View O E). z.stage) right), right)

pub some_left : {O E : Type 0} (v u : View O E) (k : ℕ) → 0 < times k v.numbers → 1 < length v.numbers → u ≡ with_numbers v (without_first k v.numbers) → (0 < length u.numbers) × (u.turns ≡ v.turns)
some_left {O} {E} v u k has more f =
    let a : u.numbers ≡ without_first k v.numbers = ap (λ (z : View O E). z.numbers) f in
    let b = length_brought k v.numbers has in
    let l = ap length a in
    (omega arith, ap (λ (z : View O E). z.turns) f)

pub some_below : (n : ℕ) → 0 < n → 0 < length (below n)
some_below n h = let l = length_below n in omega arith

pub opened : {T O E : Type 0} (m : Me (Stored T E) (View O E)) (origin : Option' O) (list : List E) (count n : ℕ) → m ≡ (plain_view origin list (below count) Idle 0, []) → count ≡ n → 0 < n → (0 < length m.0.numbers) × (m.0.turns ≡ 0)
opened {T} {O} {E} m origin list count n e ec h =
    let a : length m.0.numbers ≡ length (below count) = ap (λ (z : Me (Stored T E) (View O E)). length z.0.numbers) e in
    let b = length_below count in
    (omega arith, ap (λ (z : Me (Stored T E) (View O E)). z.0.turns) e)

holding_parts : (g : Stage) (n : ℕ) → IsHolding g → has_ticket g ≤ n → 1 ≤ n
holding_parts Idle n h l = absurd h
holding_parts (Waiting t) n h l = absurd h
holding_parts (Holding t) n h l = l
holding_parts (Leaving t) n h l = absurd h

held_head : (ns : List ℕ) → 1 ≤ length ns → (k : ℕ) × (1 ≤ times k ns)
held_head [] h = absurd (omega arith)
held_head (x ∷ xs) h = (x, let yes : eqb x x ≡ true = eq-eqb x x refl in rw yes (omega arith))

pub closing : {T O E : Type 0} (stands : T → O → List E → Type 0) (maker : E → ℕ) (origin : O) (count id : ℕ) (v : View O E) (s : State (Stored T E) (View O E)) → (r : KeepsTurns stands maker origin count s) → get_elem? s.views id ≡ some v
    → v.stage ≡ Idle → ((k : ℕ) → k < count → 0 < times k v.numbers) → (x : Stored T E) × (s.homes ≡ some x ∷ []) × IsStored stands origin r.hand x
closing {T} {O} {E} stands maker origin count id v s r at idle every = ⊎_elim (λ (h : (x : Stored T E) × (s.homes ≡ some x ∷ []) × IsStored stands origin r.hand x). h)
    (λ (out : (s.homes ≡ none ∷ []) × ((j : ℕ) × (u : View O E) × (get_elem? s.views j ≡ some u) × IsHolding u.stage)).
    let j = out.1.0 in let u = out.1.1 in
    let old : ((j : ℕ) (v : View O E) → get_elem? s.views j ≡ some v → ViewFits maker origin r.hand r.served r.drawn v) = r.fits in
    let other : ¬ (j ≡ id) = λ same. absurd (subst IsHolding idle (subst (λ (z : View O E). IsHolding z.stage) (one_there s.views id u v (subst (λ (z : ℕ). get_elem? s.views z ≡ some u) same out.1.2) at) out.1.3)) in
    let k = held_head u.numbers (holding_parts u.stage (length u.numbers) out.1.3 (old j u out.1.2).enough) in
    let o = r.once k.0 in
    let f : View O E → ℕ = λ z. times k.0 z.numbers in
    dite (dec_le (suc k.0) count)
    (λ less. let a = two_of f s.views id j v u other at out.1.2 in let b = times_once k.0 count in let e = every k.0 less in let kk = k.1 in absurd (omega arith))
    (λ more. let a = part_of f s.views j u out.1.2 in let b = times_high k.0 count (omega arith) in let kk = k.1 in absurd (omega arith)))
    r.home

pub closes : {T O E : Type 0} (stands : T → O → List E → Type 0) (maker : E → ℕ) (origin : O) (count id : ℕ) (v : View O E) (ws : List ℕ) (xs : List (Stored T E)) (y : Stored T E)
    → Final (Seen (KeepsTurns stands maker origin count) id v) ws xs → get_elem? xs 0 ≡ some y → v.stage ≡ Idle → 0 < length v.numbers → ((k : ℕ) → k < count → 0 < times k v.numbers)
    → (value : T) × (y.value ≡ Some value) × Closes stands maker v value
closes {T} {O} {E} stands maker origin count id v ws xs y final at idle any every =
    let s = final.0 in
    let r = final.1.0 in
    let c = closing stands maker origin count id v s r final.1.1 idle every in
    let x = c.0 in
    let is : x ≡ y = some-injective x y (sym (final.4 0 x (ap (λ (hs : List (Option (Stored T E))). get_elem? hs 0) c.1)) ∙ at) in
    let mine = r.fits id v final.1.1 in (
      c.2.0,
      ap (λ (z : Stored T E). z.value) (sym is) ∙ c.2.1,
      record {
        list = r.hand;
        seen = mine.seen;
        stood = λ o e. subst (λ (z : O). stands c.2.0 z r.hand) (some_same origin o (sym (mine.same_origin any) ∙ e)) c.2.3;
      },
    )

pub not_none : {X : Type 0} (o : Option' X) (x : X) → o ≡ None → o ≡ Some x → ⊥
not_none o x a b = cc

-- a place that took in another, and looked back
pub joined : {T O E : Type 0} (maker : E → ℕ) (old other met new : Place T O E) → old.me.1 ≡ [] → old.me.0.stage ≡ Idle → met.table_id ≡ old.table_id → met.id ≡ old.id → met.me ≡ (both_parts old.me.0 other.me.0, old.me.1)
    → new.table_id ≡ met.table_id → new.id ≡ met.id → new.me ≡ (staged met.me.0 met.me.0.stage, met.me.1) → AllBegin maker met.me.0.origin met.me.0.list met.me.0.joined → TookIn maker old other new
joined {T} {O} {E} maker old other met new empty idle at at' took same same' stood begun =
    let v : met.me.0 ≡ both_parts old.me.0 other.me.0 = ap (λ (z : Me (Stored T E) (View O E)). z.0) took in
    let w : new.me.0 ≡ staged met.me.0 met.me.0.stage = ap (λ (z : Me (Stored T E) (View O E)). z.0) stood in
    let b : View O E = both_parts old.me.0 other.me.0 in
    let is : new.me.0 ≡ staged b b.stage = w ∙ ap (λ (z : View O E). staged z z.stage) v in
    record {
      same = (same ∙ at, same' ∙ at');
      free = (ap (λ (z : Me (Stored T E) (View O E)). z.1) stood ∙ (ap (λ (z : Me (Stored T E) (View O E)). z.1) took ∙ empty), ap (λ (z : View O E). z.stage) is ∙ idle);
      view = is;
      begun = subst (λ (l : List E). AllBegin maker old.me.0.origin l b.joined) (sym (ap (λ (z : View O E). z.list) is)) (subst (λ (z : View O E). AllBegin maker z.origin z.list z.joined) v begun);
    }
