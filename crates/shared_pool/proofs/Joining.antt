-- A seat that takes in those of passes, and the end of the lock.
use Rattle.std.proofs.Common.{◌≡◌, ℕ, ◌+◌, ◌<◌, List, [], ◌∷◌, ◌++◌, refl, ap, sym, ◌∙◌, subst, arith, append_assoc, eqb, true, eq-eqb, Result, Ok, Err, IfOk}
use Rattle.std.specs.List.{AllByRecursion}
use Rattle.turn_lock.specs.Entries.{times, NoneByThese, GoesOnByOthers}
use Rattle.turn_lock.specs.Seats.{SeatView, Joined, StandsBeyond}
use Rattle.txg_core.specs.Rules.{Meaning}
use Rattle.txg_core.specs.History.{maker_of}
use Rattle.txg_core.specs.Laws.{NoneBy}
use Rattle.txg_core.specs.declared.event.Entry.{Entry}
use Rattle.txg_core.specs.declared.origin.Opening.{Opening}
use Rattle.shared_pool.specs.declared.answers.Closed.{Closed}
use Rattle.shared_pool.specs.Recordings.{Recording}
use Rattle.shared_pool.specs.Passes.{PassView, SyncPassView, GrowsByOthers}
use Rattle.shared_pool.specs.Closing.{makers_of, AllSawFronts, IsEnd, IsClosed}
use Rattle.shared_pool.specs.Seating.{JoinsPass, JoinedPasses}
use Rattle.shared_pool.proofs.Makers.{by-others, others-on}

times-append : (k : ℕ) (ns ms : List ℕ) → times k (ns ++ ms) ≡ times k ns + times k ms
times-append k [] ms = omega arith
times-append k (x ∷ xs) ms = let i = times-append k xs ms in omega arith

-- what is made by none of many makers is made by none of fewer, and not by one of them
none-fewer : {C : Type 0} (ms ns : List ℕ) (later : List (Entry C)) → ((k : ℕ) → times k ns ≡ 0 → times k ms ≡ 0) → NoneByThese maker_of ns later → NoneByThese maker_of ms later
none-fewer ms ns [] fewer none = tt
none-fewer ms ns (x ∷ xs) fewer none = (fewer (maker_of x) none.0, none-fewer ms ns xs fewer none.1)

none-one : {C : Type 0} (k : ℕ) (ns : List ℕ) (later : List (Entry C)) → 0 < times k ns → NoneByThese maker_of ns later → NoneBy k later
none-one k ns [] some none = tt
none-one k ns (x ∷ xs) some none = (λ same. let zero : times k ns ≡ 0 = subst (λ (m : ℕ). times m ns ≡ 0) same none.0 in omega arith, none-one k ns xs some none.1)

others-one : {C : Type 0} (k : ℕ) (ns : List ℕ) (front h : List (Entry C)) → 0 < times k ns → GoesOnByOthers maker_of ns front h → GrowsByOthers k front h
others-one k ns front h some g = record { later = g.0; is = g.1; none_own = none-one k ns g.0 some g.2 }

none-both : {C : Type 0} (ns : List ℕ) (xs ys : List (Entry C)) → NoneByThese maker_of ns xs → NoneByThese maker_of ns ys → NoneByThese maker_of ns (xs ++ ys)
none-both ns [] ys a b = b
none-both ns (x ∷ xs) ys a b = (a.0, none-both ns xs ys a.1 b)

others-both : {C : Type 0} (ms ns : List ℕ) (front mid h : List (Entry C)) → ((k : ℕ) → times k ns ≡ 0 → times k ms ≡ 0) → GoesOnByOthers maker_of ms front mid → GoesOnByOthers maker_of ns mid h → GoesOnByOthers maker_of ms front h
others-both {C = C} ms ns front mid h fewer a b = (b.0 ++ a.0, b.1 ∙ (ap (λ (l : List (Entry C)). b.0 ++ l) a.1 ∙ sym (append_assoc b.0 a.0 front)), none-both ms b.0 a.0 (none-fewer ms ns b.0 fewer b.2) a.2)

pub joins : {O C : Type 0} (old other new : SeatView (Opening O) (Entry C)) (s : ℕ) (p : PassView O C) → Joined maker_of old other new → other.numbers ≡ (s + 1) ∷ [] → record { pool = other.lock; opening = other.origin; session = s; front = other.seen; turns = other.turns } ≡ p → JoinsPass old p new
joins {O = O} {C = C} old other new s p j own is = subst (λ (z : PassView O C). JoinsPass old z new) is (record {
  same = let seen = ap (λ (z : SeatView (Opening O) (Entry C)). z.seen) j.same in let numbers = ap (λ (z : SeatView (Opening O) (Entry C)). z.numbers) j.same in let same = j.same in cc;
  numbers = ap (λ (z : SeatView (Opening O) (Entry C)). z.numbers) j.same ∙ ap (λ (ns : List ℕ). old.numbers ++ ns) own;
  own = j.own;
  front = by-others (s + 1) other.numbers other.seen new.seen j.others own;
})

-- each pass had seen a front of what a seat with its number has seen
fronts-on : {O C : Type 0} (ns : List ℕ) (mid h : List (Entry C)) (passes : List (PassView O C)) → GoesOnByOthers maker_of ns mid h → ((k : ℕ) → 0 < times k (makers_of passes) → 0 < times k ns) → AllSawFronts mid passes → AllSawFronts h passes
fronts-on ns mid h [] g held saw = tt
fronts-on ns mid h (p ∷ ps) g held saw =
    let here : eqb (p.session + 1) (p.session + 1) ≡ true = eq-eqb (p.session + 1) (p.session + 1) refl in
    let some : 0 < times (p.session + 1) (makers_of (p ∷ ps)) = rw here (omega arith) in (
      others-on (p.session + 1) p.front mid h saw.0 (others-one (p.session + 1) ns mid h (held (p.session + 1) some) g),
      fronts-on ns mid h ps g (λ k lt. held k (omega (arith, lt))) saw.1,
    )

module _ {O C : Type 0} (old mid new : SeatView (Opening O) (Entry C)) (all left rest : List (PassView O C)) (p : PassView O C) where
  pub joined-more : left ≡ rest ++ p ∷ [] → JoinedPasses old all left mid → JoinsPass mid p new → JoinedPasses old all rest new
  joined-more e j i = record {
    done = p ∷ j.done;
    parts = j.parts ∙ (ap (λ (l : List (PassView O C)). l ++ j.done) e ∙ append_assoc rest (p ∷ []) j.done);
    same = i.same ∙ ap (λ (z : SeatView (Opening O) (Entry C)). record z { seen = new.seen; numbers = new.numbers }) j.same;
    numbers = λ k. let a = ap (times k) i.numbers in let b = times-append k mid.numbers ((p.session + 1) ∷ []) in let d = j.numbers k in omega (arith, a, b, d);
    own = others-both old.numbers mid.numbers old.seen mid.seen new.seen (λ k none. let d = j.numbers k in omega (arith, d, none)) j.own i.own;
    fronts = (i.front, fronts-on mid.numbers mid.seen new.seen j.done i.own (λ k some. let d = j.numbers k in omega (arith, d, some)) j.fronts);
  }

all-right : {X : Type 0} (P : X → Type 0) (xs ys : List X) → AllByRecursion P (xs ++ ys) → AllByRecursion P ys
all-right P [] ys a = a
all-right P (x ∷ xs) ys a = all-right P xs ys a.1

pub all-last : {X : Type 0} (P : X → Type 0) (all left done rest : List X) (p : X) → all ≡ left ++ done → left ≡ rest ++ p ∷ [] → AllByRecursion P all → P p
all-last {X = X} P all left done rest p a b h =
    let both : all ≡ rest ++ (p ∷ done) = a ∙ (ap (λ (l : List X). l ++ done) b ∙ append_assoc rest (p ∷ []) done) in
    (all-right P rest (p ∷ done) (subst (AllByRecursion P) both h)).0

-- the end of the lock, and of the core under it
pub closed-all : {O W C R : Type 0} (means : O → Meaning W C R) (v w : SeatView (Opening O) (Entry C)) (sync : SyncPassView O C) (passes : List (PassView O C)) (core : Recording O C) (closed : Closed O)
    → record { pool = v.lock; opening = v.origin; front = v.seen; turns = v.turns } ≡ sync → v.numbers ≡ 0 ∷ [] → JoinedPasses v passes [] w
    → StandsBeyond (λ (k : Recording O C) (x : Opening O) (h : List (Entry C)). (k.opening ≡ x) × (k.history ≡ h)) maker_of w core → IsEnd means core.opening core.history closed → IsClosed means sync passes closed
closed-all {O = O} {C = C} means v w sync passes core closed is own j stood end =
    let list : core.history ≡ stood.0 = stood.1.1 in
    let beyond : GoesOnByOthers maker_of w.numbers w.seen core.history = subst (λ (h : List (Entry C)). GoesOnByOthers maker_of w.numbers w.seen h) (sym list) stood.2 in
    let first : times 0 v.numbers ≡ 1 = ap (times 0) own in
    let mine : 0 < times 0 w.numbers = let n = j.numbers 0 in omega (arith, n, first) in
    let origin : core.opening ≡ v.origin = stood.1.0 ∙ ap (λ (z : SeatView (Opening O) (Entry C)). z.origin) j.same in
    subst (λ (z : SyncPassView O C). IsClosed means z passes closed) is (record {
      history = core.history;
      end = subst (λ (x : Opening O). IsEnd means x core.history closed) origin end;
      sync_front = others-on 0 v.seen w.seen core.history (by-others 0 v.numbers v.seen w.seen j.own own) (others-one 0 w.numbers w.seen core.history mine beyond);
      fronts = subst (AllSawFronts core.history) (sym j.parts) (fronts-on w.numbers w.seen core.history j.done beyond (λ k some. let n = j.numbers k in omega (arith, n, some)) j.fronts);
    })

pub if_ok-map : {A E : Type 0} (r : Result A E) (P Q : A → Type 0) → ((a : A) → P a → Q a) → IfOk r P → IfOk r Q
if_ok-map (Ok a) P Q f p = f a p
if_ok-map (Err e) P Q f p = p
