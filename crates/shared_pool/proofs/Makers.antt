-- Which makers' entries a history has.
use Rattle.std.proofs.Common.{◌≡◌, ◌≢◌, ℕ, ◌+◌, ◌<◌, ⊎_elim, Option, Some, None, Result, Ok, Err, List, [], ◌∷◌, ◌++◌, refl, ap, sym, ◌∙◌, subst, arith, eqb, true, eq-eqb, append_assoc}
use Rattle.std.specs.List.{AllByRecursion}
use Rattle.turn_lock.specs.Entries.{times, NoneByThese, EachByThese, GoesOnByOthers, GoesOnByOwn}
use Rattle.txg_core.specs.Rules.{Origin}
use Rattle.txg_core.specs.History.{holds, checks, enqueues, reads, takes, maker_of, event_of}
use Rattle.txg_core.specs.Laws.{NoneBy}
use Rattle.txg_core.specs.declared.event.Entry.{Entry}
use Rattle.txg_core.specs.declared.event.Entry.TheVariants.{Call, Group}
use Rattle.txg_core.specs.declared.event.Step.TheVariants.{Hold, Check, Enqueue, Read, Sync, Take}
use Rattle.shared_pool.specs.declared.answers.Ticket.{Ticket}
use Rattle.shared_pool.specs.declared.answers.Refusal.{Refusal}
use Rattle.shared_pool.specs.declared.answers.Refusal.TheVariants.{Checked, NoMemory}
use Rattle.shared_pool.specs.declared.answers.Advanced.{Advanced}
use Rattle.shared_pool.specs.declared.answers.Advanced.TheVariants.{Moved, Idle}
use Rattle.shared_pool.specs.Passes.{GrowsByOthers, GrowsByOwn}
use Rattle.shared_pool.specs.Submits.{Submits, ReadsOnce}
use Rattle.shared_pool.specs.Collects.{Tries}
use Rattle.shared_pool.specs.Moves.{IsFirstMove, Advances}

other-maker : (k m : ℕ) → times m (k ∷ []) ≡ 0 → m ≢ k
other-maker k m none same = let yes : eqb k m ≡ true = eq-eqb k m (sym same) in let h = rw yes at none in omega arith

-- the lock's word for the entries of other makers, and the core's
none-by : {C : Type 0} (k : ℕ) (later : List (Entry C)) → NoneByThese maker_of (k ∷ []) later → NoneBy k later
none-by k [] none = tt
none-by k (x ∷ xs) none = (other-maker k (maker_of x) none.0, none-by k xs none.1)

pub by-others : {C : Type 0} (k : ℕ) (ns : List ℕ) (front h : List (Entry C)) → GoesOnByOthers maker_of ns front h → ns ≡ k ∷ [] → GrowsByOthers k front h
by-others k ns front h g e = record { later = g.0; is = g.1; none_own = none-by k g.0 (subst (λ (ms : List ℕ). NoneByThese maker_of ms g.0) e g.2) }

own-maker : (k m : ℕ) → m ≡ k → 0 < times m (k ∷ [])
own-maker k m same = let yes : eqb k m ≡ true = eq-eqb k m (sym same) in rw yes (omega arith)

each-by : {C : Type 0} (k : ℕ) (later : List (Entry C)) → AllByRecursion (λ e. maker_of e ≡ k) later → EachByThese maker_of (k ∷ []) later
each-by k [] each = tt
each-by k (x ∷ xs) each = (own-maker k (maker_of x) each.0, each-by k xs each.1)

pub by-own : {C : Type 0} (k : ℕ) (ns : List ℕ) (front h : List (Entry C)) → GrowsByOwn k front h → ns ≡ k ∷ [] → GoesOnByOwn maker_of ns front h
by-own k ns front h g e = (g.later, g.is, subst (λ (ms : List ℕ). EachByThese maker_of ms g.later) (sym e) (each-by k g.later g.each_own))

none-append : {C : Type 0} (k : ℕ) (xs ys : List (Entry C)) → NoneBy k xs → NoneBy k ys → NoneBy k (xs ++ ys)
none-append k [] ys a b = b
none-append k (x ∷ xs) ys a b = (a.0, none-append k xs ys a.1 b)

pub others-none : {C : Type 0} (k : ℕ) (front : List (Entry C)) → GrowsByOthers k front front
others-none k front = record { later = []; is = refl; none_own = tt }

pub others-on : {C : Type 0} (k : ℕ) (front mid h : List (Entry C)) → GrowsByOthers k front mid → GrowsByOthers k mid h → GrowsByOthers k front h
others-on {C = C} k front mid h a b = record {
  later = b.later ++ a.later;
  is = b.is ∙ (ap (λ (l : List (Entry C)). b.later ++ l) a.is ∙ sym (append_assoc b.later a.later front));
  none_own = none-append k b.later a.later b.none_own a.none_own;
}

-- the entries of a submit, a read, a collect and an advance are the pass's own
pub submit-own : {W C R : Type 0} (o : Origin W C R) (s : ℕ) (c : C) (r : Result Ticket (Refusal R)) (h new : List (Entry C)) → Submits o s c r h new → GrowsByOwn (s + 1) h new
submit-own o s c (Ok t) h new m = record { later = enqueues s c ∷ checks s c ∷ holds s c ∷ []; is = m.0; each_own = (refl, (refl, (refl, tt))) }
submit-own o s c (Err (Checked reply at)) h new m = record { later = checks s c ∷ holds s c ∷ []; is = m.0; each_own = (refl, (refl, tt)) }
submit-own {C = C} o s c (Err NoMemory) h new m = ⊎_elim
    (λ (e : new ≡ h). record { later = []; is = e; each_own = tt })
    (λ (e : new ≡ holds s c ∷ h). record { later = holds s c ∷ []; is = e; each_own = (refl, tt) }) m

pub read-own : {C X E : Type 0} (s : ℕ) (c : C) (r : Result X E) (h new : List (Entry C)) → ReadsOnce s c r h new → GrowsByOwn (s + 1) h new
read-own s c (Ok x) h new m = record { later = reads s c ∷ []; is = m; each_own = (refl, tt) }
read-own s c (Err e) h new m = record { later = []; is = m; each_own = tt }

pub try-own : {W C R E : Type 0} (o : Origin W C R) (t : Ticket) (r : Option (Result R E)) (h new : List (Entry C)) → Tries o t r h new → GrowsByOwn (t.session + 1) h new
try-own o t (Some (Ok r)) h new m = record { later = takes t.session m.0 ∷ []; is = m.1; each_own = (refl, tt) }
try-own o t (Some (Err e)) h new m = record { later = []; is = m.0; each_own = tt }
try-own o t None h new m = record { later = []; is = m; each_own = tt }

move-maker : {W C R : Type 0} (o : Origin W C R) (h : List (Entry C)) (e : Entry C) → IsFirstMove o h (event_of e) → maker_of e ≡ 0
move-maker o h (Call Sync s c) f = refl
move-maker o h (Call Hold s c) f = absurd f
move-maker o h (Call Check s c) f = absurd f
move-maker o h (Call Enqueue s c) f = absurd f
move-maker o h (Call Read s c) f = absurd f
move-maker o h (Call Take s c) f = absurd f
move-maker o h (Group k) f = refl

pub move-own : {W C R E : Type 0} (o : Origin W C R) (r : Result Advanced E) (h new : List (Entry C)) → Advances o r h new → GrowsByOwn 0 h new
move-own o (Ok (Moved v)) h new m = record { later = m.1.0 ∷ []; is = m.1.1.0; each_own = (move-maker o h m.1.0 (subst (IsFirstMove o h) (sym m.1.1.2) m.0), tt) }
move-own o (Ok (Idle at)) h new m = record { later = []; is = m.0.0; each_own = tt }
move-own o (Err e) h new m = record { later = []; is = m; each_own = tt }
