-- From what the workers leave to the run.
use Rattle.std.proofs.Common.{◌≡◌, ℕ, zero, suc, ◌+◌, ◌<◌, ◌≤◌, ◌++◌, Option, Some, None, IfSome, List, [], ◌∷◌, length, map, take, drop, reverse, slice_get, slice_index, slice_index_or, refl, ap, sym, ◌∙◌, subst, arith, inl, inr}
use Rattle.std.proofs.lemmas.Bool.Decides.{eqb_tells}
use Rattle.std.specs.List.{AllByRecursion, range_with_len}
use Rattle.std.specs.declared.vec.Vec.{Vec}
use Rattle.std.specs.declared.alloc.Global.{Global}
use Rattle.turn_lock.specs.Seats.{LockId, LockView}
use Rattle.turn_lock.specs.Entries.{times, Holds}
use Rattle.txg_core.specs.Rules.{Meaning, Origin, IsLawful, origin_of}
use Rattle.txg_core.specs.Openings.{origin_at}
use Rattle.txg_core.specs.declared.event.Entry.{Entry}
use Rattle.txg_core.specs.declared.origin.Opening.{Opening}
use Rattle.txg_core.specs.declared.event.Entry.TheVariants.{Call, Group}
use Rattle.txg_core.specs.Serial.{next, given, world}
use Rattle.txg_core.specs.Enabled.{Legal}
use Rattle.txg_core.specs.Calls.{CarriesCalls}
use Rattle.txg_core.proofs.Phases.{enabled-there, next-other}
use Rattle.shared_pool.specs.declared.answers.Closed.{Closed}
use Rattle.shared_pool.specs.Passes.{PassView, SyncPassView, GrowsByOthers, IsSameSyncPass}
use Rattle.shared_pool.specs.Closing.{first_pass, passes_from, makers_of, AllSawFronts, IsNewPool, IsClosed}
use Rattle.sessions.specs.declared.worker.Worker.{Worker}
use Rattle.sessions.specs.declared.worker.Worker.TheVariants.{Session, Groups}
use Rattle.sessions.specs.declared.run.Run.{Run}
use Rattle.sessions.specs.Serving.{CarriesOwn, Serves}
use Rattle.sessions.specs.Workers.{MayWork, HasWorked, passes_in, calls_in, replies_in, groups_in, IsCrew}
use Rattle.sessions.specs.Runs.{call_numbered, in_order, IsRun}
use Rattle.sessions.proofs.CallsMade.{left-alone}
use Rattle.txg_core.proofs.Driving.{within-or}
use Rattle.sessions.proofs.Crews.{length-map, length-from, may-work, counts-all}

-- the same calls in another form
carries-same : {W C R : Type 0} (o : Origin W C R) (s : ℕ) (f g : ℕ → Option C) (h : List (Entry C)) → ((n : ℕ) → f n ≡ g n) → CarriesOwn o s f h → CarriesOwn o s g h
carries-same o s f g [] same c = tt
carries-same o s f g (Call k t e ∷ h) same c = (λ is. sym (same (next o h s)) ∙ c.0 is, carries-same o s f g h same c.1)
carries-same o s f g (Group k ∷ h) same c = carries-same o s f g h same c

-- each worker left what it does of what it was given
abbrev pub EachWorks : {O W C R : Type 0} → (O → Meaning W C R) → List (Worker O C R) → List (Worker O C R) → Type 0
EachWorks means [] [] = Unit {0}
EachWorks means (x ∷ xs) (y ∷ ys) = HasWorked means x y × EachWorks means xs ys
EachWorks means _ _ = ⊥

module _ {W C R : Type 0} (o : Origin W C R) (h : List (Entry C)) where
  -- at the end session s has made these calls, and was given these replies
  pub record SessionEnds (s : ℕ) (calls : List C) (replies : List R) : Type 0 where
    pub carries : CarriesOwn o s (slice_get calls) h
    pub number : next o h s ≡ length calls
    pub gave : replies ≡ given o h s

  -- .. and each session from a on
  abbrev pub EndFrom : ℕ → List (List C) → List (List R) → Type 0
  EndFrom a [] [] = Unit {0}
  EndFrom a (cs ∷ sessions) (rs ∷ replies) = SessionEnds a cs rs × EndFrom (a + 1) sessions replies
  EndFrom a _ _ = ⊥

  replies-from : (a : ℕ) (sessions : List (List C)) (replies : List (List R)) → EndFrom a sessions replies → replies ≡ map (given o h) (range_with_len a (length sessions))
  replies-from a [] [] e = refl
  replies-from a (cs ∷ sessions) (rs ∷ replies) e = let rest = replies-from (a + 1) sessions replies e.1 in let first = e.0.gave in cc
  replies-from a [] (rs ∷ replies) e = absurd e
  replies-from a (cs ∷ sessions) [] e = absurd e

  numbers-from : (a : ℕ) (sessions : List (List C)) (replies : List (List R)) → EndFrom a sessions replies → (k : ℕ) → k < length sessions → next o h (a + k) ≡ slice_index (map length sessions) k
  numbers-from a [] replies e k lt = absurd (omega arith)
  numbers-from a (cs ∷ sessions) [] e k lt = absurd e
  numbers-from a (cs ∷ sessions) (rs ∷ replies) e zero lt = ap (next o h) (omega arith) ∙ e.0.number
  numbers-from a (cs ∷ sessions) (rs ∷ replies) e (suc k) lt = ap (next o h) (omega arith) ∙ numbers-from (a + 1) sessions replies e.1 k (omega arith)

  carries-from : (a : ℕ) (sessions : List (List C)) (replies : List (List R)) → EndFrom a sessions replies → (k : ℕ) → k < length sessions → CarriesOwn o (a + k) (call_numbered sessions k) h
  carries-from a [] replies e k lt = absurd (omega arith)
  carries-from a (cs ∷ sessions) [] e k lt = absurd e
  carries-from a (cs ∷ sessions) (rs ∷ replies) e zero lt = subst (λ (s : ℕ). CarriesOwn o s (slice_get cs) h) (omega arith) e.0.carries
  carries-from a (cs ∷ sessions) (rs ∷ replies) e (suc k) lt = subst (λ (s : ℕ). CarriesOwn o s (call_numbered sessions k) h) {x = a + 1 + k} (omega arith) (carries-from (a + 1) sessions replies e.1 k (omega arith))

-- all entries carry the sessions' calls, where those of each session do
carries-all : {W C R : Type 0} (o : Origin W C R) (calls : ℕ → ℕ → Option C) (h : List (Entry C)) → Legal o h → ((s : ℕ) → s < length o.counts → CarriesOwn o s (calls s) h) → CarriesCalls o calls h
carries-all o calls [] l own = tt
carries-all o calls (Call k t c ∷ h) l own = ((own t (enabled-there o h k t c l.1 l.0)).0 refl, carries-all o calls h l.1 (λ s lt. (own s lt).1))
carries-all o calls (Group k ∷ h) l own = carries-all o calls h l.1 own

-- a session that isn't there has ended no call
none-ended : {W C R : Type 0} (o : Origin W C R) (h : List (Entry C)) → Legal o h → (s : ℕ) → length o.counts ≤ s → next o h s ≡ 0
none-ended o [] l s le = refl
none-ended o (Group k ∷ h) l s le = none-ended o h l.1 s le
none-ended o (Call k t c ∷ h) l s le = elim (eqb_tells t s) [
  | inl same ↦ absurd (let lt = enabled-there o h k t c l.1 l.0 in let e = same.1 in omega arith)
  | inr other ↦ next-other o h k t c s other.0 ∙ none-ended o h l.1 s le
]

past-end : (ns : List ℕ) (s : ℕ) → length ns ≤ s → slice_index ns s ≡ 0
past-end [] s le = refl
past-end (n ∷ ns) zero le = absurd (omega arith)
past-end (n ∷ ns) (suc s) le = past-end ns s (omega arith)

module _ {O W C R : Type 0} (means : O → Meaning W C R) (pool : LockId) (opening : Opening O) (h : List (Entry C)) (lawful : IsLawful (means opening.object).rules) (legal : Legal (origin_at means opening) h) where
  session-ends : (a : ℕ) (calls : List C) (replies : List R) (front : List (Entry C)) → Serves (origin_at means opening) a [] calls replies front → GrowsByOthers (a + 1) front h → SessionEnds (origin_at means opening) h a calls replies
  session-ends a calls replies front s g =
      let o = origin_at means opening in
      let alone = left-alone o lawful a front h g legal in record {
        carries = alone.still_carries (slice_get calls) (s.carries (slice_get calls) (λ k lt. ap (slice_get calls) (omega arith)) tt);
        number = let e : next o h a ≡ 0 + length calls = alone.same_next ∙ s.number in omega (arith, e);
        gave = sym s.gave ∙ sym alone.same_given;
      }

  pub end-from : (xs ys : List (Worker O C R)) (a n : ℕ) (sessions : List (List C)) (replies : List (List R)) → EachWorks means xs ys → passes_in xs ≡ passes_from pool opening a n → in_order (calls_in xs) ≡ sessions
      → map Some replies ≡ replies_in ys → AllSawFronts h (passes_in ys) → EndFrom (origin_at means opening) h a sessions replies
  end-from [] [] a n [] [] w p c r f = tt
  end-from [] [] a n [] (rs ∷ replies) w p c r f = absurd (cc)
  end-from [] [] a n (cs ∷ sessions) replies w p c r f = absurd (cc)
  end-from [] (y ∷ ys) a n sessions replies w p c r f = absurd w
  end-from (x ∷ xs) [] a n sessions replies w p c r f = absurd w
  end-from (Groups p ∷ xs) (Groups q ∷ ys) a n sessions replies w e c r f = end-from xs ys a n sessions replies w.1 e c r f
  end-from (Groups p ∷ xs) (Session d ∷ ys) a n sessions replies w e c r f = absurd w.0
  end-from (Session d ∷ xs) (Groups p ∷ ys) a n sessions replies w e c r f = absurd w.0
  end-from (Session b ∷ xs) (Session d ∷ ys) a zero sessions replies w p c r f = absurd (cc)
  end-from (Session b ∷ xs) (Session d ∷ ys) a (suc n) [] replies w p c r f = absurd (cc)
  end-from (Session b ∷ xs) (Session d ∷ ys) a (suc n) (cs ∷ sessions) [] w p c r f = absurd (cc)
  end-from (Session b ∷ xs) (Session d ∷ ys) a (suc n) (cs ∷ sessions) (rs ∷ replies) w p c r f =
      let pass : b.pass ≡ first_pass pool opening a = cc in
      let passes : passes_in xs ≡ passes_from pool opening (a + 1) n = cc in
      let mine : reverse b.calls.items ≡ cs = cc in
      let others : in_order (calls_in xs) ≡ sessions = cc in
      let told : d.replies ≡ Some rs = cc in
      let rest : map Some replies ≡ replies_in ys = cc in
      let number : d.pass.session ≡ a = w.0.same.2 ∙ ap (λ (q : PassView O C). q.session) pass in
      let at_first : Serves (origin_at means b.pass.opening) b.pass.session b.pass.front (reverse b.calls.items) rs d.pass.front = subst (λ (z : Option (List R)). IfSome z (λ replies. Serves (origin_at means b.pass.opening) b.pass.session b.pass.front (reverse b.calls.items) replies d.pass.front)) told w.0.served in
      let made : Serves (origin_at means opening) a [] (reverse b.calls.items) rs d.pass.front = subst (λ (q : PassView O C). Serves (origin_at means q.opening) q.session q.front (reverse b.calls.items) rs d.pass.front) pass at_first in (
        session-ends a cs rs d.pass.front (subst (λ (ds : List C). Serves (origin_at means opening) a [] ds rs d.pass.front) mine made) (subst (λ (m : ℕ). GrowsByOthers (m + 1) d.pass.front h) number f.0),
        end-from xs ys (a + 1) n sessions replies w.1 passes others rest f.1,
      )

-- ---- what the end of the pool asks for

-- these passes are of the pool, and of the sessions from a on
abbrev pub PassesFrom : {O C : Type 0} → LockId → ℕ → List (PassView O C) → Type 0
PassesFrom pool a [] = Unit {0}
PassesFrom pool a (p ∷ ps) = (p.pool ≡ pool) × (p.session ≡ a) × PassesFrom pool (a + 1) ps

pub passes-left : {O W C R : Type 0} (means : O → Meaning W C R) (pool : LockId) (opening : Opening O) (xs ys : List (Worker O C R)) (a n : ℕ) → EachWorks means xs ys → passes_in xs ≡ passes_from pool opening a n → PassesFrom pool a (passes_in ys) × (length (passes_in ys) ≡ n)
passes-left means pool opening [] [] a zero w p = (tt, refl)
passes-left means pool opening [] [] a (suc n) w p = absurd (cc)
passes-left means pool opening [] (y ∷ ys) a n w p = absurd w
passes-left means pool opening (x ∷ xs) [] a n w p = absurd w
passes-left means pool opening (Groups p ∷ xs) (Groups q ∷ ys) a n w e = passes-left means pool opening xs ys a n w.1 e
passes-left means pool opening (Groups p ∷ xs) (Session d ∷ ys) a n w e = absurd w.0
passes-left means pool opening (Session d ∷ xs) (Groups p ∷ ys) a n w e = absurd w.0
passes-left means pool opening (Session b ∷ xs) (Session d ∷ ys) a zero w p = absurd (cc)
passes-left {O = O} {C = C} means pool opening (Session b ∷ xs) (Session d ∷ ys) a (suc n) w p =
    let pass : b.pass ≡ first_pass pool opening a = cc in
    let passes : passes_in xs ≡ passes_from pool opening (a + 1) n = cc in
    let rest = passes-left means pool opening xs ys (a + 1) n w.1 passes in (
      (w.0.same.0 ∙ ap (λ (q : PassView O C). q.pool) pass, w.0.same.2 ∙ ap (λ (q : PassView O C). q.session) pass, rest.0),
      ap suc rest.1,
    )

pub pools-from : {O C : Type 0} (pool : LockId) (a : ℕ) (ps : List (PassView O C)) → PassesFrom pool a ps → AllByRecursion (λ (p : PassView O C). p.pool ≡ pool) ps
pools-from pool a [] f = tt
pools-from pool a (p ∷ ps) f = (f.0, pools-from pool (a + 1) ps f.2)

held-from : {O C : Type 0} (pool : LockId) (a : ℕ) (ps : List (PassView O C)) → PassesFrom pool a ps → (k : ℕ) → a < k → k < a + 1 + length ps → 0 < times k (makers_of ps)
held-from pool a [] f k low high = absurd (omega arith)
held-from pool a (p ∷ ps) f k low high = elim (eqb_tells (p.session + 1) k) [
  | inl same ↦ rw same.0 (omega arith)
  | inr other ↦ let number = f.1 in let ne = other.1 in let rest = held-from pool (a + 1) ps f.2 k (omega (arith, number, ne)) (omega (arith, high)) in omega (arith, rest)
]

-- the passes and the one that moves the groups on have every number
pub every-number : {O C : Type 0} (pool : LockId) (ps : List (PassView O C)) → PassesFrom pool 0 ps → (k : ℕ) → k < length ps + 1 → Holds (0 ∷ makers_of ps) k
every-number pool ps f zero lt = omega arith
every-number pool ps f (suc k) lt = let held = held-from pool 0 ps f (suc k) (omega arith) (omega (arith, lt)) in omega (arith, held)

none-left : {O W C R : Type 0} (means : O → Meaning W C R) (xs ys : List (Worker O C R)) → EachWorks means xs ys → groups_in xs ≡ [] → groups_in ys ≡ []
none-left means [] [] w e = refl
none-left means [] (y ∷ ys) w e = absurd w
none-left means (x ∷ xs) [] w e = absurd w
none-left means (Session b ∷ xs) (Session d ∷ ys) w e = none-left means xs ys w.1 e
none-left means (Groups p ∷ xs) (Groups q ∷ ys) w e = absurd (cc)
none-left means (Groups p ∷ xs) (Session d ∷ ys) w e = absurd w.0
none-left means (Session d ∷ xs) (Groups p ∷ ys) w e = absurd w.0

-- the pass that moves the groups on is that of the crew
pub groups-left : {O W C R : Type 0} (means : O → Meaning W C R) (sync : SyncPassView O C) (xs ys : List (Worker O C R)) → EachWorks means xs ys → groups_in xs ≡ sync ∷ [] → (q : SyncPassView O C) × (groups_in ys ≡ q ∷ []) × IsSameSyncPass sync q
groups-left means sync [] ys w e = absurd (cc)
groups-left means sync (x ∷ xs) [] w e = absurd w
groups-left means sync (Session b ∷ xs) (Session d ∷ ys) w e = groups-left means sync xs ys w.1 e
groups-left means sync (Groups p ∷ xs) (Session d ∷ ys) w e = absurd w.0
groups-left means sync (Session d ∷ xs) (Groups p ∷ ys) w e = absurd w.0
groups-left {O = O} {C = C} means sync (Groups p ∷ xs) (Groups q ∷ ys) w e =
    let same : p ≡ sync = cc in
    let none : groups_in xs ≡ [] = cc in (
      q,
      ap (λ (qs : List (SyncPassView O C)). q ∷ qs) (none-left means xs ys w.1 none),
      subst (λ (z : SyncPassView O C). IsSameSyncPass z q) same w.0,
    )

-- ---- the run

take-front : {X : Type 0} (ys zs : List X) → take (length ys) (ys ++ zs) ≡ ys
take-front [] zs = refl
take-front (y ∷ ys) zs = ap (λ l. y ∷ l) (take-front ys zs)

-- what a vector has where all of it was lent, and these are what came back
pub written-back : {X : Type 0} (len : ℕ) (xs ys : List X) → length ys ≡ len → take len (ys ++ drop (length ys) xs) ≡ ys
written-back {X = X} len xs ys e = ap (λ (n : ℕ). take n (ys ++ drop (length ys) xs)) (sym e) ∙ take-front ys (drop (length ys) xs)

-- the pool and its crew at the begin
pub record Begun {O C R : Type 0} (object : O) (sessions : List (List C)) (pool : LockView) (sync : SyncPassView O C) (xs : List (Worker O C R)) : Type 0 where
  pub opening : Opening O
  pub begins : opening ≡ record { object = object; counts = map length sessions }
  pub passes_are : passes_in xs ≡ passes_from pool.id opening 0 (length opening.counts)
  pub calls_are : in_order (calls_in xs) ≡ sessions
  pub groups_are : groups_in xs ≡ sync ∷ []
  pub sync_pool : sync.pool ≡ pool.id
  pub sync_opening : sync.opening ≡ opening
  pub numbers : pool.numbers ≡ length opening.counts + 1

pub begun : {O C R : Type 0} (object : O) (sessions : List (List C)) (counts : List ℕ) (pool : LockView) (passes : List (PassView O C)) (calls : List (Vec C Global)) (sync : SyncPassView O C) (xs : List (Worker O C R))
    → counts ≡ map length sessions → IsNewPool (record { object = object; counts = counts }) pool passes sync → in_order calls ≡ sessions → IsCrew passes calls sync xs → Begun object sessions pool sync xs
begun {O = O} {C = C} object sessions counts pool passes calls sync xs many new ordered crew = record {
  opening = record { object = object; counts = counts };
  begins = ap (λ (ns : List ℕ). record { object = object; counts = ns }) many;
  passes_are = crew.passes_are ∙ new.passes_are;
  calls_are = ap in_order crew.calls_are ∙ ordered;
  groups_are = crew.groups_are;
  sync_pool = ap (λ (p : SyncPassView O C). p.pool) new.sync_is;
  sync_opening = ap (λ (p : SyncPassView O C). p.opening) new.sync_is;
  numbers = new.numbers_are;
}

-- as many passes as sessions
pub as-many : {O C : Type 0} (object : O) (sessions : List (List C)) (counts : List ℕ) (pool : LockView) (passes : List (PassView O C)) (sync : SyncPassView O C)
    → counts ≡ map length sessions → IsNewPool (record { object = object; counts = counts }) pool passes sync → length passes ≡ length sessions
as-many {O = O} {C = C} object sessions counts pool passes sync many new =
    ap length new.passes_are ∙ length-from C pool.id (record { object = object; counts = counts }) 0 (length counts) ∙ ap length many ∙ length-map length sessions

pub as-many-lists : {C : Type 0} (calls : List (Vec C Global)) (sessions : List (List C)) → in_order calls ≡ sessions → length calls ≡ length sessions
as-many-lists calls sessions ordered = sym (length-map (λ list. reverse list.items) calls) ∙ ap length ordered

pub each-works : {O W C R : Type 0} (means : O → Meaning W C R) (xs ys : List (Worker O C R)) → length ys ≡ length xs → ((i : ℕ) (d : Worker O C R) → i < length xs → HasWorked means (slice_index_or xs i d) (slice_index_or ys i d)) → EachWorks means xs ys
each-works means [] [] e works = tt
each-works means [] (y ∷ ys) e works = absurd (omega (arith, e))
each-works means (x ∷ xs) [] e works = absurd (omega (arith, e))
each-works means (x ∷ xs) (y ∷ ys) e works = (works 0 x (omega arith), each-works means xs ys (omega (arith, e)) (λ i d lt. works (suc i) d (omega (arith, lt))))

module _ {O W C R : Type 0} (means : O → Meaning W C R) (object : O) (sessions : List (List C)) (pool : LockView) (sync : SyncPassView O C) (xs : List (Worker O C R)) (b : Begun object sessions pool sync xs) where
  abbrev pub opened : Opening O
  opened = record { object = object; counts = map length sessions }

  passes_at : passes_in xs ≡ passes_from pool.id opened 0 (length (map length sessions))
  passes_at = subst (λ (x : Opening O). passes_in xs ≡ passes_from pool.id x 0 (length x.counts)) b.begins b.passes_are

  pub all-may : AllByRecursion (MayWork means pool.id) xs
  all-may = may-work means pool.id opened xs 0 (length (map length sessions)) sessions passes_at b.calls_are (counts-all (map length sessions) sessions refl)
      (subst (AllByRecursion (λ (p : SyncPassView O C). p.pool ≡ pool.id)) (sym b.groups_are) (b.sync_pool, tt))

  module _ (ys : List (Worker O C R)) (works : EachWorks means xs ys) where
    pub sync-there : (found : Option (SyncPassView O C)) → found ≡ slice_get (groups_in ys) 0 → found ≡ None → ⊥
    sync-there found is none = let left = groups-left means sync xs ys works b.groups_are in let at : slice_get (groups_in ys) 0 ≡ Some left.0 = ap (λ (qs : List (SyncPassView O C)). slice_get qs 0) left.1 in cc

    pub sync-is : (q : SyncPassView O C) → Some q ≡ slice_get (groups_in ys) 0 → (q.pool ≡ pool.id) × (q.opening ≡ opened)
    sync-is q is =
        let left = groups-left means sync xs ys works b.groups_are in
        let at : slice_get (groups_in ys) 0 ≡ Some left.0 = ap (λ (qs : List (SyncPassView O C)). slice_get qs 0) left.1 in
        let same : left.0 ≡ q = cc in
        subst (λ (z : SyncPassView O C). (z.pool ≡ pool.id) × (z.opening ≡ opened)) same (left.2.0 ∙ b.sync_pool, left.2.1 ∙ b.sync_opening ∙ b.begins)

    passes-are : PassesFrom pool.id 0 (passes_in ys) × (length (passes_in ys) ≡ length (map length sessions))
    passes-are = passes-left means pool.id opened xs ys 0 (length (map length sessions)) works passes_at

    pub pools-are : (passes : List (PassView O C)) → passes ≡ passes_in ys → AllByRecursion (λ (p : PassView O C). p.pool ≡ pool.id) passes
    pools-are passes is = subst (AllByRecursion (λ (p : PassView O C). p.pool ≡ pool.id)) (sym is) (pools-from pool.id 0 (passes_in ys) passes-are.0)

    pub every-is : (passes : List (PassView O C)) → passes ≡ passes_in ys → (k : ℕ) → k < pool.numbers → Holds (0 ∷ makers_of passes) k
    every-is passes is k lt =
        let many : pool.numbers ≡ length (map length sessions) + 1 = b.numbers ∙ ap (λ (x : Opening O). length x.counts + 1) b.begins in
        let size = passes-are.1 in
        subst (λ (ps : List (PassView O C)). Holds (0 ∷ makers_of ps) k) (sym is) (every-number pool.id (passes_in ys) passes-are.0 k (omega (arith, many, size, lt)))

    -- the journal and the object of the closed pool, with the replies of the sessions
    pub run-is : (q : SyncPassView O C) (passes : List (PassView O C)) (closed : Closed O) (run : Run O C R) → IsLawful (means object).rules → Some q ≡ slice_get (groups_in ys) 0 → passes ≡ passes_in ys → map Some run.replies.items ≡ replies_in ys → IsClosed means q passes closed
        → run.object ≡ closed.object → run.journal ≡ closed.journal → run.synced ≡ closed.synced → IsRun means object sessions run
    run-is q passes closed run lawful is left told end is_object is_journal is_synced =
        let o : Origin W C R = origin_of (means object) (map length sessions) in
        let h = end.history in
        let at : q.opening ≡ opened = (sync-is q is).1 in
        let legal : Legal o h = subst (λ (x : Opening O). Legal (origin_at means x) h) at end.end.legal in
        let ends : EndFrom o h 0 sessions run.replies.items = end-from means pool.id opened h lawful legal xs ys 0 (length (map length sessions)) sessions run.replies.items works passes_at b.calls_are told (subst (AllSawFronts h) left end.fronts) in
        let many : length (map length sessions) ≡ length sessions = length-map length sessions in
        record {
          history = h;
          legal = legal;
          is = record {
            journal = sym end.end.journal ∙ ap (λ v. v.items) (sym is_journal);
            carries = carries-all o (call_numbered sessions) h legal (λ s lt. subst (λ (t : ℕ). CarriesOwn o t (call_numbered sessions s) h) {x = 0 + s} (omega arith) (carries-from o h 0 sessions run.replies.items ends s (omega (arith, many, lt))));
          };
          whole = λ s. elim (within-or s (length (map length sessions))) [
            | inl lt ↦ ap (next o h) {x = s} {y = 0 + s} (omega arith) ∙ numbers-from o h 0 sessions run.replies.items ends s (omega (arith, many, lt))
            | inr le ↦ none-ended o h legal s le ∙ sym (past-end (map length sessions) s le)
          ];
          replies_are = replies-from o h 0 sessions run.replies.items ends ∙ ap (λ (n : ℕ). map (given o h) (range_with_len 0 n)) (sym many);
          rules = ap (λ (x : O). (means x).rules) is_object ∙ end.end.rules ∙ ap (λ (x : Opening O). (origin_at means x).rules) at;
          world_is = ap (λ (x : O). (means x).world) is_object ∙ end.end.world_is ∙ ap (λ (x : Opening O). world (origin_at means x) h) at;
          group = is_synced ∙ end.end.group;
        }
