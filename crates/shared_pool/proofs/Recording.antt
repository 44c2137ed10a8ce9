-- A core beside the history for which it stands.
use Rattle.std.proofs.Common.{◌≡◌, ℕ, ◌<◌, Bool, false, IsTrue, List, [], ◌∷◌, length, ap, sym, ◌∙◌, subst}
use Rattle.txg_core.specs.Rules.{Meaning, Origin}
use Rattle.txg_core.specs.Openings.{origin_at}
use Rattle.txg_core.specs.History.{syncs, takes, begun}
use Rattle.txg_core.specs.Serial.{next}
use Rattle.txg_core.specs.Sessions.{Phase, waiting, decided, phase, IsQueued}
use Rattle.txg_core.specs.Enabled.{Enabled, MayCome, IsFirst}
use Rattle.txg_core.specs.Laws.{IsSynced}
use Rattle.txg_core.specs.State.{CoreState}
use Rattle.txg_core.specs.Stands.{Stands, IsStanding, IsNextCall, AwaitsReply, QueueIs}
use Rattle.txg_core.specs.Waiting.{waiting_in}
use Rattle.txg_core.specs.Allowed.{allows}
use Rattle.txg_core.specs.declared.event.Entry.{Entry}
use Rattle.txg_core.specs.declared.event.Event.{Event}
use Rattle.txg_core.specs.declared.origin.Opening.{Opening}
use Rattle.txg_core.specs.declared.task.Task.{Task}
use Rattle.txg_core.proofs.Allowing.{allows-unspent}
use Rattle.txg_core.proofs.Standing.{first-task, session-there}
use Rattle.shared_pool.specs.Recordings.{Recording, with_first_sync, with_take, with_take_in, one_entry_more}

abbrev pub recording : {O C : Type 0} → Opening O → List (Entry C) → Bool → Recording O C
recording opening h spent = record { opening = opening; history = h; spent = spent }

module _ {O W C R : Type 0} (means : O → Meaning W C R) where
  pub standing : (x : Opening O) (core : CoreState O C R) (h : List (Entry C)) → Stands means (origin_at means x) core h → IsStanding means core
  standing x core h s = (origin_at means x, (h, s))

  pub allowed : (x : Opening O) (core : CoreState O C R) (h : List (Entry C)) (v : Event) → Stands means (origin_at means x) core h → core.spent ≡ false → MayCome (origin_at means x) h v → IsTrue (allows core v)
  allowed x core h v s f m = (allows-unspent means (origin_at means x) core h v s f).1 m

  -- what is said of the recording is so of its parts
  pub may-at : (x : Opening O) (h : List (Entry C)) (b : Bool) (a : Recording O C) (e : Entry C) → recording x h b ≡ a → Enabled (origin_at means a.opening) a.history e → Enabled (origin_at means x) h e
  may-at x h b a e is m = subst (λ (z : Recording O C). Enabled (origin_at means z.opening) z.history e) (sym is) m

  pub along : (x : Opening O) (core : CoreState O C R) (h new : List (Entry C)) → new ≡ h → Stands means (origin_at means x) core h → Stands means (origin_at means x) core new
  along x core h new e s = subst (Stands means (origin_at means x) core) (sym e) s

  pub next-at : (x : Opening O) (core : CoreState O C R) (h : List (Entry C)) (a : Recording O C) (b : Bool) (s n : ℕ) → Stands means (origin_at means x) core h → recording x h b ≡ a → n ≡ next (origin_at means a.opening) a.history s → IsNextCall means core s n
  next-at x core h a b s n st is e = (origin_at means x, (h, (st, e ∙ ap (λ (z : Recording O C). next (origin_at means z.opening) z.history s) (sym is))))

  pub awaits-at : (x : Opening O) (core : CoreState O C R) (h : List (Entry C)) (a : Recording O C) (b : Bool) (s : ℕ) → Stands means (origin_at means x) core h → recording x h b ≡ a → IsQueued (phase (origin_at means a.opening) a.history s) → AwaitsReply means core s
  awaits-at x core h a b s st is q = (origin_at means x, (h, (st, subst (λ (z : Recording O C). IsQueued (phase (origin_at means z.opening) z.history s)) (sym is) q)))

  pub session-at : (x : Opening O) (core : CoreState O C R) (h : List (Entry C)) (a : Recording O C) (b : Bool) (s : ℕ) → Stands means (origin_at means x) core h → recording x h b ≡ a → s < length a.opening.counts → s < length core.sessions
  session-at x core h a b s st is lt = session-there means (origin_at means x) core h s st (subst (λ (z : Recording O C). s < length z.opening.counts) (sym is) lt)

pub unspent-at : {O C : Type 0} (x : Opening O) (h : List (Entry C)) (b : Bool) (a : Recording O C) → recording x h b ≡ a → a.spent ≡ false → b ≡ false
unspent-at x h b a is f = ap (λ z. z.spent) is ∙ f

module _ {O W C R : Type 0} (o : Origin W C R) (h : List (Entry C)) where
  synced-first : (s : ℕ) (c : C) (g : ℕ) (ts : List (Task O C R)) → QueueIs o h g ts → IsFirst s (waiting_in o h g) → phase o h s ≡ waiting c → with_first_sync ts h ≡ syncs s c ∷ h
  synced-first s c g [] q f p = absurd (subst (IsFirst s) (sym q.sessions) f)
  synced-first s c g (t ∷ ts) q f p = let e = first-task o h s c g t ts q f p in ap (λ (n : ℕ). syncs n t.call ∷ h) e.0 ∙ ap (λ (d : C). syncs s d ∷ h) e.1

-- the first task of the queue is that of the call which may be synced
pub synced-is : {O W C R : Type 0} (means : O → Meaning W C R) (x : Opening O) (core : CoreState O C R) (h : List (Entry C)) (s : ℕ) (c : C) → Stands means (origin_at means x) core h → core.spent ≡ false → Enabled (origin_at means x) h (syncs s c) → with_first_sync core.syncing_queue h ≡ syncs s c ∷ h
synced-is means x core h s c st f en = synced-first (origin_at means x) h s c (begun h) core.syncing_queue ((st.work f).syncing_queue en.0) en.1 en.2

taken-decided : {C R : Type 0} (p : Phase C R) (c : C) (r : R) (s : ℕ) (h : List (Entry C)) → p ≡ decided c r → with_take_in p s h ≡ takes s c ∷ h
taken-decided {C = C} {R = R} p c r s h e = ap (λ (q : Phase C R). with_take_in q s h) e

pub taken-is : {O W C R : Type 0} (means : O → Meaning W C R) (x : Opening O) (h : List (Entry C)) (s : ℕ) (c : C) (r : R) → phase (origin_at means x) h s ≡ decided c r → with_take means x s h ≡ takes s c ∷ h
taken-is means x h s c r e = taken-decided (phase (origin_at means x) h s) c r s h e

-- what is said of the parts is so of the recording
pub taken-at : {O W C R : Type 0} (means : O → Meaning W C R) (x : Opening O) (h : List (Entry C)) (b : Bool) (a : Recording O C) → recording x h b ≡ a → (s : ℕ) (c : C) (r : R) (new : Recording O C) → new ≡ one_entry_more (recording x h b) (takes s c) → phase (origin_at means x) h s ≡ decided c r → IsSynced (origin_at means x) h s c r
    → (d : C) × (new ≡ one_entry_more a (takes s d)) × (phase (origin_at means a.opening) a.history s ≡ decided d r) × IsSynced (origin_at means a.opening) a.history s d r
taken-at {O = O} {C = C} means x h b a is s c r new e p i = subst (λ (z : Recording O C). (d : C) × (new ≡ one_entry_more z (takes s d)) × (phase (origin_at means z.opening) z.history s ≡ decided d r) × IsSynced (origin_at means z.opening) z.history s d r) is (c, e, p, i)
