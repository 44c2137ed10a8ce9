-- What the workers of a run need at its begin.
use Rattle.std.proofs.Common.{◌≡◌, ℕ, zero, suc, ◌+◌, ◌++◌, List, [], ◌∷◌, length, map, reverse, slice_index, refl, ap, sym, ◌∙◌, subst, arith, append_assoc, length-append}
use Rattle.std.specs.List.{AllByRecursion}
use Rattle.std.specs.declared.vec.Vec.{Vec}
use Rattle.std.specs.declared.alloc.Global.{Global}
use Rattle.turn_lock.specs.Seats.{LockId}
use Rattle.txg_core.specs.Rules.{Meaning}
use Rattle.txg_core.specs.declared.origin.Opening.{Opening}
use Rattle.shared_pool.specs.Passes.{PassView, SyncPassView}
use Rattle.shared_pool.specs.Closing.{first_pass, passes_from}
use Rattle.sessions.specs.declared.worker.Worker.{Worker}
use Rattle.sessions.specs.declared.worker.Worker.TheVariants.{Session, Groups}
use Rattle.sessions.specs.Serving.{MayMake}
use Rattle.sessions.specs.declared.worker.Caller.{Caller}
use Rattle.sessions.specs.declared.crew.Parts.{Parts}
use Rattle.sessions.specs.Workers.{MayWork, passes_in, calls_in, groups_in, MakesCrew, ArePartsOf}
use Rattle.sessions.specs.Runs.{in_order}

-- the sessions from a on have as many calls as these lists are long
abbrev pub CountsFrom : {C : Type 0} → List ℕ → ℕ → List (List C) → Type 0
CountsFrom counts a sessions = (k : ℕ) → slice_index counts (a + k) ≡ slice_index (map length sessions) k

pub counts-next : {C : Type 0} (counts : List ℕ) (a : ℕ) (cs : List C) (sessions : List (List C)) → CountsFrom counts a (cs ∷ sessions) → CountsFrom counts (a + 1) sessions
counts-next counts a cs sessions at k = ap (slice_index counts) (omega arith) ∙ at (suc k)

pub counts-all : {C : Type 0} (counts : List ℕ) (sessions : List (List C)) → counts ≡ map length sessions → CountsFrom counts 0 sessions
counts-all counts sessions e k = ap (λ (ns : List ℕ). slice_index ns (0 + k)) e ∙ ap (slice_index (map length sessions)) (omega arith)

module _ {O W C R : Type 0} (means : O → Meaning W C R) (pool : LockId) (opening : Opening O) where
  first-may : (a : ℕ) (calls : List C) → slice_index opening.counts a ≡ length calls → MayMake means (first_pass pool opening a) calls
  first-may a calls e = record { legal = tt; idle_now = refl; left = omega (arith, e) }

  -- a worker that is in a crew may begin
  pub may-work : (workers : List (Worker O C R)) (a n : ℕ) (sessions : List (List C)) → passes_in workers ≡ passes_from pool opening a n → in_order (calls_in workers) ≡ sessions → CountsFrom opening.counts a sessions
      → AllByRecursion (λ (p : SyncPassView O C). p.pool ≡ pool) (groups_in workers) → AllByRecursion (MayWork means pool) workers
  may-work [] a n sessions p c at g = tt
  may-work (Groups q ∷ ws) a n sessions p c at g = (g.0, may-work ws a n sessions p c at g.1)
  may-work (Session w ∷ ws) a zero sessions p c at g = absurd (cc)
  may-work (Session w ∷ ws) a (suc n) [] p c at g = absurd (cc)
  may-work (Session w ∷ ws) a (suc n) (cs ∷ sessions) p c at g =
      let pass : w.pass ≡ first_pass pool opening a = cc in
      let passes : passes_in ws ≡ passes_from pool opening (a + 1) n = cc in
      let mine : reverse w.calls.items ≡ cs = cc in
      let others : in_order (calls_in ws) ≡ sessions = cc in
      let count : slice_index opening.counts a ≡ length cs = ap (slice_index opening.counts) (omega arith) ∙ at 0 in (
        (
          ap (λ (q : PassView O C). q.pool) pass,
          subst (λ (q : PassView O C). MayMake means q (reverse w.calls.items)) (sym pass) (subst (MayMake means (first_pass pool opening a)) (sym mine) (first-may a cs count)),
        ),
        may-work ws (a + 1) n sessions passes others (counts-next opening.counts a cs sessions at) g,
      )

pub length-from : {O : Type 0} (C : Type 0) (pool : LockId) (opening : Opening O) (a n : ℕ) → length (passes_from {C = C} pool opening a n) ≡ n
length-from C pool opening a zero = refl
length-from C pool opening a (suc n) = ap suc (length-from C pool opening (a + 1) n)

pub length-map : {X Y : Type 0} (f : X → Y) (xs : List X) → length (map f xs) ≡ length xs
length-map f [] = refl
length-map f (x ∷ xs) = ap suc (length-map f xs)

-- of all workers those in front are left, and these parts are those of the others
pub record Parting {O C R : Type 0} (all left : List (Worker O C R)) (parts : Parts O C R) : Type 0 where
  pub done : List (Worker O C R)
  pub is : all ≡ left ++ done
  pub are : ArePartsOf done parts

pub parted_more : {O C R : Type 0} (all left rest : List (Worker O C R)) (w : Worker O C R) (old new : Parts O C R) → Parting all left old → left ≡ rest ++ w ∷ [] → ((workers : List (Worker O C R)) → ArePartsOf workers old → ArePartsOf (w ∷ workers) new) → Parting all rest new
parted_more {O = O} {C = C} {R = R} all left rest w old new p last grows = record {
  done = w ∷ p.done;
  is = p.is ∙ (ap (λ (l : List (Worker O C R)). l ++ p.done) last ∙ append_assoc rest (w ∷ []) p.done);
  are = grows p.done p.are;
}

-- one worker more in front of a crew
pub crew_more : {O C R : Type 0} (passes ps qs : List (PassView O C)) (calls cs ds : List (Vec C Global)) (sync : SyncPassView O C) (ws : List (Worker O C R)) (w : Caller O C R)
    → MakesCrew passes ps calls cs sync ws → ps ≡ qs ++ w.pass ∷ [] → cs ≡ ds ++ w.calls ∷ [] → MakesCrew passes qs calls ds sync (Session w ∷ ws)
crew_more {O = O} {C = C} passes ps qs calls cs ds sync ws w m p c =
    let np : length ps ≡ length qs + 1 = ap length p ∙ length-append qs (w.pass ∷ []) in
    let nc : length cs ≡ length ds + 1 = ap length c ∙ length-append ds (w.calls ∷ []) in
    record {
      as_many = let e = m.as_many in omega (arith, np, nc, e);
      few = let f = m.few in omega (arith, np, f);
      passes_are = m.passes_are ∙ (ap (λ (l : List (PassView O C)). l ++ passes_in ws) p ∙ append_assoc qs (w.pass ∷ []) (passes_in ws));
      calls_are = m.calls_are ∙ (ap (λ (l : List (Vec C Global)). l ++ calls_in ws) c ∙ append_assoc ds (w.calls ∷ []) (calls_in ws));
      groups_are = m.groups_are;
    }
