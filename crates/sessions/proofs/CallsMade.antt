-- A session makes a call: what its pass has then seen.
use Rattle.std.proofs.Common.{◌≡◌, ℕ, zero, suc, ◌+◌, ◌<◌, ◌++◌, Option, Some, None, Result, Ok, Err, IfOk, List, [], ◌∷◌, length, slice_get, refl, ap, sym, ◌∙◌, subst, arith, add-zero, append_assoc, append-nil, length-append}
use Rattle.txg_core.specs.Rules.{Meaning, Origin, IsLawful}
use Rattle.txg_core.specs.Openings.{origin_at}
use Rattle.txg_core.specs.declared.event.Step.TheVariants.{Hold, Check, Enqueue, Read, Take}
use Rattle.txg_core.specs.declared.event.Entry.{Entry}
use Rattle.txg_core.specs.History.{holds, checks, enqueues, reads, takes}
use Rattle.txg_core.specs.Serial.{next, world, given}
use Rattle.txg_core.specs.Sessions.{idle, waiting, decided, phase}
use Rattle.txg_core.specs.Enabled.{Legal}
use Rattle.txg_core.proofs.Phases.{phase-own, next-own}
use Rattle.txg_core.proofs.Replies.{one-more-own, given-alone}
use Rattle.txg_core.proofs.CallsLemmas.{alone}
use Rattle.shared_pool.specs.declared.answers.Ticket.{Ticket}
use Rattle.shared_pool.specs.declared.answers.Refusal.{Refusal}
use Rattle.shared_pool.specs.declared.answers.Refusal.TheVariants.{Checked}
use Rattle.txg_core.specs.declared.origin.Opening.{Opening}
use Rattle.shared_pool.specs.Passes.{PassView, GrowsByOthers, GoesOn, IsSamePass}
use Rattle.shared_pool.specs.Submits.{Submits, ReadsOnce}
use Rattle.shared_pool.specs.Collects.{Collects}
use Rattle.sessions.specs.Serving.{CarriesOwn, Serves}
use Rattle.sessions.proofs.Carrying.{own-alone, take-carries}

module _ {W C R : Type 0} (o : Origin W C R) (lawful : IsLawful o.rules) (s : ℕ) where
  -- what others leave of the session
  pub record Alone (front found : List (Entry C)) : Type 0 where
    pub same_next : next o found s ≡ next o front s
    pub same_given : given o found s ≡ given o front s
    pub still_carries : (all : ℕ → Option C) → CarriesOwn o s all front → CarriesOwn o s all found

  pub left-alone : (front found : List (Entry C)) → GrowsByOthers (s + 1) front found → Legal o found → Alone front found
  left-alone front found g legal =
      let l : Legal o (g.later ++ front) = subst (Legal o) g.is legal in
      record {
        same_next = ap (λ (h : List (Entry C)). next o h s) g.is ∙ (alone o front g.later s l g.none_own).same_call;
        same_given = ap (λ (h : List (Entry C)). given o h s) g.is ∙ given-alone o s front g.later lawful l g.none_own;
        still_carries = λ all c. subst (CarriesOwn o s all) (sym g.is) (own-alone o s all front g.later l g.none_own c);
      }

  -- an entry of the session that ends no call and tells no reply
  record Quiet (h new : List (Entry C)) : Type 0 where
    quiet_next : next o new s ≡ next o h s
    quiet_given : given o new s ≡ given o h s

  held : (h : List (Entry C)) (c : C) → Legal o (holds s c ∷ h) → Quiet h (holds s c ∷ h)
  held h c l = record { quiet_next = next-own o h Hold s c ∙ add-zero (next o h s); quiet_given = one-more-own o h Hold s c lawful l ∙ append-nil (given o h s) }

  queued : (h : List (Entry C)) (c : C) → Legal o (enqueues s c ∷ h) → Quiet h (enqueues s c ∷ h)
  queued h c l = record { quiet_next = next-own o h Enqueue s c ∙ add-zero (next o h s); quiet_given = one-more-own o h Enqueue s c lawful l ∙ append-nil (given o h s) }

  passed : (h : List (Entry C)) (c : C) → Legal o (checks s c ∷ h) → o.rules.check (world o h) c ≡ None → Quiet h (checks s c ∷ h)
  passed h c l none = record {
    quiet_next = next-own o h Check s c ∙ (rw none (add-zero (next o h s)));
    quiet_given = one-more-own o h Check s c lawful l ∙ (rw none (append-nil (given o h s)));
  }

  -- the one call that was made
  first : (front : List (Entry C)) (c : C) (all : ℕ → Option C) → ((k : ℕ) → k < 1 → all (next o front s + k) ≡ slice_get (c ∷ []) k) → all (next o front s) ≡ Some c
  first front c all at = ap all (sym (add-zero (next o front s))) ∙ at 0 (omega arith)

  -- a check that refuses
  pub refused : (front found new : List (Entry C)) (c : C) (reply : R) → GrowsByOthers (s + 1) front found → new ≡ checks s c ∷ holds s c ∷ found → o.rules.check (world o (holds s c ∷ found)) c ≡ Some reply → Legal o new → Serves o s front (c ∷ []) (reply ∷ []) new
  refused front found new c reply others is says legal =
      let l : Legal o (checks s c ∷ holds s c ∷ found) = subst (Legal o) is legal in
      let a = left-alone front found others l.1.1 in
      let q = held found c l.1 in
      subst (Serves o s front (c ∷ []) (reply ∷ [])) (sym is) (record {
        legal = l;
        idle_now = phase-own o (holds s c ∷ found) Check s c ∙ (rw says refl);
        number = next-own o (holds s c ∷ found) Check s c ∙ (rw (says, q.quiet_next, a.same_next) refl);
        gave = one-more-own o (holds s c ∷ found) Check s c lawful l ∙ (rw (says, q.quiet_given, a.same_given) refl);
        carries = λ all at before.
            let now = first front c all at in
            let early = a.still_carries all before in
            ((λ e. ap all (q.quiet_next ∙ a.same_next) ∙ now), ((λ e. ap all a.same_next ∙ now), early));
      })

  -- a query
  pub asked : (front found new : List (Entry C)) (c : C) (reply : R) → GrowsByOthers (s + 1) front found → new ≡ reads s c ∷ found → reply ≡ (o.rules.does (world o new) c 0).0 → Legal o new → Serves o s front (c ∷ []) (reply ∷ []) new
  asked front found new c reply others is says legal =
      let l : Legal o (reads s c ∷ found) = subst (Legal o) is legal in
      let a = left-alone front found others l.1 in
      let world_same : world o new ≡ world o found = ap (world o) is ∙ ap (λ p. p.1) (lawful.query (world o found) c l.0.1 0) in
      let told : reply ≡ (o.rules.does (world o found) c 0).0 = says ∙ ap (λ (w : W). (o.rules.does w c 0).0) world_same in
      subst (Serves o s front (c ∷ []) (reply ∷ [])) (sym is) (record {
        legal = l;
        idle_now = phase-own o found Read s c;
        number = next-own o found Read s c ∙ ap (λ (n : ℕ). n + 1) a.same_next;
        gave = one-more-own o found Read s c lawful l ∙ (rw (← told, a.same_given) refl);
        carries = λ all at before. ((λ e. ap all a.same_next ∙ first front c all at), a.still_carries all before);
      })

  -- a change that was queued
  pub record IsQueued (front : List (Entry C)) (c : C) (new : List (Entry C)) : Type 0 where
    pub legal : Legal o new
    pub same_next : next o new s ≡ next o front s
    pub same_given : given o new s ≡ given o front s
    pub waits : phase o new s ≡ waiting c
    pub carries : (all : ℕ → Option C) → all (next o front s) ≡ Some c → CarriesOwn o s all front → CarriesOwn o s all new

  pub submitted : (front found new : List (Entry C)) (c : C) → GrowsByOthers (s + 1) front found → new ≡ enqueues s c ∷ checks s c ∷ holds s c ∷ found → o.rules.check (world o (holds s c ∷ found)) c ≡ None → Legal o new → IsQueued front c new
  submitted front found new c others is says legal =
      let l : Legal o (enqueues s c ∷ checks s c ∷ holds s c ∷ found) = subst (Legal o) is legal in
      let a = left-alone front found others l.1.1.1 in
      let q = held found c l.1.1 in
      let p = passed (holds s c ∷ found) c l.1 says in
      let r = queued (checks s c ∷ holds s c ∷ found) c l in
      subst (IsQueued front c) (sym is) (record {
        legal = l;
        same_next = r.quiet_next ∙ p.quiet_next ∙ q.quiet_next ∙ a.same_next;
        same_given = r.quiet_given ∙ p.quiet_given ∙ q.quiet_given ∙ a.same_given;
        waits = phase-own o (checks s c ∷ holds s c ∷ found) Enqueue s c;
        carries = λ all now before. (
          (λ e. ap all (p.quiet_next ∙ q.quiet_next ∙ a.same_next) ∙ now),
          (
            (λ e. ap all (q.quiet_next ∙ a.same_next) ∙ now),
            (
              (λ e. ap all a.same_next ∙ now),
              a.still_carries all before,
            ),
          ),
        );
      })

  -- its reply
  pub collected : (front mid found new : List (Entry C)) (c d : C) (reply : R) → IsQueued front c mid → GrowsByOthers (s + 1) mid found → new ≡ takes s d ∷ found → phase o found s ≡ decided d reply → Legal o new → Serves o s front (c ∷ []) (reply ∷ []) new
  collected front mid found new c d reply q others is kept legal =
      let l : Legal o (takes s d ∷ found) = subst (Legal o) is legal in
      let a = left-alone mid found others l.1 in
      subst (Serves o s front (c ∷ []) (reply ∷ [])) (sym is) (record {
        legal = l;
        idle_now = phase-own o found Take s d;
        number = next-own o found Take s d ∙ ap (λ (n : ℕ). n + 1) (a.same_next ∙ q.same_next);
        gave = one-more-own o found Take s d lawful l ∙ (rw (kept, a.same_given, q.same_given) refl);
        carries = λ all at before.
            let early = a.still_carries all (q.carries all (first front c all at) before) in
            ((λ e. take-carries o s all found d reply kept early), early);
      })

  -- none was made
  pub none-made : (front : List (Entry C)) → Legal o front → phase o front s ≡ idle → Serves o s front [] [] front
  none-made front legal calm = record { legal = legal; idle_now = calm; number = sym (add-zero (next o front s)); gave = sym (append-nil (given o front s)); carries = λ all at c. c }

  get-left : (xs ys : List C) (k : ℕ) → k < length xs → slice_get (xs ++ ys) k ≡ slice_get xs k
  get-left [] ys k lt = absurd (omega arith)
  get-left (x ∷ xs) ys zero lt = refl
  get-left (x ∷ xs) ys (suc k) lt = get-left xs ys k (omega arith)

  get-right : (xs ys : List C) (k : ℕ) → slice_get (xs ++ ys) (length xs + k) ≡ slice_get ys k
  get-right [] ys k = ap (slice_get ys) (omega arith)
  get-right (x ∷ xs) ys k = ap (slice_get (x ∷ (xs ++ ys))) {x = suc (length xs) + k} {y = suc (length xs + k)} (omega arith) ∙ get-right xs ys k

  -- first these calls, then those
  pub both-made : (front mid new : List (Entry C)) (cs ds : List C) (rs qs : List R) → Serves o s front cs rs mid → Serves o s mid ds qs new → Serves o s front (cs ++ ds) (rs ++ qs) new
  both-made front mid new cs ds rs qs a b = record {
    legal = b.legal;
    idle_now = b.idle_now;
    number = let m = a.number in let n = b.number in let e = length-append cs ds in omega (arith, m, n, e);
    gave = b.gave ∙ (ap (λ (xs : List R). xs ++ qs) a.gave ∙ append_assoc (given o front s) rs qs);
    carries = λ all at before.
        let e = length-append cs ds in
        b.carries all
        (λ k lt. let m = a.number in
        ap all (omega (arith, m)) ∙ at (length cs + k) (omega (arith, e, lt)) ∙ get-right cs ds k)
        (a.carries all (λ k lt. at k (omega (arith, e, lt)) ∙ get-left cs ds k lt) before);
  }

module _ {O W C R : Type 0} (means : O → Meaning W C R) (p q n : PassView O C) (lawful : IsLawful (means p.opening.object).rules) (c : C) where
  -- a change whose check refuses
  pub change-refused : (x : Refusal R) (reply : R) (at : ℕ) → x ≡ Checked reply at → GoesOn (origin_at means p.opening) (p.session + 1) p.front (Submits (origin_at means p.opening) p.session c (Err x)) n.front
      → Serves (origin_at means p.opening) p.session p.front (c ∷ []) (reply ∷ []) n.front
  change-refused x reply at is h =
      let g : GoesOn (origin_at means p.opening) (p.session + 1) p.front (Submits (origin_at means p.opening) p.session c (Err (Checked reply at))) n.front = subst (λ (z : Refusal R). GoesOn (origin_at means p.opening) (p.session + 1) p.front (Submits (origin_at means p.opening) p.session c (Err z)) n.front) is h in
      refused (origin_at means p.opening) lawful p.session p.front g.found n.front c reply g.others g.made.0 g.made.1 g.legal

  -- one that was queued, and its reply
  pub change-made : {E : Type 0} (t : Ticket) (r : Result R E) → IsSamePass p q → t.session ≡ q.session → GoesOn (origin_at means p.opening) (p.session + 1) p.front (Submits (origin_at means p.opening) p.session c (Ok t)) q.front
      → IfOk r (λ reply. GoesOn (origin_at means q.opening) (q.session + 1) q.front (Collects (origin_at means q.opening) t r) n.front)
      → IfOk r (λ reply. Serves (origin_at means p.opening) p.session p.front (c ∷ []) (reply ∷ []) n.front)
  change-made t (Err e) same ticket sub col = tt
  change-made {E = E} t (Ok reply) same ticket sub col =
      let o = origin_at means p.opening in
      let moved : GoesOn (origin_at means p.opening) (q.session + 1) q.front (Collects {E = E} (origin_at means p.opening) t (Ok reply)) n.front = subst (λ (x : Opening O). GoesOn (origin_at means x) (q.session + 1) q.front (Collects {E = E} (origin_at means x) t (Ok reply)) n.front) same.1 col in
      let g : GoesOn o (p.session + 1) q.front (Collects {E = E} o t (Ok reply)) n.front = subst (λ (s : ℕ). GoesOn o (s + 1) q.front (Collects {E = E} o t (Ok reply)) n.front) same.2 moved in
      let at : t.session ≡ p.session = ticket ∙ same.2 in
      let d = g.made.0 in
      collected o lawful p.session p.front q.front g.found n.front c d reply (submitted o lawful p.session p.front sub.found q.front c sub.others sub.made.0 sub.made.1 sub.legal) g.others
      (subst (λ (k : ℕ). n.front ≡ takes k d ∷ g.found) at g.made.1) (subst (λ (k : ℕ). phase o g.found k ≡ decided d reply) at g.made.2.kept) g.legal

  -- a query
  pub query-made : {X E : Type 0} (view : R) (x : X) (r : Result R E) → GoesOn (origin_at means p.opening) (p.session + 1) p.front (ReadsOnce {E = E} p.session c (Ok x)) n.front
      → view ≡ ((origin_at means p.opening).rules.does (world (origin_at means p.opening) n.front) c 0).0 → IfOk r (λ reply. reply ≡ view)
      → IfOk r (λ reply. Serves (origin_at means p.opening) p.session p.front (c ∷ []) (reply ∷ []) n.front)
  query-made view x (Err e) g told is = tt
  query-made view x (Ok reply) g told is = asked (origin_at means p.opening) lawful p.session p.front g.found n.front c reply g.others g.made (is ∙ told) g.legal
