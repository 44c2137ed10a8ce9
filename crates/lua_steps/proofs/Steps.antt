-- Steps by what they do with the frames: none, or one more.
use Rattle.std.proofs.Common.{◌≡◌, ℕ, ◌+◌, ◌<◌, ◌≤◌, List, [], ◌∷◌, sym, subst, arith}
use Rattle.zc_budget.specs.Used.{ticked}
use Rattle.lua_ast.specs.declared.node.LinedNode.{LinedNode}
use Rattle.lua_meaning.specs.Store.{Store, Resumptions, Result}
use Rattle.lua_meaning.specs.Code.{Code}
use Rattle.lua_meaning.specs.Runs.{used_of, with_used}
use Rattle.lua_meaning.specs.Jobs.{HostOf}
use Rattle.lua_coroutines.specs.declared.frame.Frame.{Frame}
use Rattle.lua_steps.specs.declared.mode.Mode.{Mode}
use Rattle.lua_steps.specs.Frames.{goes_on, means}
use Rattle.lua_steps.specs.Works.{spare, need, used, limit, Goes, Leads, Works}

module _ {H : Type 0} where
  abbrev pub after_tick : Store H → Store H
  after_tick s = with_used (ticked (used_of s)) s

module _ {H : Type 0} (host : HostOf H) (code : Code) (nodes : List LinedNode) where
  pub later : (m l u u' : ℕ) (fs : List Frame) (o w : Result H) → u ≤ u' → Leads host code nodes m l u fs o w → Leads host code nodes m l u' fs o w
  later m l u u' [] o w le h = h
  later m l u u' (f ∷ fs) o w le h = (h.0, omega (arith, h.1), later m l u u' fs _ w le h.2)

  -- the frames stay
  pub stay : (ended : ℕ) (s s' : Store H) (fs : List Frame) (a b : Mode) (whole : ℕ → Resumptions H → Result H) → Goes s s' → used s + spare b ≤ used s' + spare a →
      ((m n : ℕ) (r : Resumptions H) → limit s + need a < used s + n → (k : ℕ) × (limit s + need b < used s' + k) × (means host code nodes m n a s r ≡ means host code nodes m k b s' r)) →
      Works host code nodes ended s fs a whole → Works host code nodes ended s' fs b whole
  stay ended s s' fs a b whole g u e h = record {
    ends = λ m r le.
        let w = h.ends m r le in
        let k = e m w.fuel r w.enough in record {
          fuel = k.0;
          enough = omega (arith, k.1, g.same_limit);
          since = w.since;
          before = omega (arith, w.before, u);
          leads = subst (λ l. Leads host code nodes m l w.since fs (means host code nodes m k.0 b s' r) (whole m r)) (sym g.same_limit) (subst (λ o. Leads host code nodes m (limit s) w.since fs o (whole m r)) k.2 w.leads);
        };
  }

  -- one frame more
  pub push : (ended : ℕ) (s s' : Store H) (fs : List Frame) (f : Frame) (a b : Mode) (whole : ℕ → Resumptions H → Result H) → Goes s s' → spare b ≡ 0 → used s + spare a ≤ used s' + spare a →
      ((m n : ℕ) (r : Resumptions H) → limit s + need a < used s + n → (j k : ℕ) × (limit s + 1 < used s' + j) × (limit s + need b < used s' + k) × (means host code nodes m n a s r ≡ goes_on host code nodes m j f (means host code nodes m k b s' r))) →
      Works host code nodes ended s fs a whole → Works host code nodes ended s' (f ∷ fs) b whole
  push ended s s' fs f a b whole g z u e h = record {
    ends = λ m r le.
        let w = h.ends m r le in
        let k = e m w.fuel r w.enough in record {
          fuel = k.1;
          enough = omega (arith, k.3, g.same_limit);
          since = used s';
          before = omega (arith, z);
          leads = (k.0, omega (arith, k.2, g.same_limit), subst (λ l. Leads host code nodes m l (used s') fs (goes_on host code nodes m k.0 f (means host code nodes m k.1 b s' r)) (whole m r)) (sym g.same_limit) (later m (limit s) w.since (used s') fs _ (whole m r) (omega (arith, w.before, g.since)) (subst (λ o. Leads host code nodes m (limit s) w.since fs o (whole m r)) k.4 w.leads)));
        };
  }
