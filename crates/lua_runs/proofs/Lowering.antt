-- Rules of single steps: what each leaves of the weight, and that no instruction is given back and no coroutine made.
use Rattle.std.proofs.Common.{◌≡◌, ◌∙◌, ℕ, zero, suc, ◌+◌, ◌≤◌, ◌<◌, pos, List, [], ◌∷◌, length, drop, Bool, true, false, Option, Some, None, refl, arith, inl, inr, ◌⊎◌}
use Rattle.std.specs.Prelude.{nat_lt, codes, if◌then◌else◌}
use Rattle.zc_budget.specs.Used.{is_spent, ticked, is_over, charged}
use Rattle.zc_budget.specs.declared.budget.Stop.TheVariants as stop
use Rattle.lua_ast.specs.declared.node.LinedNode.{LinedNode}
use Rattle.lua_meaning.specs.declared.value.Value.{Value}
use Rattle.lua_meaning.specs.declared.value.Value.TheVariants as value
use Rattle.lua_meaning.specs.Values.{first, is_nil}
use Rattle.lua_meaning.specs.Tables.{was_put}
use Rattle.lua_meaning.specs.Heap.{HeapOf, cell_bytes, key_bytes, text_bytes, table_at}
use Rattle.lua_meaning.specs.Code.{Code}
use Rattle.lua_meaning.specs.Runs.{error_text}
use Rattle.lua_meaning.specs.Locals.{Locals}
use Rattle.lua_meaning.specs.Operators.{Raise, Stopped, op_fails}
use Rattle.lua_steps.specs.declared.mode.Mode.{Mode}
use Rattle.lua_steps.specs.declared.mode.Mode.TheVariants as mode
use Rattle.lua_steps.specs.declared.given.Given.{Given}
use Rattle.lua_steps.specs.declared.given.Given.TheVariants as given
use Rattle.lua_steps.specs.Configuration.{Configuration, Next, with_tick, tick_by, ticking, taken_up}
use Rattle.lua_steps.specs.Effects.{ended_with, failing, few_by, if_few, Declared, shared_by, declared_by, declared, declared_if, declared_all, new_key_by, put_by, failed_put, put_in, or_else, putting, PutAll, put_then, put_all}
use Rattle.lua_steps.specs.Machine.{declaring}
use Rattle.lua_steps.proofs.Storing.{declared_in}
use Rattle.lua_runs.specs.Weights.{frames_weight, mode_weight, weight, most_added}
use Rattle.lua_runs.proofs.FrameWeights.{given_weight}

-- the limit stays, no instruction is given back, and no coroutine is made
pub record KeepsCounts (before after : HeapOf) : Type 0 where
  pub limit : after.used.most_instructions ≡ before.used.most_instructions
  pub instructions : before.used.instructions ≤ after.used.instructions
  pub threads : after.threads ≡ before.threads

pub counts_none : (h : HeapOf) → KeepsCounts h h
counts_none h = record { limit = refl; instructions = omega arith; threads = refl }

pub counts_on : (a b c : HeapOf) → KeepsCounts a b → KeepsCounts b c → KeepsCounts a c
counts_on a b c f g = record { limit = g.limit ∙ f.limit; instructions = omega (arith, f.instructions, g.instructions); threads = g.threads ∙ f.threads }

abbrev pub ticked_heap : HeapOf → HeapOf
ticked_heap h = record h { used = ticked h.used }

-- locals that are declared
shared_counts : (over : Bool) (v : ℕ) (a : Value) (h : HeapOf) (ls : Locals) → KeepsCounts h (shared_by over v a h ls).heap
shared_counts true v a h ls = counts_none h
shared_counts false v a h ls = record { limit = refl; instructions = omega arith; threads = refl }

one_counts : (captured : Bool) (v : ℕ) (a : Value) (h : HeapOf) (ls : Locals) → KeepsCounts h (declared_by captured v a h ls).heap
one_counts true v a h ls = shared_counts (is_over cell_bytes h.used) v a h ls
one_counts false v a h ls = counts_none h

module _ (code : Code) where
  pub declared_counts : (v : ℕ) (a : Value) (h : HeapOf) (ls : Locals) → KeepsCounts h (declared code v a h ls).heap
  declared_counts v a h ls = one_counts (code.is_captured v) v a h ls

  then_counts : (h : HeapOf) (d : Declared) (further : HeapOf → Locals → Declared) (t : Bool) → KeepsCounts h d.heap → KeepsCounts d.heap (further d.heap d.locals).heap → KeepsCounts h (declared_if code t d further).heap
  then_counts h d further true f g = counts_on h d.heap (further d.heap d.locals).heap f g
  then_counts h d further false f g = f

  pub all_counts : (n v : ℕ) (xs : List Value) (h : HeapOf) (ls : Locals) → KeepsCounts h (declared_all code v n xs h ls).heap
  all_counts zero v xs h ls = counts_none h
  all_counts (suc n) v xs h ls =
      let d : Declared = declared code v (first xs) h ls in
      then_counts h d (λ h ls. declared_all code (v + 1) n (drop 1 xs) h ls) d.done (declared_counts v (first xs) h ls) (all_counts n (v + 1) (drop 1 xs) d.heap d.locals)

module _ (nodes : List LinedNode) where
  -- a value that is put, or how that ended
  pub record IsPutLight (h : HeapOf) (p : Option Mode × HeapOf) : Type 0 where
    pub counts : KeepsCounts h p.1
    pub light : (b : Mode) → mode_weight nodes (or_else p.0 b) ≤ mode_weight nodes b

  failed_light : (lines text : List ℕ) (h : HeapOf) → IsPutLight h (failed_put (op_fails lines text h))
  failed_light lines text h = by (is_over (text_bytes (error_text lines text)) h.used)
    where
      by : (t : Bool) → IsPutLight h (failed_put (if t then (Stopped stop.Memory, h) else (Raise (value.Text (error_text lines text)), record h { used = charged (text_bytes (error_text lines text)) h.used })))
      by true = record { counts = counts_none h; light = λ b. omega arith }
      by false = record { counts = record { limit = refl; instructions = omega arith; threads = refl }; light = λ b. omega arith }

  new_key_light : (over : Bool) (t : ℕ) (key v : Value) (h : HeapOf) → IsPutLight h (new_key_by over t key v h)
  new_key_light true t key v h = record { counts = counts_none h; light = λ b. omega arith }
  new_key_light false t key v h = record { counts = record { limit = refl; instructions = omega arith; threads = refl }; light = λ b. omega arith }

  put_by_light : (there nothing : Bool) (t : ℕ) (key v : Value) (h : HeapOf) → IsPutLight h (put_by there nothing t key v h)
  put_by_light true nothing t key v h = record { counts = record { limit = refl; instructions = omega arith; threads = refl }; light = λ b. omega arith }
  put_by_light false true t key v h = record { counts = counts_none h; light = λ b. omega arith }
  put_by_light false false t key v h = new_key_light (is_over key_bytes h.used) t key v h

  pub put_light : (lines : List ℕ) (t : ℕ) (key v : Value) (h : HeapOf) → IsPutLight h (put_in lines t key v h)
  put_light lines t value.Nil v h = failed_light lines (codes "table index is nil") h
  put_light lines t key v h = put_by_light (was_put (table_at h t).pairs key) (is_nil v) t key v h

  then_light : (h : HeapOf) (p : Option Mode × HeapOf) (n : ℕ) (further : HeapOf → PutAll) → IsPutLight h p → ((k : HeapOf) → IsPutLight k ((further k).fault, (further k).heap)) → IsPutLight h ((put_then p n further).fault, (put_then p n further).heap)
  then_light h (None, k) n further f rest = record { counts = counts_on h k (further k).heap f.counts (rest k).counts; light = (rest k).light }
  then_light h (Some b, k) n further f rest = f

  pub puts_light : (lines : List ℕ) (vs : List Value) (t n : ℕ) (h : HeapOf) → IsPutLight h ((put_all lines t n vs h).fault, (put_all lines t n vs h).heap)
  puts_light lines [] t n h = record { counts = counts_none h; light = λ b. omega arith }
  puts_light lines (v ∷ vs) t n h = then_light h (put_in lines t (value.Int (pos n)) v h) n (λ h. put_all lines t (n + 1) vs h) (put_light lines t (value.Int (pos n)) v h) (λ k. puts_light lines vs t (n + 1) k)

  -- What comes next is lighter than w.
  pub record Lowers (h : HeapOf) (w : ℕ) (y : Next) : Type 0 where
    pub counts : KeepsCounts h y.1.heap
    pub lighter : weight nodes y < w

  -- It is lighter, or an instruction more is used, which let it grow by as much as one may add.
  abbrev pub Falls : HeapOf → ℕ → Next → Type 0
  Falls h w y = Lowers h w y ⊎ Lowers (ticked_heap h) (w + most_added nodes) y

  pub lowers_from : (h k : HeapOf) (w : ℕ) (y : Next) → KeepsCounts h k → Lowers k w y → Lowers h w y
  lowers_from h k w y f g = record { counts = counts_on h k y.1.heap f g.counts; lighter = g.lighter }

  pub falls_from : (h k : HeapOf) (w : ℕ) (y : Next) → KeepsCounts h k → Falls k w y → Falls h w y
  falls_from h k w y f (inl g) = inl (lowers_from h k w y f g)
  falls_from h k w y f (inr g) = inr (lowers_from (ticked_heap h) (ticked_heap k) (w + most_added nodes) y (record { limit = f.limit; instructions = omega (arith, f.instructions); threads = f.threads }) g)

  pub nexts : (b : Mode) (x : Configuration) (w : ℕ) → mode_weight nodes b + frames_weight nodes x.frames < w → Lowers x.heap w (b, x)
  nexts b x w le = record { counts = counts_none x.heap; lighter = le }

  pub taken_lowers : (g : Given) (x : Configuration) (w : ℕ) → given_weight nodes g + frames_weight nodes x.frames < w → Lowers x.heap w (taken_up g x)
  taken_lowers (given.Goes b) x w le = record { counts = counts_none x.heap; lighter = omega (arith, le) }
  taken_lowers (given.Enters f b) x w le = record { counts = counts_none x.heap; lighter = omega (arith, le) }
  taken_lowers (given.Cuts n b) x w le = record { counts = counts_none x.heap; lighter = omega (arith, le) }
  taken_lowers (given.Returns call b) x w le = record { counts = counts_none x.heap; lighter = omega (arith, le) }
  taken_lowers (given.Lands n f) x w le = record { counts = counts_none x.heap; lighter = omega (arith, le) }

  pub failing_lowers : (lines text : List ℕ) (x : Configuration) (w : ℕ) → frames_weight nodes x.frames < w → Lowers x.heap w (failing lines text x)
  failing_lowers lines text x w le = by (is_over (text_bytes (error_text lines text)) x.heap.used)
    where
      by : (t : Bool) → Lowers x.heap w (ended_with (if t then (Stopped stop.Memory, x.heap) else (Raise (value.Text (error_text lines text)), record x.heap { used = charged (text_bytes (error_text lines text)) x.heap.used })) x)
      by true = record { counts = counts_none x.heap; lighter = omega (arith, le) }
      by false = record { counts = record { limit = refl; instructions = omega arith; threads = refl }; lighter = omega (arith, le) }

  pub few_lowers : (lines : List ℕ) (vs : List Value) (b : Mode) (x : Configuration) (w : ℕ) → mode_weight nodes b + frames_weight nodes x.frames < w → Lowers x.heap w (if_few lines vs b x)
  few_lowers lines vs b x w le = by (nat_lt 250 (length vs))
    where
      by : (t : Bool) → Lowers x.heap w (few_by t lines b x)
      by true = failing_lowers lines (codes "too many values") x w (omega (arith, le))
      by false = nexts b x w le

  pub declaring_lowers : (d : Declared) (k : Configuration → Next) (x : Configuration) (w : ℕ) → KeepsCounts x.heap d.heap → frames_weight nodes x.frames < w → Lowers d.heap w (k (declared_in d x)) → Lowers x.heap w (declaring d k x)
  declaring_lowers d k x w f le g = by d.done
    where
      by : (t : Bool) → Lowers x.heap w (if t then k (declared_in d x) else (mode.Stopped stop.Memory, declared_in d x))
      by true = lowers_from x.heap d.heap w (k (declared_in d x)) f g
      by false = record { counts = f; lighter = omega (arith, le) }

  pub putting_lowers : (p : Option Mode × HeapOf) (b : Mode) (x : Configuration) (w : ℕ) → IsPutLight x.heap p → mode_weight nodes b + frames_weight nodes x.frames < w → Lowers x.heap w (putting p b x)
  putting_lowers p b x w f le = record { counts = f.counts; lighter = omega (arith, le, f.light b) }

  pub ticks : (k : Configuration → Next) (x : Configuration) (w : ℕ) → frames_weight nodes x.frames < w → Lowers (with_tick x).heap (w + most_added nodes) (k (with_tick x)) → Falls x.heap w (ticking k x)
  ticks k x w le f = by (is_spent x.heap.used)
    where
      by : (t : Bool) → Falls x.heap w (tick_by t k x)
      by true = inl (record { counts = counts_none x.heap; lighter = omega (arith, le) })
      by false = inr f
