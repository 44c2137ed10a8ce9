-- Every job keeps what is to be kept, where the host's calls do: turns of loops, calls, jumps and steps of an index. Then whole programs.
use Rattle.std.proofs.Common.{◌≡◌, ℕ, zero, suc, ◌+◌, List, [], ◌∷◌, length, Option, Some, None, true, false, Bool, refl}
use Rattle.std.proofs.lemmas.Bool.{eqb-false}
use Rattle.std.specs.Prelude.{ℤ, ◌+ℤ◌, ◌==◌, nat_le, if◌then◌else◌, codes, slice_get}
use Rattle.lua_ast.specs.Tree as syntax
use Rattle.lua_ast.specs.Tree.{Tree, Trees}
use Rattle.lua_ast.specs.declared.node.BinOp.{BinOp}
use Rattle.lua_ast.specs.declared.node.UnOp.{UnOp}
use Rattle.lua_meaning.specs.declared.builtin.Builtin.{Builtin as BuiltinOf}
use Rattle.lua_meaning.specs.declared.value.Value.{Value}
use Rattle.lua_meaning.specs.declared.value.Value.TheVariants as value
use Rattle.lua_meaning.specs.declared.status.CoStatus.{CoStatus}
use Rattle.lua_meaning.specs.declared.status.CoStatus.TheVariants as status
use Rattle.lua_meaning.specs.declared.status.After.{After}
use Rattle.lua_meaning.specs.declared.status.After.TheVariants.{FirstThree, OneText}
use Rattle.lua_meaning.specs.Values.{first}
use Rattle.lua_meaning.specs.Numbers.{fits}
use Rattle.lua_meaning.specs.Heap.{ClosureOf, metamethod, text_bytes}
use Rattle.lua_meaning.specs.Store.{ThreadOf, Store, store, CallOf, Resumptions, Result, Go, Halt, Breaks, Jumps, Returns, Raises, Stops, Yields, OutOfFuel, state_of, with_state, call_of, with_call, heap_of, below_of}
use Rattle.lua_meaning.specs.Code.{Code}
use Rattle.lua_meaning.specs.Runs.{Run, go, tick, fails, line_at, at_line}
use Rattle.lua_meaning.specs.Locals.{cut, local_count, captured_locals}
use Rattle.lua_meaning.specs.Jobs.{Job, Apply, Look, Put, Turn, Round, Count, Each, From, Answer, Values, Raise, Stopped, CallThen, Resume, Yield, HostOf, Again, Resumes as ResumesOf}
use Rattle.lua_meaning.specs.Operators.{binary, unary}
use Rattle.lua_meaning.specs.Indexing.{look, put_at}
use Rattle.lua_meaning.specs.Nodes.{eval, open_body, by_truth}
use Rattle.lua_meaning.specs.Loops.{turn, round, count_next, count_turn, each_with}
use Rattle.lua_meaning.specs.Threads.{status_of, running_of, refuses, yield, yield_from}
use Rattle.lua_meaning.specs.Calls.{most_calls, body_ends, body_call, varargs_of, if_room, made_of, then_made, crossing, enter, enter_function, resume_by, answered, by_call, apply}
use Rattle.lua_meaning.specs.Programs.{work, jobs}
use Rattle.lua_meaning.specs.Laws.{IsAlone}
use Rattle.lua_meaning.proofs.Counts.{Plan, Ready, Fed, Runs, less, after_fed, tick_fed, charge_fed, fails_fed, cut_ready}
use Rattle.lua_meaning.proofs.NodeCounts.{if_few_fed, by_truth_fed, landed_fed, statements_fed, count_fed}
use Rattle.lua_meaning.proofs.OperatorCounts.{helped, node_fed, look_fed, put_at_fed, declare_all_fed, declare_by_fed}

module _ {H : Type 0} where
  pub with_call_ready : (l : Plan H) (u : ℕ) (call : CallOf) (s : Store H) → Ready l u s → Ready l u (with_call call s)
  with_call_ready l u call (store x b c rs) h = record { counts = h.counts; others = h.others }

  pub body_ends_fed : (l : Plan H) (u : ℕ) (call : CallOf) (o : Result H) → Fed l u o → Fed l u (body_ends call o)
  body_ends_fed l u call (Go vs s r) h = with_call_ready l u call s h
  body_ends_fed l u call (Halt (Returns vs) s r) h = with_call_ready l u call s h
  body_ends_fed l u call (Halt Breaks s r) h = with_call_ready l u call s h
  body_ends_fed l u call (Halt (Jumps x) s r) h = with_call_ready l u call s (less h)
  body_ends_fed l u call (Halt (Raises v) s r) h = h
  body_ends_fed l u call (Halt (Stops st) s r) h = h
  body_ends_fed l u call (Halt (Yields vs) s r) h = h
  body_ends_fed l u call (Halt OutOfFuel s r) h = h

  if_room_fed : (l : Plan H) (u : ℕ) (lines inner : List ℕ) (k : Run H) → Runs l u k → Runs l u (if_room lines inner k)
  if_room_fed l u lines inner k f s r h = by (nat_le most_calls (below_of s + length inner))
    where
      by : (t : Bool) → Fed l u ((if t then fails lines (codes "stack overflow") s else k s) r)
      by true = fails_fed l u lines (codes "stack overflow") s r h
      by false = f s r h

  made_of_fed : (l : Plan H) (u : ℕ) (a : After) (vs : List Value) (lines : List ℕ) → Runs l u (made_of {H = H} a vs lines)
  made_of_fed l u FirstThree vs lines = λ s r h. h
  made_of_fed l u OneText (value.Text x ∷ vs) lines = λ s r h. h
  made_of_fed l u OneText vs lines = fails_fed l u lines (codes "bad argument 1 to tostring")

  then_made_fed : (l : Plan H) (u : ℕ) (a : After) (lines : List ℕ) (call : CallOf) (o : Result H) → Fed l u o → Fed l u (then_made a lines call o)
  then_made_fed l u a lines call (Go vs s r) h = made_of_fed l u a vs lines (with_call call s) r (with_call_ready l u call s h)
  then_made_fed l u a lines call (Halt e s r) h = h

  refuses_fed : (l : Plan H) (u : ℕ) (wrapped : Bool) (lines text : List ℕ) → Runs l u (refuses {H = H} wrapped lines text)
  refuses_fed l u true lines text = fails_fed l u lines text
  refuses_fed l u false lines text = charge_fed l u (text_bytes text) _ (λ s r h. h)

  -- the main thread can't yield
  yield_fed : (l : Plan H) (u : ℕ) (vs : List Value) (lines : List ℕ) (s : Store H) (r : Resumptions H) → running_of s ≡ 0 → Ready l u s → Fed l u (yield vs lines s r)
  yield_fed l u vs lines s r main h = by (running_of s == 0) refl
    where
      by : (t : Bool) → (running_of s == 0) ≡ t → Fed l u (yield_from t (call_of s).across vs lines s r)
      by true e = fails_fed l u lines (codes "attempt to yield from outside a coroutine") s r h
      by false e = absurd (eqb-false _ _ e main)

-- `Enough n u` says that n is fuel enough for jobs where u instructions are used
module _ {H : Type 0} (host : HostOf H) (code : Code) (resumes : ResumesOf H) (l : Plan H)
    (alone : (threads : List ThreadOf) (running : ℕ) (h : H) → l.Others threads running h → IsAlone threads running)
    (calls : (u : ℕ) (b : BuiltinOf) (args : List Value) (lines : List ℕ) (s : Store H) → Ready l u s → Ready l u (with_state (host.call b args lines (state_of s)).1 s))
    (steps : (u : ℕ) (i : ℕ) (args : List Value) (lines : List ℕ) (s : Store H) → Ready l u s → Ready l u (with_state (host.step i args lines (state_of s)).1 s)) where
  module _ (again : Again H) (Enough : ℕ → Type 0) (more : (u : ℕ) → Enough u → Enough (u + 1)) (fed : (u : ℕ) → Enough u → (job : Job) → Runs l (u + 1) (again job)) where
    nodes : (u : ℕ) → Enough u → (t : Tree) → Runs l u (eval code again t)
    nodes = node_fed code again l Enough more fed

    truth_fed : (u : ℕ) (v : Value) (this that : Run H) → Runs l u this → Runs l u that → Runs l u (by_truth v this that)
    truth_fed = by_truth_fed code again l Enough more fed

    turn_fed : (u : ℕ) → Enough u → (test block : Tree) → Runs l u (turn code again test block)
    turn_fed u e test block s r h = after_fed l u _ _ (nodes u e test s r h) (λ vs. truth_fed u (first vs) _ _
        (λ s r h. after_fed l u _ _ (nodes u e block s r h) (λ d. tick_fed l u _ (fed u e (Turn test block))))
        (λ s r h. h))

    open_fed : (u : ℕ) → Enough u → (t : Tree) → Runs l u (open_body code again t)
    open_fed u e (syntax.Block i line stats) = tick_fed l u _ (λ s r h. landed_fed code again l Enough more fed (u + 1) (more u e) stats _ _ (statements_fed code again l Enough more fed (helped code again l Enough more fed) (u + 1) (more u e) stats _ (λ s r h. h) s r h))
    open_fed u e t = nodes u e t

    round_fed : (u : ℕ) → Enough u → (block test : Tree) → Runs l u (round code again block test)
    round_fed u e block test s r h = after_fed l u _ _ (open_fed u e block s r h) (λ d s' r h. after_fed l u _ _ (nodes u e test s' r h) (λ vs s'' r h.
        truth_fed u (first vs) (go []) (tick (again (Round block test))) (λ s r h. h) (tick_fed l u _ (fed u e (Round block test))) (cut (local_count s) s'') r (cut_ready l u (local_count s) s'' h)))

    count_next_fed : (u : ℕ) → Enough u → (fitting : Bool) (v : ℕ) (block : Tree) (next limit step : ℤ) → Runs l u (count_next code again fitting v block next limit step)
    count_next_fed u e true v block next limit step = count_fed code again l Enough more fed (helped code again l Enough more fed) u e v block next limit step
    count_next_fed u e false v block next limit step = λ s r h. h

    count_turn_fed : (u : ℕ) → Enough u → (v : ℕ) (block : Tree) (at limit step : ℤ) → Runs l u (count_turn code again v block at limit step)
    count_turn_fed u e v block at limit step s r h = after_fed l u _ _
        (declare_by_fed l u (code.is_captured v) v (value.Int at) _ (nodes u e block) s r h)
        (λ d s' r h. count_next_fed u e (fits (at +ℤ step)) v block (at +ℤ step) limit step (cut (local_count s) s') r (cut_ready l u (local_count s) s' h))

    each_with_fed : (u : ℕ) → Enough u → (control : Value) (v n : ℕ) (block : Tree) (f state : Value) (line : ℕ) (xs : List Value) → Runs l u (each_with code again control v n block f state line xs)
    each_with_fed u e value.Nil v n block f state line xs = λ s r h. h
    each_with_fed u e control v n block f state line xs = λ s r h. after_fed l u _ _
        (declare_all_fed code l u v n xs _ (nodes u e block) s r h)
        (λ d s' r h. tick_fed l u _ (fed u e (Each v n block f state control line)) (cut (local_count s) s') r (cut_ready l u (local_count s) s' h))

    body_fed : (u : ℕ) → Enough u → (t : Tree) (c : ClosureOf) (args : List Value) (inner : List ℕ) → Runs l u (enter_function host code again resumes t c args inner)
    body_fed u e (syntax.Function n line params vararg block) c args inner s r h = body_ends_fed l u (call_of s) _
        (declare_all_fed code l u (code.first_variable n) (length params) args _ (nodes u e block)
        (with_call (body_call (captured_locals (code.captured n) c.cells) (varargs_of vararg (length params) args) inner (call_of s).across) s) r
        (with_call_ready l u _ s h))
    body_fed u e t c args inner s r h = h

    enter_fed : (u : ℕ) → Enough u → (c : Option ClosureOf) (args : List Value) (inner : List ℕ) → Runs l u (enter host code again resumes c args inner)
    enter_fed u e None args inner = λ s r h. h
    enter_fed u e (Some c) args inner = body_fed u e (code.function c.function) c args inner

    resume_fed : (u : ℕ) (i : ℕ) (args : List Value) (wrapped : Bool) (lines inner : List ℕ) (st : CoStatus) (s : Store H) (r : Resumptions H) → (st ≡ status.Suspended → ⊥) → Ready l u s → Fed l u (resume_by host code again resumes st i args wrapped lines inner s r)
    resume_fed u i args wrapped lines inner status.Suspended s r other h = absurd (other refl)
    resume_fed u i args wrapped lines inner status.Dead s r other h = refuses_fed l u wrapped lines (codes "cannot resume dead coroutine") s r h
    resume_fed u i args wrapped lines inner status.Running s r other h = refuses_fed l u wrapped lines (codes "cannot resume non-suspended coroutine") s r h
    resume_fed u i args wrapped lines inner status.Normal s r other h = refuses_fed l u wrapped lines (codes "cannot resume non-suspended coroutine") s r h

    is_alone : (u : ℕ) (s : Store H) → Ready l u s → IsAlone (state_of s).threads (state_of s).running
    is_alone u s h = alone _ _ _ h.others

    crossing_ready : (u : ℕ) (s : Store H) → Ready l u s → Ready l u (crossing s)
    crossing_ready u (store x b c rs) h = record { counts = h.counts; others = h.others }

    -- an answer stands after the instruction of its call
    answered_fed : (u : ℕ) → Enough u → (a : Answer) (lines inner : List ℕ) → Runs l (u + 1) (answered host code again resumes a lines inner)
    answered_fed u e (Values vs) lines inner = if_few_fed code again l Enough more fed (u + 1) lines vs (go vs) (λ s r h. h)
    answered_fed u e (Raise v) lines inner = λ s r h. h
    answered_fed u e (Stopped st) lines inner = λ s r h. h
    answered_fed u e (CallThen f args a) lines inner = λ s r h. then_made_fed l (u + 1) a lines (call_of s) _ (fed u e (Apply f args (line_at lines ∷ inner) (line_at lines ∷ inner)) (crossing s) r (crossing_ready (u + 1) s h))
    answered_fed u e (Resume i args wrapped) lines inner = λ s r h. resume_fed (u + 1) i args wrapped lines inner (status_of i s) s r ((is_alone (u + 1) s h).no_other i) h
    answered_fed u e (Yield vs) lines inner = λ s r h. yield_fed l (u + 1) vs lines s r (is_alone (u + 1) s h).main h

    by_call_fed : (u : ℕ) → Enough u → (f v : Value) (args : List Value) (lines inner : List ℕ) → Runs l u (by_call host code again resumes f v args lines inner)
    by_call_fed u e value.Nil v args lines inner = fails_fed l u lines _
    by_call_fed u e f v args lines inner = tick_fed l u _ (if_few_fed code again l Enough more fed (u + 1) lines (v ∷ args) _ (fed u e (Apply f (v ∷ args) lines inner)))

    apply_fed : (u : ℕ) → Enough u → (f : Value) (args : List Value) (lines inner : List ℕ) → Runs l u (apply host code again resumes f args lines inner)
    apply_fed u e (value.Closure i) args lines inner = if_room_fed l u lines inner _ (λ s. enter_fed u e (slice_get (heap_of s).closures i) args inner s)
    apply_fed u e (value.Builtin b) args lines inner = tick_fed l u _ (if_room_fed l (u + 1) lines inner _ (λ s r h. answered_fed u e (host.call b args lines (state_of s)).0 lines inner _ r (calls (u + 1) b args lines s h)))
    apply_fed u e (value.Iter i) args lines inner = tick_fed l u _ (if_room_fed l (u + 1) lines inner _ (λ s r h. answered_fed u e (host.step i args lines (state_of s)).0 lines inner _ r (steps (u + 1) i args lines s h)))
    apply_fed u e v args lines inner = λ s. by_call_fed u e (metamethod (heap_of s) v (codes "__call")) v args lines inner s

    work_fed : (u : ℕ) → Enough u → (job : Job) → Runs l u (work host code again resumes job)
    work_fed u e (Apply f args lines inner) = apply_fed u e f args lines inner
    work_fed u e (Look o key lines) = look_fed code again l Enough more fed u e o key lines
    work_fed u e (Put o key x lines) = put_at_fed code again l Enough more fed u e o key x lines
    work_fed u e (Turn test block) = turn_fed u e test block
    work_fed u e (Round block test) = round_fed u e block test
    work_fed u e (Count v block at limit step) = count_turn_fed u e v block at limit step
    work_fed u e (Each v n block f state control line) = λ s r h. after_fed l u _ _ (apply_fed u e f (state ∷ control ∷ []) (at_line line s) (at_line line s) s r h) (λ xs. each_with_fed u e (first xs) v n block f state line xs)
    work_fed u e (From stats part outer) = λ s r h. landed_fed code again l Enough more fed u e stats outer _ (statements_fed code again l Enough more fed (helped code again l Enough more fed) u e part (go []) (λ s r h. h) s r h)

  module _ (Enough : ℕ → ℕ → Type 0)
      (more : (n u : ℕ) → Enough n u → Enough n (u + 1))
      (lower : (n u : ℕ) → Enough (suc n) u → Enough n (u + 1))
      (short : (u : ℕ) → Enough 0 u → (s : Store H) → Ready l (u + 1) s → l.Short) where
    -- what stands below n jobs
    below_fed : (n : ℕ) (u : ℕ) → Enough n u → (job : Job) → Runs l (u + 1) (jobs host code resumes n job)
    unfolding jobs
    below_fed zero u e job = λ s r h. (short u e s h, h)
    below_fed (suc n) u e job = work_fed (jobs host code resumes n) (Enough n) (more n) (below_fed n) (u + 1) (lower n u e) job

    pub jobs_fed : (n u : ℕ) → Enough n u → (job : Job) → Runs l u (jobs host code resumes (suc n) job)
    unfolding jobs
    jobs_fed n = work_fed (jobs host code resumes n) (Enough n) (more n) (below_fed n)

    pub nodes_fed : (n u : ℕ) → Enough n u → (t : Tree) → Runs l u (eval code (jobs host code resumes n) t)
    nodes_fed n = nodes (jobs host code resumes n) (Enough n) (more n) (below_fed n)

    pub operators_fed : (n u : ℕ) → Enough n u → (op : BinOp) (a b : Value) (lines : List ℕ) → Runs l u (binary (jobs host code resumes n) op a b lines)
    operators_fed n u e op a b lines = (helped code (jobs host code resumes n) l (Enough n) (more n) (below_fed n)).binaries u e op a b lines

    pub unary_operators_fed : (n u : ℕ) → Enough n u → (op : UnOp) (a : Value) (lines : List ℕ) → Runs l u (unary (jobs host code resumes n) op a lines)
    unary_operators_fed n u e op a lines = (helped code (jobs host code resumes n) l (Enough n) (more n) (below_fed n)).unaries u e op a lines

    pub looks_fed : (n u : ℕ) → Enough n u → (o key : Value) (lines : List ℕ) → Runs l u (look (jobs host code resumes n) o key lines)
    looks_fed n = look_fed code (jobs host code resumes n) l (Enough n) (more n) (below_fed n)

    pub puts_fed : (n u : ℕ) → Enough n u → (o key x : Value) (lines : List ℕ) → Runs l u (put_at (jobs host code resumes n) o key x lines)
    puts_fed n = put_at_fed code (jobs host code resumes n) l (Enough n) (more n) (below_fed n)
