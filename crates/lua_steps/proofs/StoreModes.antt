-- Assignments and table constructors arrive where they mean.
use Rattle.std.proofs.Common.{◌≡◌, ◌∙◌, ℕ, ◌+◌, List, [], ◌∷◌, ◌++◌, drop, Bool, true, false, Option, Some, None, slice_get, option_map, refl, ap, arith}
use Rattle.lua_ast.specs.declared.node.Node.{Node}
use Rattle.lua_ast.specs.declared.node.Node.TheVariants as node
use Rattle.lua_ast.specs.declared.node.Field.{Field}
use Rattle.lua_ast.specs.declared.node.Field.TheVariants as field
use Rattle.lua_ast.specs.declared.node.LinedNode.{LinedNode}
use Rattle.lua_ast.specs.Decode.{node_tree}
use Rattle.lua_meaning.specs.declared.value.Value.{Value}
use Rattle.lua_meaning.specs.declared.value.Value.TheVariants as value
use Rattle.lua_meaning.specs.declared.variable.Target.{Target}
use Rattle.lua_meaning.specs.declared.variable.Target.TheVariants as target
use Rattle.lua_meaning.specs.Values.{first}
use Rattle.lua_meaning.specs.Heap.{set_cell}
use Rattle.lua_meaning.specs.Store.{Resumptions}
use Rattle.lua_meaning.specs.Runs.{Run, go, after}
use Rattle.lua_meaning.specs.Locals.{with_held, declare_all}
use Rattle.lua_meaning.specs.Jobs.{Again}
use Rattle.lua_meaning.specs.Nodes.{target_of, name_target as target_named, put_items}
use Rattle.lua_coroutines.specs.declared.frame.Frame.TheVariants as frame
use Rattle.lua_coroutines.specs.declared.frame.AssignFrame.TheVariants as assign
use Rattle.lua_coroutines.specs.declared.frame.TableFrame.TheVariants as table
use Rattle.lua_steps.specs.declared.mode.Mode.TheVariants as mode
use Rattle.lua_steps.specs.Parts.{part, line_number, list_at, name_count_at, targets_at, key_at, fields_at, no_field_left, begin_all, targets_from, items_by}
use Rattle.lua_steps.specs.Frames.{jobs_at, runs, store_at, values_for, fields_then}
use Rattle.lua_steps.specs.Starts.{IsNode}
use Rattle.lua_steps.specs.Configuration.{Configuration, with_heap, with_locals, with_frame, with_tick}
use Rattle.lua_steps.specs.Effects.{declared_all, putting}
use Rattle.lua_steps.specs.Machine.{name_target, lines_at, storing, values_begun, field_begun, items_of, target_begun, target_next, step}
use Rattle.lua_steps.specs.Keeping.{AreTrees}
use Rattle.lua_steps.proofs.Lists.{expressions_are}
use Rattle.lua_steps.proofs.NodeTrees.{tree_missing, next_there, none_there}
use Rattle.lua_steps.proofs.Arriving.{Setting, as_it_is, as_it_is_passes, as_store, Runs, Arrives, turned, settles, pushes, ticks}
use Rattle.lua_steps.proofs.Storing.{declared_in, declares, says_all, puts, puts_all}

module _ {H : Type 0} (c : Setting H) where
  abbrev jobs_of : ℕ → ℕ → Again H
  jobs_of m j = jobs_at c.host c.code c.nodes m j

  pub arrives_declare : (statement : ℕ) (vs : List Value) (x : Configuration) → Arrives c (mode.Declare statement vs, x) → Arrives c (step c.nodes c.code (mode.Declare statement vs) x)
  arrives_declare statement vs x h =
      declares c x (declared_all c.code (c.code.first_variable statement) (name_count_at c.nodes statement) vs x.heap x.call.locals) (declare_all c.code (c.code.first_variable statement) (name_count_at c.nodes statement) vs) as_it_is (λ m j. go []) (λ z. (mode.Give [], z))
      as_it_is_passes (says_all c (name_count_at c.nodes statement) (c.code.first_variable statement) vs x) h
      (λ h. settles c h (mode.Give []) (declared_in (declared_all c.code (c.code.first_variable statement) (name_count_at c.nodes statement) vs x.heap x.call.locals) x) (omega arith) (omega arith) (λ m j r. refl))

  -- the first value of an assignment
  values_arrive : (statement : ℕ) (ts : List Target) (x : Configuration) (o : Option ℕ) → slice_get (list_at c.nodes statement) 0 ≡ o →
      Runs c 1 0 x.heap.used x.frames (λ m j r. values_for c.host c.code c.nodes m j statement ts (as_store c x) r) → Arrives c (values_begun c.nodes statement ts o x)
  values_arrive statement ts x None e h = pushes c h (frame.Assign (assign.Values statement 0 ts [])) (mode.Give []) x refl (omega arith) (omega arith)
      (λ m j r. expressions_are c.code (jobs_of m j) (part c.nodes) (list_at c.nodes statement) (store_at c.host c.code c.nodes m j statement ts) (as_store c x) r ∙ (let none : list_at c.nodes statement ≡ [] = none_there (list_at c.nodes statement) 0 e in rw none refl))
  values_arrive statement ts x (Some i) e h = pushes c h (frame.Assign (assign.Values statement 1 ts [])) (mode.Begin i) x refl (omega arith) (omega arith)
      (λ m j r. expressions_are c.code (jobs_of m j) (part c.nodes) (list_at c.nodes statement) (store_at c.host c.code c.nodes m j statement ts) (as_store c x) r
      ∙ ap (λ is. begin_all c.code (jobs_of m j) (part c.nodes) [] is (store_at c.host c.code c.nodes m j statement ts) (as_store c x) r) (next_there (list_at c.nodes statement) 0 i e))

  -- what follows a target
  abbrev behind : (statement next : ℕ) → List Target → (m j : ℕ) → Target → Run H
  behind statement next ts m j t = targets_from c.code (jobs_of m j) (part c.nodes) (ts ++ t ∷ []) (drop (next + 1) (targets_at c.nodes statement)) (values_for c.host c.code c.nodes m j statement)

  named_is : (v : Option ℕ) (name : List ℕ) (x : Configuration) → target_named v name (as_store c x) ≡ name_target v name x.call.locals
  named_is None name x = refl
  named_is (Some v) name x = refl

  target_node : (statement next i l : ℕ) (ts : List Target) (x : Configuration) (n : Node) → IsNode c.nodes i n →
      Runs c 1 0 x.heap.used x.frames (λ m j r. target_of c.code (jobs_of m j) (node_tree (part c.nodes) i l n) (behind statement next ts m j) (as_store c x) r) → Arrives c (target_begun c.nodes c.code statement next i ts (Some n) x)
  unfolding target_of
  target_node statement next i l ts x (node.Name name) there h =
      ticks c x as_it_is (λ m j s. behind statement next ts m j (target_named (c.code.variable i) name s) s) (λ y. (mode.Targets statement (next + 1) (ts ++ name_target (c.code.variable i) name y.call.locals ∷ []), y)) as_it_is_passes h
      (λ h. settles c h (mode.Targets statement (next + 1) (ts ++ name_target (c.code.variable i) name x.call.locals ∷ [])) (with_tick x) (omega arith) (omega arith) (λ m j r. ap (λ t. behind statement next ts m j t (as_store c (with_tick x)) r) (named_is (c.code.variable i) name (with_tick x))))
  target_node statement next i l ts x (node.Index object key) there h =
      ticks c x as_it_is (λ m j s r. after (runs c.host c.code c.nodes m j object s r) (λ o s r. after (runs c.host c.code c.nodes m j key s r) (λ k. behind statement next ts m j (target.Entry (first o) (first k))))) (λ y. (mode.Begin object, with_frame (frame.Assign (assign.Object statement (next + 1) i ts)) y)) as_it_is_passes h
      (λ h. pushes c h (frame.Assign (assign.Object statement (next + 1) i ts)) (mode.Begin object) (with_tick x) refl (omega arith) (omega arith) (λ m j r. (let part_is : key_at c.nodes i ≡ key = rw there.there refl in rw part_is refl)))
  target_node statement next i l ts x n there h = settles c h (mode.Targets statement (next + 1) (ts ++ target.Nowhere ∷ [])) x (omega arith) (omega arith) (λ m j r. refl)

  target_at : (trees : AreTrees c.nodes) (statement next i : ℕ) (ts : List Target) (x : Configuration) (o : Option LinedNode) → slice_get c.nodes i ≡ o →
      Runs c 1 0 x.heap.used x.frames (λ m j r. target_of c.code (jobs_of m j) (part c.nodes i) (behind statement next ts m j) (as_store c x) r) → Arrives c (target_begun c.nodes c.code statement next i ts (option_map (λ l. l.node) o) x)
  unfolding target_of
  target_at trees statement next i ts x None e h = settles c h (mode.Targets statement (next + 1) (ts ++ target.Nowhere ∷ [])) x (omega arith) (omega arith) (λ m j r. ap (λ t. target_of c.code (jobs_of m j) t (behind statement next ts m j) (as_store c x) r) (tree_missing c.nodes i e))
  target_at trees statement next i ts x (Some l) e h = target_node statement next i l.line ts x l.node (record { line = l.line; there = e; tree = trees i l e })
      (turned c h (λ m j r. target_of c.code (jobs_of m j) (node_tree (part c.nodes) i l.line l.node) (behind statement next ts m j) (as_store c x) r) (λ m j r. ap (λ t. target_of c.code (jobs_of m j) t (behind statement next ts m j) (as_store c x) r) (trees i l e)))

  targets_arrive : (trees : AreTrees c.nodes) (statement next : ℕ) (ts : List Target) (x : Configuration) (o : Option ℕ) → slice_get (targets_at c.nodes statement) next ≡ o → Arrives c (mode.Targets statement next ts, x) → Arrives c (target_next c.nodes c.code statement next ts o x)
  targets_arrive trees statement next ts x None e h = values_arrive statement ts x (slice_get (list_at c.nodes statement) 0) refl
      (turned c h (λ m j r. values_for c.host c.code c.nodes m j statement ts (as_store c x) r) (λ m j r. rw (none_there (targets_at c.nodes statement) next e) refl))
  targets_arrive trees statement next ts x (Some i) e h = target_at trees statement next i ts x (slice_get c.nodes i) refl
      (turned c h (λ m j r. target_of c.code (jobs_of m j) (part c.nodes i) (behind statement next ts m j) (as_store c x) r) (λ m j r. rw (next_there (targets_at c.nodes statement) next i e) refl))

  pub arrives_targets : (trees : AreTrees c.nodes) (statement next : ℕ) (ts : List Target) (x : Configuration) → Arrives c (mode.Targets statement next ts, x) → Arrives c (step c.nodes c.code (mode.Targets statement next ts) x)
  arrives_targets trees statement next ts x h = targets_arrive trees statement next ts x (slice_get (targets_at c.nodes statement) next) refl h

  pub arrives_stores : (statement : ℕ) (ts : List Target) (xs : List Value) (x : Configuration) → Arrives c (mode.Stores statement ts xs, x) → Arrives c (storing c.nodes statement ts xs x)
  arrives_stores statement [] xs x h = settles c h (mode.Give []) x (omega arith) (omega arith) (λ m j r. refl)
  arrives_stores statement (target.Local v ∷ ts) xs x h = settles c h (mode.Stores statement ts (drop 1 xs)) (with_locals (with_held x.call.locals v (first xs)) x) (omega arith) (omega arith) (λ m j r. refl)
  arrives_stores statement (target.Cell i ∷ ts) xs x h = settles c h (mode.Stores statement ts (drop 1 xs)) (with_heap (set_cell x.heap i (first xs)) x) (omega arith) (omega arith) (λ m j r. refl)
  arrives_stores statement (target.Global name ∷ ts) xs x h =
      puts c x (lines_at c.nodes statement x.call) 0 (value.Text name) (first xs) (λ m j o. after o (λ d. store_at c.host c.code c.nodes m j statement ts (drop 1 xs))) (λ m j. go []) (λ p. putting p (mode.Stores statement ts (drop 1 xs)) x)
      (record { raises = λ m j v s r. refl; stops = λ m j st s r. refl }) (λ b h. refl) (λ k runs. settles c runs (mode.Stores statement ts (drop 1 xs)) (with_heap k x) (omega arith) (omega arith) (λ m j r. refl)) h
  arrives_stores statement (target.Entry o key ∷ ts) xs x h = pushes c h (frame.Assign (assign.Stores statement ts (drop 1 xs))) (mode.Put statement o key (first xs)) x refl (omega arith) (omega arith) (λ m j r. refl)
  arrives_stores statement (target.Nowhere ∷ ts) xs x h = settles c h (mode.Stores statement ts (drop 1 xs)) x (omega arith) (omega arith) (λ m j r. refl)

  fields_arrive : (constructor next t count : ℕ) (x : Configuration) (o : Option Field) → slice_get (fields_at c.nodes constructor) next ≡ o → Arrives c (mode.Fields constructor next t count, x) → Arrives c (field_begun c.nodes constructor next t count o x)
  fields_arrive constructor next t count x None e h = settles c h (mode.Give (value.Table t ∷ [])) x (omega arith) (omega arith) (λ m j r. rw (none_there (fields_at c.nodes constructor) next e) refl)
  fields_arrive constructor next t count x (Some (field.Item v)) e h = pushes c h (frame.Table (table.Item constructor (next + 1) t count)) (mode.Begin v) x refl (omega arith) (omega arith) (λ m j r. rw (next_there (fields_at c.nodes constructor) next (field.Item v) e) refl)
  fields_arrive constructor next t count x (Some (field.Named name v)) e h = pushes c h (frame.Table (table.Entry constructor (next + 1) t count (value.Text name))) (mode.Begin v) x refl (omega arith) (omega arith) (λ m j r. rw (next_there (fields_at c.nodes constructor) next (field.Named name v) e) refl)
  fields_arrive constructor next t count x (Some (field.Keyed key v)) e h = pushes c h (frame.Table (table.Key constructor (next + 1) t count v)) (mode.Begin key) x refl (omega arith) (omega arith) (λ m j r. rw (next_there (fields_at c.nodes constructor) next (field.Keyed key v) e) refl)

  pub arrives_fields : (constructor next t count : ℕ) (x : Configuration) → Arrives c (mode.Fields constructor next t count, x) → Arrives c (step c.nodes c.code (mode.Fields constructor next t count) x)
  arrives_fields constructor next t count x h = fields_arrive constructor next t count x (slice_get (fields_at c.nodes constructor) next) refl h

  items_are : (again : Again H) (is_last : Bool) (t n l : ℕ) (k : ℕ → Run H) (vs : List Value) (x : Configuration) (r : Resumptions H) → items_by c.code again (part c.nodes) is_last t n l k vs (as_store c x) r ≡ put_items (l ∷ x.call.lines) t n (items_of c.nodes is_last vs) k (as_store c x) r
  items_are again true t n l k vs x r = refl
  items_are again false t n l k vs x r = refl

  pub arrives_items : (constructor next t count : ℕ) (vs : List Value) (x : Configuration) → Arrives c (mode.Items constructor next t count vs, x) → Arrives c (step c.nodes c.code (mode.Items constructor next t count vs) x)
  arrives_items constructor next t count vs x h =
      puts_all c (items_of c.nodes (no_field_left (drop next (fields_at c.nodes constructor))) vs) count x (lines_at c.nodes constructor x.call) constructor next t
      (turned c h (λ m j r. put_items (lines_at c.nodes constructor x.call) t count (items_of c.nodes (no_field_left (drop next (fields_at c.nodes constructor))) vs) (λ d. fields_then c.host c.code c.nodes m j constructor next t d) (as_store c x) r)
      (λ m j r. items_are (jobs_of m j) (no_field_left (drop next (fields_at c.nodes constructor))) t count (line_number c.nodes constructor) (λ d. fields_then c.host c.code c.nodes m j constructor next t d) vs x r))

  pub arrives_entry : (constructor next t count : ℕ) (key v : Value) (x : Configuration) → Arrives c (mode.Entry constructor next t count key v, x) → Arrives c (step c.nodes c.code (mode.Entry constructor next t count key v) x)
  arrives_entry constructor next t count key v x h =
      puts c x (lines_at c.nodes constructor x.call) t key v as_it_is (λ m j. fields_then c.host c.code c.nodes m j constructor next t count) (λ p. putting p (mode.Fields constructor next t count) x) as_it_is_passes (λ b h. refl)
      (λ k runs. settles c runs (mode.Fields constructor next t count) (with_heap k x) (omega arith) (omega arith) (λ m j r. refl)) h
