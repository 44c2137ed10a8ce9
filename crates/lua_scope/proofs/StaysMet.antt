-- What a walk has met stays met when it goes on.
use Rattle.std.specs.Prelude.{◌≡◌, ℕ, Bool, true, false, List, [], ◌∷◌, Some, if◌then◌else◌}
use Rattle.std.proofs.Common.{ap}
use Rattle.lua_ast.specs.Tree.{Tree, Block, Local, Assign, CallStat, Do, While, Repeat, If, NumFor, GenFor, LocalFunction, Return, Break, Goto, Label, Const, Vararg, Function, Name, Index, Call, Method, Binary, Logic, Unary, Paren, Table, Missing, Trees, none, snoc, Cases, no_case, case, Maybe, absent, present, Fields, no_field, item, named, keyed}
use Rattle.lua_scope.specs.declared.occurrence.Occurrence.{Occurrence}
use Rattle.lua_scope.specs.declared.occurrence.Occurrence.TheVariants as occurrence
use Rattle.lua_scope.specs.Labels.{has_label}
use Rattle.lua_scope.specs.Walk.{walked, list_walked, stats_walked, body_walked, cases_walked, maybe_walked, fields_walked}
use Rattle.lua_scope.specs.Meets.{Meets}

-- e stands somewhere in the text
pub record Met (e : Occurrence) (text : List Occurrence) : Type 0 where
  pub before : List Occurrence
  pub meets : Meets text before e

pub met_now : {e : Occurrence} {h : List Occurrence} (x : Occurrence) → Some x ≡ Some e → Met e (x ∷ h)
met_now {e = e} {h = h} x is =
    let same : e ≡ x = cc
    in record { before = h; meets = record { after = []; joined = ap (λ (y : Occurrence). y ∷ h) same } }

pub later : {e : Occurrence} {h : List Occurrence} {x : Occurrence} → Met e h → Met e (x ∷ h)
later {x = x} m = record { before = m.before; meets = record { after = x ∷ m.meets.after; joined = ap (λ (k : List Occurrence). x ∷ k) m.meets.joined } }

stays_labelled : {e : Occurrence} {h : List Occurrence} (l : ℕ) (again : Bool) → Met e h → Met e (if again then occurrence.SecondLabel l ∷ h else h)
stays_labelled l true m = later m
stays_labelled l false m = m

-- what is met behind the tree of a statement is met behind the statement: a label's tree adds nothing
pub met_statement : {e : Occurrence} (h : List Occurrence) (t : Tree) (ts : Trees) → Met e (walked (stats_walked h ts) t) → Met e (stats_walked h (snoc ts t))
unfolding walked
met_statement h (Label n l label) ts m = stays_labelled l (has_label label ts) m
met_statement h t ts m = m

mutual
  unfolding walked

  pub stays : {e : Occurrence} {h : List Occurrence} (t : Tree) → Met e h → Met e (walked h t)
  stays (Block n l stats) m = later (stays_stats stats (later m))
  stays (Local n l names exps) m = later (stays_list exps (later m))
  stays (Assign n l targets exps) m = stays_list exps (stays_list targets m)
  stays (CallStat n l call) m = stays call m
  stays (Do n l block) m = stays block m
  stays (While n l test block) m = later (stays block (later (stays test m)))
  stays (Repeat n l block test) m = later (later (stays test (stays_body true block (later m))))
  stays (If n l cases otherwise) m = stays_maybe otherwise (stays_cases cases m)
  stays (NumFor n l name first limit step block) m = later (stays block (later (later (stays_maybe step (stays limit (stays first (later m)))))))
  stays (GenFor n l names exps block) m = later (stays block (later (later (stays_list exps (later m)))))
  stays (LocalFunction n l name function) m = stays function (later (later m))
  stays (Return n l exps) m = stays_list exps m
  stays (Break n l) m = later m
  stays (Goto n l label) m = later m
  stays (Label n l label) m = m
  stays (Const n l value) m = m
  stays (Vararg n l) m = later m
  stays (Function n l params vararg block) m = later (stays block (later (later (later m))))
  stays (Name n l text) m = later m
  stays (Index n l object key) m = stays key (stays object m)
  stays (Call n l function args) m = stays_list args (stays function m)
  stays (Method n l object name args) m = stays_list args (stays object m)
  stays (Binary n l op left right) m = stays right (stays left m)
  stays (Logic n l op left right) m = stays right (stays left m)
  stays (Unary n l op operand) m = stays operand m
  stays (Paren n l inner) m = stays inner m
  stays (Table n l fields) m = stays_fields fields m
  stays Missing m = m

  pub stays_list : {e : Occurrence} {h : List Occurrence} (ts : Trees) → Met e h → Met e (list_walked h ts)
  stays_list none m = m
  stays_list (snoc ts t) m = stays t (stays_list ts m)

  pub stays_stats : {e : Occurrence} {h : List Occurrence} (ts : Trees) → Met e h → Met e (stats_walked h ts)
  stays_stats none m = m
  stays_stats {h = h} (snoc ts t) m = met_statement h t ts (stays t (stays_stats ts m))

  pub stays_body : {e : Occurrence} {h : List Occurrence} (repeats : Bool) (t : Tree) → Met e h → Met e (body_walked repeats h t)
  stays_body repeats (Block n l stats) m = stays_stats stats (later m)
  stays_body repeats t m = later m

  pub stays_cases : {e : Occurrence} {h : List Occurrence} (cs : Cases) → Met e h → Met e (cases_walked h cs)
  stays_cases no_case m = m
  stays_cases (case cs test block) m = stays block (stays test (stays_cases cs m))

  pub stays_maybe : {e : Occurrence} {h : List Occurrence} (o : Maybe) → Met e h → Met e (maybe_walked h o)
  stays_maybe absent m = m
  stays_maybe (present t) m = stays t m

  pub stays_fields : {e : Occurrence} {h : List Occurrence} (fs : Fields) → Met e h → Met e (fields_walked h fs)
  stays_fields no_field m = m
  stays_fields (item fs value) m = stays value (stays_fields fs m)
  stays_fields (named fs name value) m = stays value (stays_fields fs m)
  stays_fields (keyed fs key value) m = stays value (stays key (stays_fields fs m))
