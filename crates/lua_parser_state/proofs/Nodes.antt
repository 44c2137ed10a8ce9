-- What was begun stays the same where nodes are added.
use Rattle.std.specs.Prelude.{slice_get, option_map, ◌≡◌, ℕ, suc, ◌<◌, ◌≤◌, List, [], ◌∷◌, ◌++◌, map, length, Option, Some, None, Result, Ok, Err, IfOk, OnErr, MatchOption, IfNone, refl}
use Rattle.std.proofs.Common.{ap, sym, subst, ◌∙◌, arith, length-append}
use Rattle.lua_ast.specs.declared.node.LinedNode.{LinedNode}
use Rattle.lua_ast.specs.Tree.{line_of}
use Rattle.lua_ast.specs.Decode.{node_at, line_at, node_tree, no_number, list_of, cases_of, fields_of, maybe_of, AllBelow, MaybeBelow}
use Rattle.lua_ast.specs.declared.node.Node.{Node}
use Rattle.lua_ast.proofs.Decoding.{line_of_tree}
use Rattle.lua_ast.proofs.SameParts.{same_list_of, same_cases_of, same_fields_of, same_maybe_of}
use Rattle.lua_ast.proofs.PlacesBelow.{below_more, fields_below_more}
use Rattle.lua_grammar.specs.Pushdown as pushdown
use Rattle.lua_parser_state.specs.declared.frame.Begun.{Begun}
use Rattle.lua_parser_state.specs.declared.frame.Callee.{Callee}
use Rattle.lua_parser_state.specs.declared.frame.Callee.TheVariants as callee
use Rattle.lua_parser_state.specs.declared.frame.Purpose.{Purpose}
use Rattle.lua_parser_state.specs.declared.frame.Purpose.TheVariants as purpose
use Rattle.lua_parser_state.specs.declared.frame.Head.{Head}
use Rattle.lua_parser_state.specs.declared.frame.Head.TheVariants as head
use Rattle.lua_parser_state.specs.declared.frame.BegunTable.{BegunTable}
use Rattle.lua_parser_state.specs.declared.frame.OpenStatement.{OpenStatement}
use Rattle.lua_parser_state.specs.declared.frame.OpenStatement.TheVariants as statement
use Rattle.lua_parser_state.specs.declared.frame.OpenHeader.{OpenHeader}
use Rattle.lua_parser_state.specs.declared.frame.OpenHeader.TheVariants as header
use Rattle.lua_parser_state.specs.declared.frame.OpenBlock.{OpenBlock}
use Rattle.lua_parser_state.specs.declared.frame.OpenBlock.TheVariants as block
use Rattle.lua_parser_state.specs.declared.frame.Frame.{Frame}
use Rattle.lua_parser_state.specs.declared.frame.Frame.TheVariants as frame
use Rattle.lua_parser_state.specs.Depth.{depth_of, lift_of}
use Rattle.lua_parser_state.specs.Shown.{Held, tree_in, operator_in, given, begun_in, callee_in, purpose_in, head_in, statement_in, header_in, block_in, frame_in, stack_in, BegunBelow, CalleeBelow, PurposeBelow, HeadBelow, CasesBelow, TableBelow, StatementBelow, HeaderBelow, BlockBelow, FrameBelow, FramesBelow}

-- Ms has the trees of ns, and maybe more.
module _ (ns ms : List LinedNode) (same : (i : ℕ) → i < length ns → tree_in ms i ≡ tree_in ns i) where
  n : ℕ
  n = length ns

  lists : (is : List ℕ) → AllBelow (length ns) is → list_of (tree_in ms) is ≡ list_of (tree_in ns) is
  lists is b = same_list_of (tree_in ms) (tree_in ns) (length ns) same is b

  cases : (ts bs : List ℕ) → CasesBelow (length ns) ts bs → cases_of (tree_in ms) ts bs ≡ cases_of (tree_in ns) ts bs
  cases ts bs b = same_cases_of (tree_in ms) (tree_in ns) (length ns) same ts bs b.0 b.1

  pub same_begun : (b : Begun) → BegunBelow (length ns) b → begun_in ms b ≡ begun_in ns b
  same_begun b h = ap (λ ts. let r : pushdown.Begun = record { line = b.line; stats = ts } in r) (lists b.stats h)

  pub same_callee : (c : Callee) → CalleeBelow (length ns) c → callee_in ms c ≡ callee_in ns c
  same_callee (callee.Function f) h = ap pushdown.called (same f h)
  same_callee (callee.Method o name) h = ap (λ t. pushdown.method_called t name) (same o h)

  pub same_purpose : (u : Purpose) → PurposeBelow (length ns) u → purpose_in ms u ≡ purpose_in ns u
  same_purpose (purpose.Value p) h = refl
  same_purpose (purpose.Argument p c) h = ap (pushdown.as_argument p) (same_callee c h)

  pub same_head : (h : Head) → HeadBelow (length ns) h → head_in ms h ≡ head_in ns h
  same_head (head.Anonymous p l) h = refl
  same_head (head.Assigned l t m b) h = ap (λ u. pushdown.assigned l u (given m) (begun_in ms b)) (same t h.0) ∙ ap (pushdown.assigned l (tree_in ns t) (given m)) (same_begun b h.1)
  same_head (head.Local l own name b) h = ap (pushdown.local_named l own name) (same_begun b h)

  two : {A B C : Type 0} (k : A → B → C) {a c : A} {b d : B} → a ≡ c → b ≡ d → k a b ≡ k c d
  two k {a} {c} {b} {d} p q = ap (λ x. k x b) p ∙ ap (k c) q

  three : {A B C D : Type 0} (k : A → B → C → D) {a c : A} {b d : B} {e f : C} → a ≡ c → b ≡ d → e ≡ f → k a b e ≡ k c d f
  three k {a} {c} {b} {d} {e} {f} p q r = ap (λ x. k x b e) p ∙ two (k c) q r

  pub same_statement : (s : OpenStatement) → StatementBelow (length ns) s → statement_in ms s ≡ statement_in ns s
  same_statement (statement.Local l names es b) h = two (pushdown.InLocal l names) (lists es h.0) (same_begun b h.1)
  same_statement (statement.Prefix b) h = ap pushdown.InStat (same_begun b h)
  same_statement (statement.Target l ts b) h = two (pushdown.InTargets l) (lists ts h.0) (same_begun b h.1)
  same_statement (statement.Assign l ts es b) h = three (pushdown.InAssign l) (lists ts h.0) (lists es h.1) (same_begun b h.2)
  same_statement (statement.Return l es b) h = two (pushdown.InReturn l) (lists es h.0) (same_begun b h.1)
  same_statement (statement.Until l t b) h = two (pushdown.InUntil l) (same t h.0) (same_begun b h.1)

  pub same_header : (g : OpenHeader) → HeaderBelow (length ns) g → header_in ms g ≡ header_in ns g
  same_header (header.While l b) h = ap (pushdown.InWhileTest l) (same_begun b h)
  same_header (header.If l ts bs b) h = two (pushdown.InIfTest l) (cases ts bs h.0) (same_begun b h.1)
  same_header (header.First l name b) h = ap (pushdown.InFirst l name) (same_begun b h)
  same_header (header.Last l name a b) h = two (pushdown.InLimit l name) (same a h.0) (same_begun b h.1)
  same_header (header.Step l name a e b) h = three (pushdown.InStep l name) (same a h.0) (same e h.1) (same_begun b h.2)
  same_header (header.Iterator f) h = two (pushdown.InIterator f.line f.names) (lists f.exps h.0) (same_begun f.block h.1)

  pub same_block : (g : OpenBlock) → BlockBelow (length ns) g → block_in ms g ≡ block_in ns g
  same_block (block.Do l b) h = ap (pushdown.InDo l) (same_begun b h)
  same_block (block.While l t b) h = two (pushdown.InWhile l) (same t h.0) (same_begun b h.1)
  same_block (block.Repeat l b) h = ap (pushdown.InRepeat l) (same_begun b h)
  same_block (block.Then l ts bs t b) h = three (pushdown.InThen l) (cases ts bs h.0) (same t h.1) (same_begun b h.2)
  same_block (block.Else l ts bs b) h = two (pushdown.InElse l) (cases ts bs h.0) (same_begun b h.1)
  same_block (block.NumericFor f) h =
      two (λ x y. pushdown.InNumFor f.line f.name x y (maybe_of (tree_in ms) f.step) (begun_in ms f.block)) (same f.first h.0) (same f.last h.1)
      ∙ two (pushdown.InNumFor f.line f.name (tree_in ns f.first) (tree_in ns f.last)) (same_maybe_of (tree_in ms) (tree_in ns) (length ns) same f.step h.2) (same_begun f.block h.3)
  same_block (block.GenericFor f) h = two (pushdown.InGenFor f.line f.names) (lists f.exps h.0) (same_begun f.block h.1)
  same_block (block.Function g params more) h = ap (λ x. pushdown.InFunction x params.items more) (same_head g h)

  fields : (u : BegunTable) → TableBelow (length ns) u → fields_of (tree_in ms) u.fields ≡ fields_of (tree_in ns) u.fields
  fields u h = same_fields_of (tree_in ms) (tree_in ns) (length ns) same u.fields h.1

  pub same_frame : (f : Frame) → FrameBelow (length ns) f → frame_in ms f ≡ frame_in ns f
  same_frame (frame.InParen q l) h = refl
  same_frame (frame.InUnary q l op) h = refl
  same_frame (frame.InBinary q op t) h = ap (pushdown.InBinary q (operator_in op)) (same t h)
  same_frame (frame.InIndex q o) h = ap (pushdown.InIndex q) (same o h)
  same_frame (frame.InArgs q c es) h = two (pushdown.InArgs q) (same_callee c h.0) (lists es h.1)
  same_frame (frame.InItem u) h = two (λ x y. pushdown.InItem x u.line y) (same_purpose u.purpose h.0) (fields u h)
  same_frame (frame.InNamed u name) h = two (λ x y. pushdown.InNamed x u.line y name) (same_purpose u.purpose h.0) (fields u h)
  same_frame (frame.InKey u) h = two (λ x y. pushdown.InKey x u.line y) (same_purpose u.purpose h.0) (fields u h)
  same_frame (frame.InKeyed u e) h = three (λ x y z. pushdown.InKeyed x u.line y z) (same_purpose u.purpose h.0.0) (fields u h.0) (same e h.1)
  same_frame (frame.InStatement s) h = same_statement s h
  same_frame (frame.InHeader g) h = same_header g h
  same_frame (frame.InBlock g) h = same_block g h

  pub same_frames : (fs : List Frame) → FramesBelow (length ns) fs → map (frame_in ms) fs ≡ map (frame_in ns) fs
  same_frames [] h = refl
  same_frames (f ∷ fs) h = two (λ x y. x ∷ y) (same_frame f h.0) (same_frames fs h.1)

pub same_stack : (ns ms : List LinedNode) (fs : List Frame) → ((i : ℕ) → i < length ns → tree_in ms i ≡ tree_in ns i) → FramesBelow (length ns) fs →
    stack_in (record { nodes = ms; frames = fs }) ≡ stack_in (record { nodes = ns; frames = fs })
unfolding stack_in
same_stack ns ms fs same h = same_frames ns ms same fs h

-- Below a number, and so below a greater one.
module _ (n m : ℕ) (le : n ≤ m) where
  pub below_callee : (c : Callee) → CalleeBelow n c → CalleeBelow m c
  below_callee (callee.Function f) h = omega arith
  below_callee (callee.Method o name) h = omega arith

  pub below_purpose : (u : Purpose) → PurposeBelow n u → PurposeBelow m u
  below_purpose (purpose.Value p) h = tt
  below_purpose (purpose.Argument p c) h = below_callee c h

  pub below_begun : (b : Begun) → BegunBelow n b → BegunBelow m b
  below_begun b h = below_more n m b.stats le h

  pub below_head : (h : Head) → HeadBelow n h → HeadBelow m h
  below_head (head.Anonymous p l) h = tt
  below_head (head.Assigned l t k b) h = (omega arith, below_begun b h.1)
  below_head (head.Local l own name b) h = below_begun b h

  below-cases : (ts bs : List ℕ) → CasesBelow n ts bs → CasesBelow m ts bs
  below-cases ts bs h = (below_more n m ts le h.0, below_more n m bs le h.1, h.2)

  below-maybe : (s : Option ℕ) → MaybeBelow n s → MaybeBelow m s
  below-maybe None h = tt
  below-maybe (Some i) h = omega arith

  below-table : (u : BegunTable) → TableBelow n u → TableBelow m u
  below-table u h = (below_purpose u.purpose h.0, fields_below_more n m u.fields le h.1)

  below-statement : (s : OpenStatement) → StatementBelow n s → StatementBelow m s
  below-statement (statement.Local l names es b) h = (below_more n m es le h.0, below_begun b h.1)
  below-statement (statement.Prefix b) h = below_begun b h
  below-statement (statement.Target l ts b) h = (below_more n m ts le h.0, below_begun b h.1)
  below-statement (statement.Assign l ts es b) h = (below_more n m ts le h.0, below_more n m es le h.1, below_begun b h.2)
  below-statement (statement.Return l es b) h = (below_more n m es le h.0, below_begun b h.1)
  below-statement (statement.Until l t b) h = (omega arith, below_begun b h.1)

  below-header : (g : OpenHeader) → HeaderBelow n g → HeaderBelow m g
  below-header (header.While l b) h = below_begun b h
  below-header (header.If l ts bs b) h = (below-cases ts bs h.0, below_begun b h.1)
  below-header (header.First l name b) h = below_begun b h
  below-header (header.Last l name a b) h = (omega arith, below_begun b h.1)
  below-header (header.Step l name a e b) h = (omega arith, omega arith, below_begun b h.2)
  below-header (header.Iterator f) h = (below_more n m f.exps le h.0, below_begun f.block h.1)

  below-block : (g : OpenBlock) → BlockBelow n g → BlockBelow m g
  below-block (block.Do l b) h = below_begun b h
  below-block (block.While l t b) h = (omega arith, below_begun b h.1)
  below-block (block.Repeat l b) h = below_begun b h
  below-block (block.Then l ts bs t b) h = (below-cases ts bs h.0, omega arith, below_begun b h.2)
  below-block (block.Else l ts bs b) h = (below-cases ts bs h.0, below_begun b h.1)
  below-block (block.NumericFor f) h = (omega arith, omega arith, below-maybe f.step h.2, below_begun f.block h.3)
  below-block (block.GenericFor f) h = (below_more n m f.exps le h.0, below_begun f.block h.1)
  below-block (block.Function g params more) h = below_head g h

  below-frame : (f : Frame) → FrameBelow n f → FrameBelow m f
  below-frame (frame.InParen q l) h = tt
  below-frame (frame.InUnary q l op) h = tt
  below-frame (frame.InBinary q op t) h = omega arith
  below-frame (frame.InIndex q o) h = omega arith
  below-frame (frame.InArgs q c es) h = (below_callee c h.0, below_more n m es le h.1)
  below-frame (frame.InItem u) h = below-table u h
  below-frame (frame.InNamed u name) h = below-table u h
  below-frame (frame.InKey u) h = below-table u h
  below-frame (frame.InKeyed u e) h = (below-table u h.0, omega arith)
  below-frame (frame.InStatement s) h = below-statement s h
  below-frame (frame.InHeader g) h = below-header g h
  below-frame (frame.InBlock g) h = below-block g h

  pub below_frames : (fs : List Frame) → FramesBelow n fs → FramesBelow m fs
  below_frames [] h = tt
  below_frames (f ∷ fs) h = (below-frame f h.0, below_frames fs h.1)

-- A statement opens no level by itself, a header none, and a block one.

pub lift_statement : (ns : List LinedNode) (s : OpenStatement) (d : ℕ) → pushdown.lift (statement_in ns s) d ≡ d
lift_statement ns (statement.Local l names es b) d = refl
lift_statement ns (statement.Prefix b) d = refl
lift_statement ns (statement.Target l ts b) d = refl
lift_statement ns (statement.Assign l ts es b) d = refl
lift_statement ns (statement.Return l es b) d = refl
lift_statement ns (statement.Until l t b) d = refl

pub lift_header : (ns : List LinedNode) (g : OpenHeader) (d : ℕ) → pushdown.lift (header_in ns g) d ≡ d
lift_header ns (header.While l b) d = refl
lift_header ns (header.If l ts bs b) d = refl
lift_header ns (header.First l name b) d = refl
lift_header ns (header.Last l name a b) d = refl
lift_header ns (header.Step l name a e b) d = refl
lift_header ns (header.Iterator f) d = refl

pub lift_block : (ns : List LinedNode) (g : OpenBlock) (d : ℕ) → pushdown.lift (block_in ns g) d ≡ suc d
lift_block ns (block.Do l b) d = refl
lift_block ns (block.While l t b) d = refl
lift_block ns (block.Repeat l b) d = refl
lift_block ns (block.Then l ts bs t b) d = refl
lift_block ns (block.Else l ts bs b) d = refl
lift_block ns (block.NumericFor f) d = refl
lift_block ns (block.GenericFor f) d = refl
lift_block ns (block.Function g params more) d = refl

pub lift_frame : (ns : List LinedNode) (f : Frame) (d : ℕ) → lift_of f d ≡ pushdown.lift (frame_in ns f) d
lift_frame ns (frame.InParen q l) d = refl
lift_frame ns (frame.InUnary q l op) d = refl
lift_frame ns (frame.InBinary q op t) d = refl
lift_frame ns (frame.InIndex q o) d = refl
lift_frame ns (frame.InArgs q c es) d = refl
lift_frame ns (frame.InItem u) d = refl
lift_frame ns (frame.InNamed u name) d = refl
lift_frame ns (frame.InKey u) d = refl
lift_frame ns (frame.InKeyed u e) d = refl
lift_frame ns (frame.InStatement s) d = sym (lift_statement ns s d)
lift_frame ns (frame.InHeader g) d = sym (lift_header ns g d)
lift_frame ns (frame.InBlock g) d = sym (lift_block ns g d)

depth-frames : (ns : List LinedNode) (fs : List Frame) → depth_of fs ≡ pushdown.depth (map (frame_in ns) fs)
depth-frames ns [] = refl
depth-frames ns (f ∷ fs) = lift_frame ns f (depth_of fs) ∙ ap (pushdown.lift (frame_in ns f)) (depth-frames ns fs)

pub depth_stack : (h : Held) → depth_of h.frames ≡ pushdown.depth (stack_in h)
unfolding stack_in
depth_stack h = depth-frames h.nodes h.frames

pub grown : {A E : Type 0} (r : Result A E) (ns ms : List LinedNode) (n : LinedNode) → IfOk r (λ _. ms ≡ ns ++ n ∷ []) → OnErr r (ms ≡ ns) → length ns ≤ length ms
grown (Ok a) ns ms n h e = let l = length-append ns (n ∷ []) in omega (arith, ap length h)
grown (Err e) ns ms n h f = omega (arith, ap length f)

pub rest_below : (n : ℕ) (o : Option Frame) (fs gs : List Frame) → FramesBelow n fs → MatchOption o (fs ≡ []) (λ f. fs ≡ f ∷ gs) → IfNone o (gs ≡ fs) → FramesBelow n gs
rest_below n None fs gs h e keep = subst (FramesBelow n) (sym keep) h
rest_below n (Some f) fs gs h e keep = (subst (FramesBelow n) e h).1

-- The tree of a node, with its line.
pub own_shape : (nodes : List LinedNode) (i : ℕ) (x : Node) → node_at nodes i ≡ Some x → ((line : ℕ) → line_at nodes i ≡ Some line → tree_in nodes i ≡ node_tree (tree_in nodes) 0 line x) →
    tree_in nodes i ≡ node_tree (tree_in nodes) 0 (line_of (tree_in nodes i)) x
own_shape nodes i x e f = by (slice_get nodes i) refl e f where
  by : (o : Option LinedNode) → slice_get nodes i ≡ o → node_at nodes i ≡ Some x → ((line : ℕ) → line_at nodes i ≡ Some line → tree_in nodes i ≡ node_tree (tree_in nodes) 0 line x) →
      tree_in nodes i ≡ node_tree (tree_in nodes) 0 (line_of (tree_in nodes i)) x
  by None g e f = let h : option_map (λ (n : LinedNode). n.node) None ≡ Some x = sym (ap (option_map (λ (n : LinedNode). n.node)) g) ∙ e in absurd (cc)
  by (Some n) g e f = f n.line (ap (option_map (λ (n : LinedNode). n.line)) g) ∙ ap (λ l. node_tree (tree_in nodes) 0 l x) (sym (line_of_tree nodes i n g no_number))
