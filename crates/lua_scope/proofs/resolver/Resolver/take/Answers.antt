use Rattle.std.proofs.Common.{◌≡◌, ◌<◌, ◌∷◌, ℕ, List, length, ap, ◌∙◌, sym, subst, refl}
use Rattle.lua_scope.specs.declared.occurrence.Occurrence.{Occurrence}
use Rattle.lua_scope.specs.declared.occurrence.Occurrence.TheVariants as occurrence
use Rattle.lua_scope.specs.declared.resolver.Resolver.{Resolver as Tables}
use Rattle.lua_scope.specs.Scope.{scope_opened, scope_closed, entered, first_variable, scope}
use Rattle.lua_scope.specs.Walking.{OccurrenceBelow}
use Rattle.lua_scope.specs.Resolved.{Resolved}
use Rattle.lua_scope.proofs.Resolving.{quiet_open, quiet_close, quiet_enter, quiet_goto, quiet_label, quiet_break, quiet_vararg, resolved_quiet, resolved_declare, resolved_use}
use Rattle.lua_scope.proofs.resolver.Resolver.take.Goals as goal

at_occurrence : (n : ℕ) (new : Tables) (h : List Occurrence) (is wanted : Occurrence) → is ≡ wanted → Resolved n new (wanted ∷ h) → Resolved n new (is ∷ h)
at_occurrence n new h is wanted e r = subst (λ (x : Occurrence). Resolved n new (x ∷ h)) (sym e) r

below_occurrence : (n : ℕ) (is wanted : Occurrence) → is ≡ wanted → OccurrenceBelow n is → OccurrenceBelow n wanted
below_occurrence n is wanted e b = subst (λ (x : Occurrence). OccurrenceBelow n x) e b

pub returns-in-Open : goal.returns-in-Open
unfolding scope
returns-in-Open c = λ n h r.
    let new : Tables = record c.args.self.now { scope = c.open.new.self }
    in at_occurrence n new h c.args.occurrence (occurrence.Open c.in-Open.kind) c.in-Open.is
    (resolved_quiet n c.args.self.now new (occurrence.Open c.in-Open.kind) h (quiet_open c.in-Open.kind h)
    (c.in_ok-open-in-Open.ensures ∙ ap (scope_opened c.in-Open.kind) r.scope_is) refl refl refl refl refl r)

pub returns-in-Close : goal.returns-in-Close
unfolding scope
returns-in-Close c = λ n h r.
    let new : Tables = record c.args.self.now { scope = c.close.new.self }
    in at_occurrence n new h c.args.occurrence occurrence.Close c.in-Close.is
    (resolved_quiet n c.args.self.now new occurrence.Close h (quiet_close h) (c.close.ensures ∙ ap scope_closed r.scope_is) refl refl refl refl refl r)

pub returns-in-Declare : goal.returns-in-Declare
returns-in-Declare c = λ n h r.
    at_occurrence n c.declare.new.self h c.args.occurrence (occurrence.Declare c.in-Declare.node c.in-Declare.count) c.in-Declare.is
    (resolved_declare n c.args.self.now c.declare.new.self c.in-Declare.node c.in-Declare.count h
    (below_occurrence (length c.args.self.now.first.items) c.args.occurrence (occurrence.Declare c.in-Declare.node c.in-Declare.count) c.in-Declare.is c.requires.below)
    c.in_ok-declare-in-Declare.ensures.scope c.in_ok-declare-in-Declare.ensures.declared c.in_ok-declare-in-Declare.ensures.first c.in_ok-declare-in-Declare.ensures.meanings c.in_ok-declare-in-Declare.ensures.captured c.in_ok-declare-in-Declare.ensures.is_captured r)

pub returns-in-Enter : goal.returns-in-Enter
unfolding scope
returns-in-Enter c = λ n h r.
    let k = c.enter.new.self
    in at_occurrence n k h c.args.occurrence (occurrence.Enter c.in-Enter.node c.in-Enter.names) c.in-Enter.is
    (resolved_quiet n c.args.self.now k (occurrence.Enter c.in-Enter.node c.in-Enter.names) h (quiet_enter c.in-Enter.node c.in-Enter.names h)
    (c.in_ok-enter-in-Enter.ensures.scope ∙ (ap (λ (m : ℕ). entered m c.in-Enter.names c.args.self.now.scope) (r.variables_are.first_is c.in-Enter.node) ∙ ap (entered (first_variable h c.in-Enter.node) c.in-Enter.names) r.scope_is))
    c.in_ok-enter-in-Enter.ensures.declared c.in_ok-enter-in-Enter.ensures.first c.in_ok-enter-in-Enter.ensures.meanings c.in_ok-enter-in-Enter.ensures.captured c.in_ok-enter-in-Enter.ensures.is_captured r)

pub use_name-requires : goal.use_name-requires
use_name-requires c =
    subst (λ (n : ℕ). c.in-Use.node < n) (sym c.requires.even) (below_occurrence (length c.args.self.now.first.items) c.args.occurrence (occurrence.Use c.in-Use.node c.in-Use.name) c.in-Use.is c.requires.below)

pub returns-in-Use : goal.returns-in-Use
returns-in-Use c = λ n h r.
    at_occurrence n c.use_name.new.self h c.args.occurrence (occurrence.Use c.in-Use.node c.in-Use.name) c.in-Use.is
    (resolved_use n c.args.self.now c.use_name.new.self c.in-Use.node c.in-Use.name h
    (subst (λ (n : ℕ). c.in-Use.node < n) (sym c.requires.even) (below_occurrence (length c.args.self.now.first.items) c.args.occurrence (occurrence.Use c.in-Use.node c.in-Use.name) c.in-Use.is c.requires.below))
    c.in_ok-use_name-in-Use.ensures.scope c.in_ok-use_name-in-Use.ensures.declared c.in_ok-use_name-in-Use.ensures.first c.in_ok-use_name-in-Use.ensures.meanings
    c.in_ok-use_name-in-Use.ensures.functions c.in_ok-use_name-in-Use.ensures.captured c.in_ok-use_name-in-Use.ensures.is_captured r)

pub returns-in-Goto : goal.returns-in-Goto
unfolding scope
returns-in-Goto c = λ n h r.
    at_occurrence n c.args.self.now h c.args.occurrence (occurrence.Goto c.in-Goto.line c.in-Goto.label) c.in-Goto.is
    (resolved_quiet n c.args.self.now c.args.self.now (occurrence.Goto c.in-Goto.line c.in-Goto.label) h (quiet_goto c.in-Goto.line c.in-Goto.label h) r.scope_is refl refl refl refl refl r)

pub returns-in-SecondLabel : goal.returns-in-SecondLabel
unfolding scope
returns-in-SecondLabel c = λ n h r.
    at_occurrence n c.args.self.now h c.args.occurrence (occurrence.SecondLabel c.in-SecondLabel.line) c.in-SecondLabel.is
    (resolved_quiet n c.args.self.now c.args.self.now (occurrence.SecondLabel c.in-SecondLabel.line) h (quiet_label c.in-SecondLabel.line h) r.scope_is refl refl refl refl refl r)

pub returns-in-Break : goal.returns-in-Break
unfolding scope
returns-in-Break c = λ n h r.
    at_occurrence n c.args.self.now h c.args.occurrence (occurrence.Break c.in-Break.line) c.in-Break.is
    (resolved_quiet n c.args.self.now c.args.self.now (occurrence.Break c.in-Break.line) h (quiet_break c.in-Break.line h) r.scope_is refl refl refl refl refl r)

pub returns : goal.returns
unfolding scope
returns c = λ n h r.
    at_occurrence n c.args.self.now h c.args.occurrence (occurrence.Vararg c.in-Vararg.line) c.in-Vararg.is
    (resolved_quiet n c.args.self.now c.args.self.now (occurrence.Vararg c.in-Vararg.line) h (quiet_vararg c.in-Vararg.line h) r.scope_is refl refl refl refl refl r)
