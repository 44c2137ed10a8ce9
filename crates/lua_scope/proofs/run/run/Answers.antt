use Rattle.std.proofs.Common.{◌≡◌, ◌∙◌, [], List, ℕ, length, sym, subst}
use Rattle.std.proofs.lemmas.List.Sorted.{All-permutation}
use Rattle.lua_ast.specs.Decode.{tree, own_number}
use Rattle.lua_scope.specs.declared.occurrence.Occurrence.{Occurrence}
use Rattle.lua_scope.specs.Walk.{walked}
use Rattle.lua_scope.specs.Walking.{OccurrenceBelow}
use Rattle.lua_scope.specs.Resolved.{Resolved}
use Rattle.lua_scope.specs.Refusals.{first_refusal}
use Rattle.lua_scope.proofs.Loading.{first_is_refused}
use Rattle.lua_scope.proofs.Runs.{running_start, running_below, running_more, running_refused}
use Rattle.lua_scope.proofs.run.run.Goals as goal

pub loop-occurrence-init : goal.loop-occurrence-init
loop-occurrence-init c =
    let whole : List Occurrence = walked [] (tree own_number c.args.chunk.now.nodes c.args.chunk.now.root)
    in let turned : c.reverse.new.self.items ≡ whole = c.reverse.ensures.items ∙ c.in_ok-occurrences.ensures.walk
    in running_start (length c.args.chunk.now.nodes) c.in_ok-resolver.resolver c.reverse.new.self.items whole turned
    (subst (λ (n : ℕ). Resolved n c.in_ok-resolver.resolver []) c.len.ensures.count c.in_ok-resolver.ensures)
    (All-permutation (OccurrenceBelow (length c.args.chunk.now.nodes)) c.in_ok-occurrences.occurrences.items c.reverse.new.self.items c.reverse.ensures.permutation c.in_ok-occurrences.ensures.below)

pub returns-in-Some-refusal-clause-refused : goal.returns-in-Some-refusal-clause-refused
returns-in-Some-refusal-clause-refused c =
    let whole : List Occurrence = walked [] (tree own_number c.args.chunk.now.nodes c.args.chunk.now.root)
    in first_is_refused (first_refusal whole) c.in-Some-refusal.refusal
    (running_refused (length c.args.chunk.now.nodes) c.loop-occurrence.resolver c.loop-occurrence.occurrences.items c.pop.new.self.items whole c.in-Some.occurrence c.in-Some-refusal.refusal
    c.in-Some.ensures.items c.loop-occurrence.invariant (sym c.refusal.ensures ∙ c.in-Some-refusal.is))

pub take-requires-clause-below : goal.take-requires-clause-below
take-requires-clause-below c =
    let whole : List Occurrence = walked [] (tree own_number c.args.chunk.now.nodes c.args.chunk.now.root)
    in subst (λ (n : ℕ). OccurrenceBelow n c.in-Some.occurrence) (sym c.loop-occurrence.invariant.tables.variables_are.first_count)
    (running_below (length c.args.chunk.now.nodes) c.loop-occurrence.resolver c.loop-occurrence.occurrences.items c.pop.new.self.items whole c.in-Some.occurrence c.in-Some.ensures.items c.loop-occurrence.invariant)

pub loop-occurrence-preserved : goal.loop-occurrence-preserved
loop-occurrence-preserved c =
    let whole : List Occurrence = walked [] (tree own_number c.args.chunk.now.nodes c.args.chunk.now.root)
    in running_more (length c.args.chunk.now.nodes) c.loop-occurrence.resolver c.take.new.self c.loop-occurrence.occurrences.items c.pop.new.self.items whole c.in-Some.occurrence
    c.in-Some.ensures.items c.loop-occurrence.invariant (sym c.refusal.ensures ∙ c.in_default-refusal.is) (c.in_ok-take.ensures (length c.args.chunk.now.nodes))
