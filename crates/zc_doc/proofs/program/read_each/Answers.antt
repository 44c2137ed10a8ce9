use Rattle.std.proofs.Common.{◌≡◌, List, [], ◌∷◌, ◌++◌, sym, subst}
use Rattle.std.specs.Str.{IsUtf8}
use Rattle.std.proofs.lemmas.List.Elements.{All-append, All-cons, All-nil}
use Rattle.zc_doc.specs.declared.program.Program.{Program}
use Rattle.serde_json.specs.View.{members_view}
use Rattle.zc_doc.specs.Programs.{AreNamed, programs_in}
use Rattle.zc_doc.proofs.Items.{with_front}
use Rattle.zc_doc.proofs.Named.{one-program}
use Rattle.zc_doc.proofs.program.read_each.Goals as goal

pub loop-name-preserved : goal.loop-name-preserved
loop-name-preserved c =
    let l = c.loop-name in
    let named : Program → Type 0 = λ p. IsUtf8 p.name in
    let p = c.in_ok-read_program.field-0 in
    let is = sym c.in_ok-push.ensures.ok in (
      subst (λ (xs : List Program). with_front xs (programs_in (members_view c.next.new.self)) ≡ programs_in (members_view c.args.members.now.entries)) is
          (one-program l.name-iterator c.next.new.self c.in-Some.name.now c.in-Some.value.now c.as_str.result.now l.found p _ c.in-Some.ensures.steps c.as_str.ensures.value c.in_ok-read_program.ensures.gives l.invariant.0),
      subst AreNamed is (All-append named l.found (p ∷ []) l.invariant.1 (All-cons named p [] c.in_ok-read_program.ensures.name (All-nil named))),
    )
