use Rattle.std.proofs.Common.{◌≡◌}
use Rattle.serde_json.specs.View.{members_view}
use Rattle.zc_doc.specs.Programs.{programs_in, AreNamed}
use Rattle.zc_doc.proofs.Items.{with_front}
use Rattle.zc_doc.proofs.program.read_each.Given as goal

-- what was found so far, before what is left
abbrev pub invariant-loop-name : goal.invariant-loop-name
invariant-loop-name l =
    (with_front l.found (programs_in (members_view l.name-iterator)) ≡ programs_in (members_view l.members.entries))
    × AreNamed l.found
