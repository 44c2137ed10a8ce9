use Rattle.std.proofs.Common.{sym, subst}
use Rattle.serde_json.specs.View.{view, members_view}
use Rattle.zc_doc.specs.Reading.{Gives}
use Rattle.zc_doc.proofs.Unknown.{object-is}
use Rattle.zc_doc.proofs.reading.only_members.Goals as goal

pub returns-in-Some : goal.returns-in-Some
returns-in-Some c =
    subst (Gives c.none_unknown.result) (sym (object-is _ (view c.args.value.now) (members_view c.in-Some.members.now.entries) c.in-Some.ensures)) c.none_unknown.ensures
