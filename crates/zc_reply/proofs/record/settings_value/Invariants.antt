use Rattle.std.proofs.Common.{◌≡◌, fold, take}
use Rattle.serde_json.specs.Data.{no_members}
use Rattle.serde_json.specs.View.{members_view}
use Rattle.zc_reply.specs.Records.{put_setting}
use Rattle.zc_reply.proofs.record.settings_value.Given as goal

abbrev pub invariant-loop-setting : goal.invariant-loop-setting
invariant-loop-setting l = members_view l.members.entries ≡ fold put_setting no_members (take l.setting-index l.settings)
