use Rattle.zp_names.proofs.ShortNames.{valid_short_utf8}
use Rattle.zc_reply.proofs.record.full_name.Goals as goal

pub text_of-requires : goal.text_of-requires
text_of-requires c = valid_short_utf8 c.args.short.now c.requires
