use Rattle.std.proofs.Common.{refl}
use Rattle.zp_names.specs.Names.{is_valid_short}
use Rattle.zc_reply.proofs.tests.prints_a_snapshot_and_a_bookmark.Goals as goal

pub full_name-requires : goal.full_name-requires
unfolding is_valid_short
full_name-requires c = λ d. refl

pub full_name-requires-2 : goal.full_name-requires-2
unfolding is_valid_short
full_name-requires-2 c = λ d. refl
