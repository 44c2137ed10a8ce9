-- The line on standard error that tells how a run ended. Its words are this project's own. None is stated for a refused
-- document: the printed form of a refusal is derived, and no clause has it.
use Rattle.std.specs.Prelude.{◌++◌, List, [], ℕ, codes, Option, Some, None}
use Rattle.std.specs.Fmt.{decimal}
use Rattle.zc_offline.specs.declared.status.Status.{Status}
use Rattle.zc_offline.specs.declared.status.Status.TheVariants as status

abbrev pub fault_line : Status → Option (List ℕ)
fault_line status.Ok = Some []
fault_line status.Usage = Some (codes "usage: zcpd run, replay, check, gen SEED N, or program [-jn] [-t N] [-m N] POOL SCRIPT [ARG...]")
fault_line (status.BadDocument e) = None
fault_line (status.NotEnabled i) = Some (codes "event " ++ decimal i ++ codes " is not enabled")
fault_line status.ReadFault = Some (codes "cannot read the input")
fault_line status.WriteFault = Some (codes "cannot write the output")
fault_line status.NoMemory = Some (codes "out of memory")
