-- The numbers with which a process ends, and how a run ends that has no document.
use Rattle.std.specs.Prelude.{ℕ}
use Rattle.zc_doc.specs.declared.error.DocError.{DocError}
use Rattle.zc_doc.specs.declared.error.DocError.TheVariants.{NoMemory}
use Rattle.zc_offline.specs.declared.status.Status.{Status}
use Rattle.zc_offline.specs.declared.status.Status.TheVariants as status

abbrev pub code_of : Status → ℕ
code_of status.Ok = 0
code_of status.Usage = 2
code_of (status.BadDocument e) = 3
code_of (status.NotEnabled i) = 4
code_of status.ReadFault = 5
code_of status.WriteFault = 6
code_of status.NoMemory = 7

abbrev pub refusal_status : DocError → Status
refusal_status NoMemory = status.NoMemory
refusal_status e = status.BadDocument e
