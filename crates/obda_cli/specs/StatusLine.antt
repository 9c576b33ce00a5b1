-- The line of each ending on standard error, without its line end; nothing where all went well.
use Rattle.std.specs.Prelude.{ℕ, List, [], ◌++◌, codes}
use Rattle.std.specs.Fmt.{decimal}
use Rattle.obda_run.specs.declared.status.Status.{Status}
use Rattle.obda_run.specs.declared.status.Status.TheVariants.{Done, Refused, Usage, ReadFault, PrintFault, DiskFault, Damaged, NoMemory, InputTooLarge}

abbrev pub line_of_status : Status → List ℕ
line_of_status Done = []
line_of_status (Refused code line) = codes "refused " ++ decimal code ++ codes " line " ++ decimal line
line_of_status Usage = codes "usage: obda answer, obda run, obda sample N"
line_of_status ReadFault = codes "read fault"
line_of_status PrintFault = codes "print fault"
line_of_status DiskFault = codes "disk fault"
line_of_status (Damaged area at) = codes "damaged area " ++ decimal area ++ codes " at " ++ decimal at
line_of_status NoMemory = codes "no memory"
line_of_status InputTooLarge = codes "input too large"
