-- The status of each ending, and its number.
use Rattle.std.specs.Prelude.{ℕ}
use Rattle.document_run.specs.declared.ending.DocumentEnding.{DocumentEnding}
use Rattle.document_run.specs.declared.ending.DocumentEnding.TheVariants as document
use Rattle.run_loop.specs.declared.ending.Ending.{Ending}
use Rattle.run_loop.specs.declared.ending.Ending.TheVariants as script
use Rattle.obda_run.specs.declared.status.Status.{Status}
use Rattle.obda_run.specs.declared.status.Status.TheVariants.{Done, Refused, Usage, ReadFault, PrintFault, DiskFault, Damaged, NoMemory, InputTooLarge}

abbrev pub number_of : Status → ℕ
number_of Done = 0
number_of (Refused code line) = 1
number_of Usage = 2
number_of ReadFault = 3
number_of PrintFault = 4
number_of DiskFault = 5
number_of (Damaged area at) = 6
number_of NoMemory = 7
number_of InputTooLarge = 8

-- the status of a document's ending
abbrev pub document_status : DocumentEnding → Status
document_status document.Done = Done
document_status (document.Refused code line) = Refused code line
document_status document.ReadFault = ReadFault
document_status document.PrintFault = PrintFault
document_status document.NoMemory = NoMemory
document_status document.InputTooLarge = InputTooLarge

-- the status of a script's ending
abbrev pub script_status : Ending → Status
script_status script.Done = Done
script_status script.ReadFault = ReadFault
script_status script.PrintFault = PrintFault
script_status script.DiskFault = DiskFault
script_status (script.Damaged area at) = Damaged area at
script_status script.NoMemory = NoMemory
script_status script.InputTooLarge = InputTooLarge
