use Rattle.script_reader.specs.RowReading.{row_text_at}
use Rattle.script_reader.proofs.LineRules.{some_row, no_row}
use Rattle.script_reader.proofs.doc_line.read_fact.Goals as goal

pub returns-in-Ok-clause-found : goal.returns-in-Ok-clause-found
returns-in-Ok-clause-found c = some_row c.args.text.now c.in-Ok.row (c.in-Ok.ensures (row_text_at c.args.text.now) c.read_row.ensures)

pub returns-in-Err-Fault-clause-fault : goal.returns-in-Err-Fault-clause-fault
returns-in-Err-Fault-clause-fault c = no_row c.args.text.now c.in-Err-Fault.field-0-0 (rw c.in-Err-Fault.field-0-is at (c.in-Err-Fault.ensures (row_text_at c.args.text.now) c.read_row.ensures))
