use Rattle.script_reader.proofs.LineRules.{line_faults}
use Rattle.script_reader.proofs.doc_line.read_doc_line.Goals as goal

pub returns-clause-fault : goal.returns-clause-fault
returns-clause-fault c = line_faults c.args.text.now c.trimmed.result.now c.read_text.result c.trimmed.ensures c.read_text.ensures.fault
