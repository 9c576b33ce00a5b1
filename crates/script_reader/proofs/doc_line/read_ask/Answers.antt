use Rattle.cq_reader.specs.QueryText.{query}
use Rattle.script_reader.specs.declared.doc_line.DocLine.TheVariants as line
use Rattle.script_reader.proofs.LineRules.{none_made}
use Rattle.script_reader.proofs.doc_line.read_ask.Goals as goal

pub returns-in-Err-Syntax-clause-fault : goal.returns-in-Err-Syntax-clause-fault
returns-in-Err-Syntax-clause-fault c =
    let refused = rw c.in-Err-Syntax.field-0-is at c.in-Err-Syntax.ensures.refused in
    none_made query line.Ask c.args.text.now (λ q says. refused.2.outside (q, says))
