use Rattle.std.proofs.Common.{subst}
use Rattle.document_run.specs.Drafting.{KeepsDraft}
use Rattle.document_run.specs.declared.document.Draft.{Draft}
use Rattle.document_run.proofs.DraftLemmas.{offence_more}
use Rattle.document_run.proofs.document.Draft.take_long_line.Goals as goal

pub returns-in-Refused : goal.returns-in-Refused
returns-in-Refused c = λ lines text few long keeps.
    let offence = subst (λ (draft : Draft). KeepsDraft lines draft) c.in-Refused.is keeps in
    offence_more lines text c.in-Refused.line c.in-Refused.reason offence
