use Rattle.std.proofs.Common.{[], ◌∷◌, ◌++◌, sym, subst}
use Rattle.script_reader.specs.declared.doc_line.DocLine.{DocLine}
use Rattle.document_run.specs.Drafting.{KeepsDraft, NextLine}
use Rattle.document_run.proofs.LineTaking.{blank_more}
use Rattle.document_run.proofs.document.Partial.take.Goals as goal

pub returns-in-Blank : goal.returns-in-Blank
returns-in-Blank c = λ lines text next.
    let blank = subst (λ (d : DocLine). NextLine lines text d c.args.self) c.in-Blank.is next in
    subst (KeepsDraft (lines ++ text ∷ [])) (sym c.goes_on.ensures) (blank_more lines text c.args.self blank.next blank.says)
