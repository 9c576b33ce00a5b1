use Rattle.std.proofs.Common.{[], ◌∷◌, ◌++◌, sym, subst, ◌∙◌}
use Rattle.document_run.specs.Drafting.{KeepsDraft}
use Rattle.document_run.proofs.LineTaking.{ask_refused, ask_refused_late}
use Rattle.document_run.proofs.document.Partial.refuse_query.Goals as goal

pub returns-then-is_some : goal.returns-then-is_some
returns-then-is_some c = λ lines text next fault.
    subst (KeepsDraft (lines ++ text ∷ [])) (sym c.refused.ensures)
    (ask_refused_late lines text c.args.self next c.args.reason fault (sym c.is_some.ensures ∙ c.if-is_some.true))

pub returns-else-is_some : goal.returns-else-is_some
returns-else-is_some c = λ lines text next fault.
    subst (KeepsDraft (lines ++ text ∷ [])) (sym c.refused-else-is_some.ensures)
    (ask_refused lines text c.args.self next c.args.reason fault (sym c.is_some.ensures ∙ c.if-is_some.false))
