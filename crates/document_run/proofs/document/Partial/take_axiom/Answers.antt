use Rattle.std.proofs.Common.{ℕ, [], ◌∷◌, ◌++◌, sym, subst}
use Rattle.document_run.specs.Document.{FirstOffence}
use Rattle.document_run.specs.Drafting.{KeepsDraft}
use Rattle.document_run.specs.declared.reason.Reason.TheVariants as reason
use Rattle.document_run.proofs.LineTaking.{not_both, passes_as, axiom_late, axiom_passes, axiom_more}
use Rattle.document_run.proofs.document.Partial.take_axiom.Goals as goal

pub returns-then-not-takes_axioms : goal.returns-then-not-takes_axioms
returns-then-not-takes_axioms c = λ lines text next.
    subst (KeepsDraft (lines ++ text ∷ [])) (sym c.refused.ensures)
    (axiom_late lines text c.args.self next.next c.args.added.now next.says (λ both. not_both c.if-not-takes_axioms.true (c.takes_axioms.ensures.1 both)))

pub returns-in-Ok : goal.returns-in-Ok
returns-in-Ok c = λ lines text next.
    let first = c.takes_axioms.ensures.0 c.if-not-takes_axioms.false in
    subst (KeepsDraft (lines ++ text ∷ [])) (sym c.goes_on.ensures)
    (axiom_more lines text c.args.self next.next c.args.added.now next.says first.0 first.1
    c.in-Ok.ontology c.in-Ok.ensures)

pub returns-in-Err-TooMany : goal.returns-in-Err-TooMany
returns-in-Err-TooMany c = λ lines text next.
    let first = c.takes_axioms.ensures.0 c.if-not-takes_axioms.false in
    let passes = passes_as c.args.self.ontology c.args.added.now c.in-Err-TooMany.field-0 c.in-Err-TooMany.field-0-0 c.in-Err-TooMany.field-0-is c.in-Err-TooMany.ensures in
    subst (λ (n : ℕ). FirstOffence (lines ++ text ∷ []) n reason.PassesLimit) (sym c.saturating_add.ensures)
    (axiom_passes lines text c.args.self next.next c.args.added.now next.says first.0 first.1
    c.in-Err-TooMany.field-0-0 passes)
