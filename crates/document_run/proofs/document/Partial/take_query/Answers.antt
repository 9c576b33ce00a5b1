use Rattle.std.proofs.Common.{[], ◌∷◌, ◌++◌, sym, subst, ◌∙◌}
use Rattle.query_shape.specs.ShapeFault.{IsShapeFault}
use Rattle.query_shape.specs.declared.numbering.ShapeError.{ShapeError}
use Rattle.document_run.specs.Drafting.{KeepsDraft}
use Rattle.query_shape.proofs.NumberingLemmas.{shape_known}
use Rattle.document_run.proofs.LineTaking.{query_late, query_concept, query_role, query_more}
use Rattle.document_run.proofs.document.Partial.take_query.Goals as goal

pub returns-then-is_some : goal.returns-then-is_some
returns-then-is_some c = λ lines text next.
    subst (KeepsDraft (lines ++ text ∷ [])) (sym c.refused.ensures)
    (query_late lines text c.args.self next.next c.args.query next.says (sym c.is_some.ensures ∙ c.if-is_some.true))

pub returns-in-Ok : goal.returns-in-Ok
returns-in-Ok c = λ lines text next.
    subst (KeepsDraft (lines ++ text ∷ [])) (sym c.goes_on.ensures)
    (query_more lines text c.args.self next.next c.args.query next.says (sym c.is_some.ensures ∙ c.if-is_some.false) next.fit
    (shape_known c.args.self.ontology c.args.query c.in-Ok.field-0 c.in-Ok.ensures.ok))

pub returns-in-Err-UnknownConcept : goal.returns-in-Err-UnknownConcept
returns-in-Err-UnknownConcept c = λ lines text next.
    subst (KeepsDraft (lines ++ text ∷ [])) (sym c.refused-in-Err-UnknownConcept.ensures)
    (query_concept lines text c.args.self next.next c.args.query next.says (sym c.is_some.ensures ∙ c.if-is_some.false) next.fit c.in-Err-UnknownConcept.field-0-0
    (subst (λ (e : ShapeError). IsShapeFault c.args.self.ontology c.args.query e) c.in-Err-UnknownConcept.field-0-is c.in-Err-UnknownConcept.ensures.err))

pub returns-in-Err-UnknownRole : goal.returns-in-Err-UnknownRole
returns-in-Err-UnknownRole c = λ lines text next.
    subst (KeepsDraft (lines ++ text ∷ [])) (sym c.refused-in-Err-UnknownRole.ensures)
    (query_role lines text c.args.self next.next c.args.query next.says (sym c.is_some.ensures ∙ c.if-is_some.false) next.fit c.in-Err-UnknownRole.field-0-0
    (subst (λ (e : ShapeError). IsShapeFault c.args.self.ontology c.args.query e) c.in-Err-UnknownRole.field-0-is c.in-Err-UnknownRole.ensures.err))
