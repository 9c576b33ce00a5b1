use Rattle.std.proofs.Common.{[], ◌∷◌, ◌++◌, sym, subst, ◌∙◌}
use Rattle.document_run.specs.Drafting.{KeepsDraft}
use Rattle.document_run.proofs.LineTaking.{fact_late, fact_unknown, fact_passes, fact_more, fits_true, fits_false, place_named, unknown_draft}
use Rattle.document_run.proofs.document.Partial.take_fact.Goals as goal

pub returns-then-is_some : goal.returns-then-is_some
returns-then-is_some c = λ lines text next.
    subst (KeepsDraft (lines ++ text ∷ [])) (sym c.refused.ensures)
    (fact_late lines text c.args.self next.next c.args.row.now next.says (sym c.is_some.ensures ∙ c.if-is_some.true))

pub returns-in-None : goal.returns-in-None
returns-in-None c = λ lines text next.
    subst (KeepsDraft (lines ++ text ∷ [])) (sym (c.refused-in-None.ensures ∙ unknown_draft c.args.self c.unknown_in.result c.args.row.now c.unknown_in.ensures))
    (fact_unknown lines text c.args.self next.next c.args.row.now next.says (sym c.is_some.ensures ∙ c.if-is_some.false) c.in-None.ensures.place)

pub returns-then-branch : goal.returns-then-branch
returns-then-branch c = λ lines text next.
    let o = c.args.self.ontology in
    let row = c.args.row.now in
    let kept = fits_true _ _ _ c.if-branch.true (c.in_ok-add-in-Some.ensures o next.next.keeps.said.facts c.place_of.ensures.within next.next.keeps.facts c.in-Some.ensures.place) in
    subst (KeepsDraft (lines ++ text ∷ [])) (sym c.goes_on.ensures)
    (fact_more lines text c.args.self next.next row next.says (sym c.is_some.ensures ∙ c.if-is_some.false) (place_named o row c.in-Some.place c.in-Some.ensures.place) c.add.new.self kept)

pub returns-else-branch : goal.returns-else-branch
returns-else-branch c = λ lines text next.
    let o = c.args.self.ontology in
    let row = c.args.row.now in
    let many = fits_false _ _ _ c.if-branch.false (c.in_ok-add-in-Some.ensures o next.next.keeps.said.facts c.place_of.ensures.within next.next.keeps.facts c.in-Some.ensures.place) in
    subst (KeepsDraft (lines ++ text ∷ [])) (sym c.refused-else-branch.ensures)
    (fact_passes lines text c.args.self next.next row next.says (sym c.is_some.ensures ∙ c.if-is_some.false) (place_named o row c.in-Some.place c.in-Some.ensures.place) many)
