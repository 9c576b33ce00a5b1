use Rattle.std.proofs.Common.{Contains, List, subst, arith}
use Rattle.completion.proofs.KeptLemmas.{concept_kept}
use Rattle.completion.proofs.LeastLemmas.{least_as}
use Rattle.completion.specs.TableRows.{elements_at, table_of}
use Rattle.dl_base.specs.Tables.{ConceptRow, IsLeastAbove}
use Rattle.dl_base.specs.declared.element.Elem.{Elem}
use Rattle.completion.proofs.tables.TableRowsTables.next_concept_near.Goals as goal

pub returns-in-Some : goal.returns-in-Some
returns-in-Some c =
    let kept = concept_kept c.args.self.now c.args.concept in
    least_as (Contains (elements_at c.args.self.now.concepts c.args.concept)) (λ (e : Elem). Contains (table_of c.args.self.now) (ConceptRow c.args.concept e)) c.args.after c.next_near.result
    (λ e there. (kept e).1 there) (λ e row. (kept e).0 row)
    (subst (λ (es : List Elem). IsLeastAbove (Contains es) c.args.after c.next_near.result) c.in-Some.ensures c.next_near.ensures)

pub returns-in-None : goal.returns-in-None
returns-in-None c =
    λ e row above. let still = subst (λ (es : List Elem). Contains es e) c.in-None.ensures ((concept_kept c.args.self.now c.args.concept e).0 row) in omega (arith, still.1)
