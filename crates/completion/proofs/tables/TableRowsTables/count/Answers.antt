use Rattle.std.proofs.Common.{Contains, List, subst, sym, arith}
use Rattle.completion.proofs.KeptLemmas.{concept_kept}
use Rattle.completion.proofs.LeastLemmas.{counted_as, counted_none}
use Rattle.completion.specs.TableRows.{elements_at, table_of}
use Rattle.dl_base.specs.Tables.{AreCounted, ConceptRow, HasEdge, IsIn}
use Rattle.dl_base.specs.declared.concept.Basic.{Basic}
use Rattle.dl_base.specs.declared.element.Elem.{Elem}
use Rattle.completion.proofs.tables.TableRowsTables.count.Goals as goal

pub returns-in-Some : goal.returns-in-Some
returns-in-Some c =
    let kept = concept_kept c.args.self.now c.in-Concept.concept in
    subst (λ (b : Basic). AreCounted (IsIn (table_of c.args.self.now) b) c.count.result) (sym c.in-Concept.is)
    (counted_as (Contains (elements_at c.args.self.now.concepts c.in-Concept.concept)) (λ (e : Elem). Contains (table_of c.args.self.now) (ConceptRow c.in-Concept.concept e)) c.count.result
    (λ e there. (kept e).1 there) (λ e row. (kept e).0 row)
    (subst (λ (es : List Elem). AreCounted (Contains es) c.count.result) c.in-Some.ensures c.count.ensures))

pub returns-in-None : goal.returns-in-None
returns-in-None c =
    subst (λ (b : Basic). AreCounted (IsIn (table_of c.args.self.now) b) 0) (sym c.in-Concept.is)
    (counted_none (λ (e : Elem). Contains (table_of c.args.self.now) (ConceptRow c.in-Concept.concept e))
    (λ e row. let still = subst (λ (es : List Elem). Contains es e) c.in-None.ensures ((concept_kept c.args.self.now c.in-Concept.concept e).0 row) in omega (arith, still.1)))

pub returns-in-Some-sources : goal.returns-in-Some-sources
returns-in-Some-sources c =
    subst (λ (b : Basic). AreCounted (IsIn (table_of c.args.self.now) b) c.count-in-Some-sources.result) (sym c.in-Exists.is)
    (counted_as (Contains c.in-Some-sources.sources.now) (HasEdge (table_of c.args.self.now) c.in-Exists.role) c.count-in-Some-sources.result
    (λ e there. (c.in-Some-sources.ensures e).1 there) (λ e has. (c.in-Some-sources.ensures e).0 has) c.count-in-Some-sources.ensures)

pub returns-in-None-sources : goal.returns-in-None-sources
returns-in-None-sources c =
    subst (λ (b : Basic). AreCounted (IsIn (table_of c.args.self.now) b) 0) (sym c.in-Exists.is)
    (counted_none (HasEdge (table_of c.args.self.now) c.in-Exists.role) c.in-None-sources.ensures)
