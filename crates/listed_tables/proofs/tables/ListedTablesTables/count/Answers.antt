use Rattle.std.proofs.Common.{Contains, map, ◌≡◌, ◌↔◌, sym, subst, ap, List, ◌∙◌}
use Rattle.dl_base.specs.Tables.{TableRow, AreCounted, HasEdge, ConceptRow, IsIn}
use Rattle.listed_tables.specs.Listed.{IsGivenBy, table_row}
use Rattle.listed_tables.specs.declared.tables.ListedRow.{ListedRow}
use Rattle.listed_tables.proofs.GivenLemmas.{counted_same, members_given, sources_given}
use Rattle.listed_tables.proofs.tables.ListedTablesTables.count.Goals as goal

pub returns-in-Concept : goal.returns-in-Concept
returns-in-Concept c =
    let is : c.args.self.now ≡ map table_row c.as_slice-rows.result.now = sym c.self.view_is ∙ ap (λ (rows : List ListedRow). map table_row rows) (sym c.as_slice-rows.ensures.value) in
    rw c.in-Concept.is (subst (λ (t : List TableRow). AreCounted (λ e. Contains t (ConceptRow c.in-Concept.concept e)) c.count.result) (sym is)
    (counted_same _ _ (members_given c.as_slice-rows.result.now c.in-Concept.concept) _ c.count.ensures))

pub returns-in-Exists : goal.returns-in-Exists
returns-in-Exists c =
    let is : c.args.self.now ≡ map table_row c.as_slice-rows.result.now = sym c.self.view_is ∙ ap (λ (rows : List ListedRow). map table_row rows) (sym c.as_slice-rows.ensures.value) in
    rw c.in-Exists.is (subst (λ (t : List TableRow). AreCounted (HasEdge t c.in-Exists.role) c.count-in-Exists.result) (sym is)
    (counted_same _ _ (sources_given c.as_slice-rows.result.now c.in-Exists.role) _ c.count-in-Exists.ensures))
