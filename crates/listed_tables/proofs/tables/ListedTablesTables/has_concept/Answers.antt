use Rattle.std.proofs.Common.{false, Contains, map, ◌≡◌, ◌↔◌, sym, subst, ap, List, ◌∙◌}
use Rattle.std.specs.Bool.{IsTrue}
use Rattle.dl_base.specs.Tables.{TableRow, IsLeastAbove, AreCounted, HasEdge, ConceptRow, RoleRow, edge_row, IsIn}
use Rattle.listed_tables.specs.Listed.{IsGivenBy, table_row}
use Rattle.listed_tables.specs.declared.tables.ListedRow.{ListedRow}
use Rattle.listed_tables.proofs.GivenLemmas.{members_given}
use Rattle.listed_tables.proofs.tables.ListedTablesTables.has_concept.Goals as goal

pub returns : goal.returns
returns c =
    let is : c.args.self.now ≡ map table_row c.as_slice.result.now = sym c.self.view_is ∙ ap (λ (rows : List ListedRow). map table_row rows) (sym c.as_slice.ensures.value) in
    let same = members_given c.as_slice.result.now c.args.concept c.args.e in
    subst (λ (t : List TableRow). IsTrue c.is_given_in.result ↔ Contains t (ConceptRow c.args.concept c.args.e)) (sym is) (λ yes. same.0 (c.is_given_in.ensures.0 yes), λ there. c.is_given_in.ensures.1 (same.1 there))
