use Rattle.std.proofs.Common.{false, Contains, map, ◌≡◌, ◌↔◌, sym, subst, ap, List, ◌∙◌}
use Rattle.dl_base.specs.Tables.{TableRow, IsLeastAbove, AreCounted, HasEdge, ConceptRow, RoleRow, edge_row, IsIn}
use Rattle.listed_tables.specs.Listed.{IsGivenBy, table_row}
use Rattle.listed_tables.specs.declared.tables.ListedRow.{ListedRow}
use Rattle.listed_tables.proofs.GivenLemmas.{least_same, targets_given}
use Rattle.listed_tables.proofs.tables.ListedTablesTables.next_edge.Goals as goal

pub returns : goal.returns
returns c =
    let is : c.args.self.now ≡ map table_row c.as_slice.result.now = sym c.self.view_is ∙ ap (λ (rows : List ListedRow). map table_row rows) (sym c.as_slice.ensures.value) in
    subst (λ (t : List TableRow). IsLeastAbove (λ e. Contains t (edge_row c.args.role c.args.from e)) c.args.after c.least_above.result) (sym is)
    (least_same _ _ (targets_given c.as_slice.result.now c.args.role c.args.from) _ _ c.least_above.ensures)
