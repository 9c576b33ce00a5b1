use Rattle.std.proofs.Common.{◌≡◌, Some, Contains}
use Rattle.dl_base.specs.Tables.{ConceptRow}
use Rattle.table_report.specs.Gathered.{AddsAll, IsOfGoneOver, row_entry}
use Rattle.table_report.proofs.RoomLemmas.{room}
use Rattle.table_report.proofs.gather.add_members.Given as goal

abbrev pub invariant-loop-e : goal.invariant-loop-e
invariant-loop-e l =
    AddsAll (IsOfGoneOver (λ e. Contains l.tables.rows (ConceptRow l.concept e)) (λ e x. row_entry l.ontology l.individuals (ConceptRow l.concept e) ≡ Some x) l.last) l.initial.entries.items l.entries.items

abbrev pub decreases-loop-e : goal.decreases-loop-e
decreases-loop-e l = room l.tables.rows l.last
