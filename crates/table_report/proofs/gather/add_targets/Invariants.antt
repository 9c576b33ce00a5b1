use Rattle.std.proofs.Common.{◌≡◌, Some, Contains}
use Rattle.dl_base.specs.Tables.{RoleRow}
use Rattle.table_report.specs.Gathered.{AddsAll, IsOfGoneOver, row_entry}
use Rattle.table_report.proofs.RoomLemmas.{room}
use Rattle.table_report.proofs.gather.add_targets.Given as goal

abbrev pub invariant-loop-to : goal.invariant-loop-to
invariant-loop-to l =
    AddsAll (IsOfGoneOver (λ f. Contains l.tables.rows (RoleRow l.role l.from f)) (λ f x. row_entry l.ontology l.individuals (RoleRow l.role l.from f) ≡ Some x) l.last) l.initial.entries.items l.entries.items

abbrev pub decreases-loop-to : goal.decreases-loop-to
decreases-loop-to l = room l.tables.rows l.last
