use Rattle.std.proofs.Common.{false}
use Rattle.dl_base.specs.Tables.{HasEdge}
use Rattle.table_report.specs.Gathered.{AddsAll, IsOfSource, IsOfGoneOver}
use Rattle.table_report.proofs.RoomLemmas.{room}
use Rattle.table_report.proofs.gather.add_links.Given as goal

abbrev pub invariant-loop-from : goal.invariant-loop-from
invariant-loop-from l =
    AddsAll (IsOfGoneOver (HasEdge l.tables.rows (record { name = l.role; inverse = false })) (IsOfSource l.ontology l.individuals l.tables.rows l.role) l.last) l.initial.entries.items l.entries.items

abbrev pub decreases-loop-from : goal.decreases-loop-from
decreases-loop-from l = room l.tables.rows l.last
