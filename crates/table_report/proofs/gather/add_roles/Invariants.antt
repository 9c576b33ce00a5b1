use Rattle.table_report.specs.Gathered.{AddsAll, IsOfRole}
use Rattle.table_report.proofs.AddsLemmas.{IsBelow}
use Rattle.table_report.proofs.gather.add_roles.Given as goal

abbrev pub invariant-loop-role : goal.invariant-loop-role
invariant-loop-role l = AddsAll (IsBelow (IsOfRole l.ontology l.individuals l.tables.rows) l.role) l.initial.entries.items l.entries.items
