use Rattle.table_report.specs.Gathered.{AddsAll}
use Rattle.table_report.proofs.AddsLemmas.{IsBelow}
use Rattle.table_report.proofs.LookupLemmas.{IsAtPlace}
use Rattle.table_report.proofs.gather.add_witnesses.Given as goal

abbrev pub invariant-loop-place : goal.invariant-loop-place
invariant-loop-place l = AddsAll (IsBelow (IsAtPlace l.ontology l.tables.book) l.place) l.initial.entries.items l.entries.items
