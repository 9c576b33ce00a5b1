use Rattle.table_report.specs.Gathered.{AddsAll, IsOfConcept}
use Rattle.table_report.proofs.AddsLemmas.{IsBelow}
use Rattle.table_report.proofs.gather.add_concepts.Given as goal

abbrev pub invariant-loop-concept : goal.invariant-loop-concept
invariant-loop-concept l = AddsAll (IsBelow (IsOfConcept l.ontology l.individuals l.tables.rows) l.concept) l.initial.entries.items l.entries.items
