use Rattle.std.proofs.Common.{◌≡◌, Some, Contains, Option, subst}
use Rattle.dl_base.specs.Tables.{ConceptRow}
use Rattle.table_report.specs.Gathered.{AddsAll, row_entry}
use Rattle.table_report.specs.TableLines.{Entry}
use Rattle.table_report.proofs.AddsLemmas.{reached_none, reached_more, reached_all}
use Rattle.table_report.proofs.RoomLemmas.{concept_falls}
use Rattle.table_report.proofs.gather.add_members.Goals as goal

pub loop-e-init : goal.loop-e-init
loop-e-init c =
    reached_none (λ e. Contains c.args.tables.now.rows (ConceptRow c.args.concept e)) (λ e x. row_entry c.args.ontology.now c.args.individuals.now (ConceptRow c.args.concept e) ≡ Some x) c.args.entries.now.items

pub loop-e-smaller : goal.loop-e-smaller
loop-e-smaller c = concept_falls c.args.tables.now.rows c.loop-e.last c.args.concept c.in-Some.e c.in-Some.ensures.1 c.in-Some.ensures.0

pub loop-e-preserved : goal.loop-e-preserved
loop-e-preserved c =
    reached_more (λ e. Contains c.args.tables.now.rows (ConceptRow c.args.concept e)) (λ e x. row_entry c.args.ontology.now c.args.individuals.now (ConceptRow c.args.concept e) ≡ Some x)
    c.loop-e.last c.in-Some.e c.in-Some.ensures c.args.entries.now.items c.loop-e.entries.items c.push_found.new.entries.items c.loop-e.invariant
    (subst (λ (found : Option Entry). AddsAll (λ x. found ≡ Some x) c.loop-e.entries.items c.push_found.new.entries.items) c.concept_entry-found.ensures c.in_ok-push_found.ensures)

pub returns : goal.returns
returns c =
    reached_all (λ e. Contains c.args.tables.now.rows (ConceptRow c.args.concept e)) (λ e x. row_entry c.args.ontology.now c.args.individuals.now (ConceptRow c.args.concept e) ≡ Some x)
    c.loop-e.last c.args.entries.now.items c.loop-e.entries.items c.in_default.ensures c.loop-e.invariant
