use Rattle.std.proofs.Common.{◌<◌, length, ap, ◌∙◌, arith}
use Rattle.table_report.specs.Gathered.{IsOfConcept}
use Rattle.table_report.proofs.AddsLemmas.{below_none, below_more, below_all}
use Rattle.table_report.proofs.LookupLemmas.{concept_within}
use Rattle.table_report.proofs.gather.add_concepts.Goals as goal

pub loop-concept-init : goal.loop-concept-init
loop-concept-init c = below_none (IsOfConcept c.args.ontology.now c.args.individuals.now c.args.tables.now.rows) c.args.entries.now.items

pub loop-concept-preserved : goal.loop-concept-preserved
loop-concept-preserved c =
    below_more (IsOfConcept c.args.ontology.now c.args.individuals.now c.args.tables.now.rows) c.loop-concept.concept c.args.entries.now.items c.loop-concept.entries.items c.add_members.new.entries.items
    c.loop-concept.invariant c.in_ok-add_members.ensures

pub returns : goal.returns
returns c =
    let o = c.args.ontology.now in
    below_all (IsOfConcept o c.args.individuals.now c.args.tables.now.rows) c.loop-concept.concept c.args.entries.now.items c.loop-concept.entries.items
    (λ k x found.
    let within : k < length o.concepts = concept_within o c.args.individuals.now c.args.tables.now.rows k x found in
    let all = c.len-concept-end.ensures.len ∙ ap length c.concepts.ensures.names in
    let past = c.loop-concept-test.false in
    omega arith) c.loop-concept.invariant
