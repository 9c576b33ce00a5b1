use Rattle.std.proofs.Common.{◌<◌, length, ap, ◌∙◌, arith}
use Rattle.table_report.specs.Gathered.{IsOfRole}
use Rattle.table_report.proofs.AddsLemmas.{below_none, below_more, below_all}
use Rattle.table_report.proofs.LookupLemmas.{role_within}
use Rattle.table_report.proofs.gather.add_roles.Goals as goal

pub loop-role-init : goal.loop-role-init
loop-role-init c = below_none (IsOfRole c.args.ontology.now c.args.individuals.now c.args.tables.now.rows) c.args.entries.now.items

pub loop-role-preserved : goal.loop-role-preserved
loop-role-preserved c =
    below_more (IsOfRole c.args.ontology.now c.args.individuals.now c.args.tables.now.rows) c.loop-role.role c.args.entries.now.items c.loop-role.entries.items c.add_links.new.entries.items c.loop-role.invariant
    c.in_ok-add_links.ensures

pub returns : goal.returns
returns c =
    let o = c.args.ontology.now in
    below_all (IsOfRole o c.args.individuals.now c.args.tables.now.rows) c.loop-role.role c.args.entries.now.items c.loop-role.entries.items
    (λ p x found.
    let within : p < length o.roles = role_within o c.args.individuals.now c.args.tables.now.rows p x found in
    let all = c.len-role-end.ensures.len ∙ ap length c.roles.ensures.names in
    let past = c.loop-role-test.false in
    omega arith) c.loop-role.invariant
