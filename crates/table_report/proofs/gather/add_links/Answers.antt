use Rattle.std.proofs.Common.{false}
use Rattle.dl_base.specs.Tables.{HasEdge}
use Rattle.table_report.specs.Gathered.{IsOfRole, IsOfSource}
use Rattle.table_report.proofs.AddsLemmas.{adds_as, reached_none, reached_more, reached_all}
use Rattle.table_report.proofs.RoomLemmas.{from_falls}
use Rattle.table_report.proofs.gather.add_links.Goals as goal

pub loop-from-init : goal.loop-from-init
loop-from-init c =
    reached_none (HasEdge c.args.tables.now.rows (record { name = c.args.role; inverse = false })) (IsOfSource c.args.ontology.now c.args.individuals.now c.args.tables.now.rows c.args.role) c.args.entries.now.items

pub loop-from-smaller : goal.loop-from-smaller
loop-from-smaller c = from_falls c.args.tables.now.rows c.loop-from.last c.args.role c.in-Some.from c.in-Some.ensures.0.0 c.in-Some.ensures.1 c.in-Some.ensures.0.1

pub loop-from-preserved : goal.loop-from-preserved
loop-from-preserved c =
    reached_more (HasEdge c.args.tables.now.rows (record { name = c.args.role; inverse = false })) (IsOfSource c.args.ontology.now c.args.individuals.now c.args.tables.now.rows c.args.role)
    c.loop-from.last c.in-Some.from c.in-Some.ensures c.args.entries.now.items c.loop-from.entries.items c.add_targets.new.entries.items c.loop-from.invariant c.in_ok-add_targets.ensures

pub returns : goal.returns
returns c =
    let o = c.args.ontology.now in
    let names = c.args.individuals.now in
    let table = c.args.tables.now.rows in
    let p = c.args.role in
    adds_as (λ x. (e : _) × HasEdge table (record { name = p; inverse = false }) e × IsOfSource o names table p e x) (IsOfRole o names table p) c.args.entries.now.items c.loop-from.entries.items
    (λ x. (λ found. (found.0, found.2), λ found. (found.0, (found.1.0, found.1.1), found.1)))
    (reached_all (HasEdge table (record { name = p; inverse = false })) (IsOfSource o names table p) c.loop-from.last c.args.entries.now.items c.loop-from.entries.items c.in_default.ensures c.loop-from.invariant)
