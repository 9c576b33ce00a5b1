use Rattle.std.proofs.Common.{◌≡◌, Some, Contains, Option, subst}
use Rattle.dl_base.specs.Tables.{RoleRow}
use Rattle.table_report.specs.Gathered.{AddsAll, row_entry}
use Rattle.table_report.specs.TableLines.{Entry}
use Rattle.table_report.proofs.AddsLemmas.{reached_none, reached_more, reached_all}
use Rattle.table_report.proofs.RoomLemmas.{to_falls}
use Rattle.table_report.proofs.gather.add_targets.Goals as goal

pub loop-to-init : goal.loop-to-init
loop-to-init c =
    reached_none (λ f. Contains c.args.tables.now.rows (RoleRow c.args.role c.args.from f)) (λ f x. row_entry c.args.ontology.now c.args.individuals.now (RoleRow c.args.role c.args.from f) ≡ Some x)
    c.args.entries.now.items

pub loop-to-smaller : goal.loop-to-smaller
loop-to-smaller c = to_falls c.args.tables.now.rows c.loop-to.last c.args.role c.args.from c.in-Some.to c.in-Some.ensures.1 c.in-Some.ensures.0

pub loop-to-preserved : goal.loop-to-preserved
loop-to-preserved c =
    reached_more (λ f. Contains c.args.tables.now.rows (RoleRow c.args.role c.args.from f)) (λ f x. row_entry c.args.ontology.now c.args.individuals.now (RoleRow c.args.role c.args.from f) ≡ Some x)
    c.loop-to.last c.in-Some.to c.in-Some.ensures c.args.entries.now.items c.loop-to.entries.items c.push_found.new.entries.items c.loop-to.invariant
    (subst (λ (found : Option Entry). AddsAll (λ x. found ≡ Some x) c.loop-to.entries.items c.push_found.new.entries.items) c.role_entry-found.ensures c.in_ok-push_found.ensures)

pub returns : goal.returns
returns c =
    reached_all (λ f. Contains c.args.tables.now.rows (RoleRow c.args.role c.args.from f)) (λ f x. row_entry c.args.ontology.now c.args.individuals.now (RoleRow c.args.role c.args.from f) ≡ Some x)
    c.loop-to.last c.args.entries.now.items c.loop-to.entries.items c.in_default.ensures c.loop-to.invariant
