use Rattle.std.proofs.Common.{refl}
use Rattle.dl_base.specs.declared.row.Row.TheVariants as row
use Rattle.assert_tables.specs.Rows.{individuals_of}
use Rattle.assert_tables.proofs.CountLemmas.{individuals_rise, one_name, two_names}
use Rattle.assert_tables.proofs.assertions.newcomers.Goals as goal

pub returns-in-Concept : goal.returns-in-Concept
returns-in-Concept c = rw c.in-Concept.is (one_name (individuals_of c.args.set.now) (row.Concept c.in-Concept.concept c.in-Concept.individual) c.newcomer.result (individuals_rise c.args.set.now) refl c.newcomer.ensures)

pub returns-then-from-to : goal.returns-then-from-to
returns-then-from-to c = rw c.in-Role.is (one_name (individuals_of c.args.set.now) (row.Role c.in-Role.role c.in-Role.from c.in-Role.to) c.newcomer-then-from-to.result (individuals_rise c.args.set.now) c.if-from-to.true c.newcomer-then-from-to.ensures)

pub returns-else-from-to : goal.returns-else-from-to
returns-else-from-to c = rw c.in-Role.is (two_names (individuals_of c.args.set.now) (row.Role c.in-Role.role c.in-Role.from c.in-Role.to) c.newcomer-else-from-to.result c.newcomer-else-from-to-2.result (individuals_rise c.args.set.now) c.if-from-to.false c.newcomer-else-from-to.ensures c.newcomer-else-from-to-2.ensures)
