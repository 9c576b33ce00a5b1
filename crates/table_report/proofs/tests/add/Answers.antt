use Rattle.assert_tables.proofs.CountLemmas.{all_gain}
use Rattle.completion.specs.Numbered.{IsRowOf}
use Rattle.dl_base.specs.declared.row.Row.TheVariants as row
use Rattle.table_report.proofs.tests.add.Goals as goal

pub returns-in_ok-add : goal.returns-in_ok-add
returns-in_ok-add c = all_gain (IsRowOf c.args.rules.now) (row.Concept c.args.concept c.args.individual) c.args.base.now c.add.new.self c.in_ok-add.ensures.ok (c.fits.ensures.0 c.if-fits.true) c.requires
