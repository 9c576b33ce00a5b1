use Rattle.assert_tables.proofs.CountLemmas.{all_gain}
use Rattle.completion.specs.Numbered.{IsRowOf}
use Rattle.clash_report.proofs.tests.add.Goals as goal

pub returns-in_ok-add : goal.returns-in_ok-add
returns-in_ok-add c = all_gain (IsRowOf c.args.rules.now) c.args.row c.args.base.now c.add.new.self c.in_ok-add.ensures.ok (c.fits.ensures.0 c.if-fits.true) c.requires
