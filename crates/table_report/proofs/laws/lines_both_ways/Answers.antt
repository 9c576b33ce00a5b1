use Rattle.table_report.proofs.SmallBases.{lines_both_ways}
use Rattle.table_report.proofs.laws.lines_both_ways.Goals as goal

pub returns : goal.returns
returns c = lines_both_ways
