use Rattle.table_report.proofs.SmallBases.{lines_of_successor}
use Rattle.table_report.proofs.laws.lines_of_successor.Goals as goal

pub returns : goal.returns
returns c = lines_of_successor
