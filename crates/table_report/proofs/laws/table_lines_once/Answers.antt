use Rattle.table_report.proofs.OrderLemmas.{lines_once}
use Rattle.table_report.proofs.laws.table_lines_once.Goals as goal

pub returns : goal.returns
returns c = λ o rows generation lines others a b. lines_once o rows generation lines others a b
