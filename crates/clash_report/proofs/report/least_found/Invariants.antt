use Rattle.std.proofs.Common.{List, ◌-◌, length}
use Rattle.completion.specs.Named.{IsNamedCompletion}
use Rattle.dl_base.specs.declared.row.NamedRow.{NamedRow}
use Rattle.clash_report.specs.Report.{IsInside, IsLeastFound}
use Rattle.clash_report.proofs.ReportLemmas.{past_last}
use Rattle.clash_report.proofs.report.least_found.Given as goal

abbrev pub invariant-loop-n : goal.invariant-loop-n
invariant-loop-n l = record {
  inside : IsInside l.o l.individuals l.found;
  least : (rows : List NamedRow) → IsNamedCompletion l.o l.individuals rows l.t → IsLeastFound l.o rows l.individuals (past_last l.last) l.found;
}

abbrev pub decreases-loop-n : goal.decreases-loop-n
decreases-loop-n l = length l.individuals - past_last l.last
