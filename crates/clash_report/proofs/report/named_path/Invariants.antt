use Rattle.std.proofs.Common.{take}
use Rattle.clash_report.specs.Report.{AreNamedRoles}
use Rattle.clash_report.proofs.report.named_path.Given as goal

abbrev pub invariant-loop-r : goal.invariant-loop-r
invariant-loop-r l = AreNamedRoles l.o (take l.r-index l.path) l.named
