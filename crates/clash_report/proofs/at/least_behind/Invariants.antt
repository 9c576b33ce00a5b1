use Rattle.std.specs.Option.{option_copied}
use Rattle.dl_base.specs.Sets.{HasBasic}
use Rattle.clash_report.specs.After.{IsLeastBehind}
use Rattle.clash_report.proofs.at.least_behind.Given as goal

abbrev pub invariant-loop-place : goal.invariant-loop-place
invariant-loop-place l = IsLeastBehind l.o (HasBasic l.closed.derived) l.place (option_copied l.least)
