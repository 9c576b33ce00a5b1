use Rattle.std.proofs.Common.{◌∙◌}
use Rattle.clash_report.proofs.AfterLemmas.{keeps_known}
use Rattle.clash_report.proofs.order.lesser.Goals as goal

pub returns-in_default : goal.returns-in_default
returns-in_default c = keeps_known c.args.o.now c.args.known c.args.other c.in-Some.c c.in-Some-other.d c.in-Some.is c.in-Some-other.is (λ less. c.in_default.not-Less (c.compared_clashes.ensures ∙ less))
