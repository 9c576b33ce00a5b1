use Rattle.std.proofs.Common.{sym, subst}
use Rattle.clash_report.specs.Report.{AreWithinNames}
use Rattle.base_reasoner.specs.Reasoned.{Reasoned}
use Rattle.base_reasoner.proofs.reasoner.Reasoner.clash.Goals as goal

pub first_clash-requires-clause-numbered : goal.first_clash-requires-clause-numbered
first_clash-requires-clause-numbered c = subst (λ (r : Reasoned). AreWithinNames r.tables c.args.individuals.now) (sym c.self.view_is) c.requires
