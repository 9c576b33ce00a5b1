use Rattle.std.proofs.Common.{subst}
use Rattle.clash_report.specs.Report.{IsReported}
use Rattle.base_reasoner.proofs.FoundReplies.{check_clash, check_consistent}
use Rattle.base_reasoner.proofs.reasoner.Reasoner.check.Goals as goal

pub returns-in-Some : goal.returns-in-Some
returns-in-Some c = λ rows named. check_clash c.args.self.now.ontology rows c.in-Some.clash (subst (IsReported c.args.self.now.ontology rows) c.in-Some.is (c.in_ok-clash.ensures rows named))

pub returns-in-None : goal.returns-in-None
returns-in-None c = λ rows named. check_consistent c.args.self.now.ontology rows (subst (IsReported c.args.self.now.ontology rows) c.in-None.is (c.in_ok-clash.ensures rows named))
