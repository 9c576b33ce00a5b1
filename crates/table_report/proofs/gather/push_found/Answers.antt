use Rattle.table_report.proofs.AddsLemmas.{adds_found}
use Rattle.table_report.proofs.gather.push_found.Goals as goal

pub returns-in_ok-push : goal.returns-in_ok-push
returns-in_ok-push c = adds_found c.args.entries.now.items c.push.new.self.items c.args.found c.in-Some.entry c.in-Some.is c.in_ok-push.ensures.items
