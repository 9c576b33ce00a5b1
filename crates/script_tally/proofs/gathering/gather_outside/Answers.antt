use Rattle.std.specs.Option.{option_copied}
use Rattle.script_tally.proofs.GatherLemmas.{gathers_nothing, gathers_opens, gathers_single}
use Rattle.script_tally.proofs.gathering.gather_outside.Goals as goal

pub returns-in-Nothing : goal.returns-in-Nothing
returns-in-Nothing c = λ tokens g. gathers_nothing tokens c.args.requests.now (option_copied c.args.line) g (rw c.in-Nothing.is at c.in_ok-read_line.ensures)

pub returns-in_ok-new-in-Opens : goal.returns-in_ok-new-in-Opens
returns-in_ok-new-in-Opens c = λ tokens g.
    gathers_opens tokens c.args.requests.now (option_copied c.args.line) c.in_ok-new-in-Opens.field-0 g (rw c.in-Opens.is at c.in_ok-read_line.ensures) c.in_ok-new-in-Opens.ensures

pub returns-in_ok-push-in-Asks : goal.returns-in_ok-push-in-Asks
returns-in_ok-push-in-Asks c = λ tokens g.
    gathers_single tokens c.args.requests.now (option_copied c.args.line) c.in-Asks.request c.push.new.self g (rw c.in-Asks.is at c.in_ok-read_line.ensures) c.in_ok-push-in-Asks.ensures.ok
