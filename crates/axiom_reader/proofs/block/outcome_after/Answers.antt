use Rattle.std.specs.Option.{option_copied}
use Rattle.axiom_reader.proofs.BlockRules.{gives_more}
use Rattle.axiom_reader.proofs.block.outcome_after.Goals as goal

pub returns-in-Ok-2 : goal.returns-in-Ok-2
returns-in-Ok-2 c = λ lines comes place.
    gives_more c.in-Ok.ontology c.in-Ok-2.new lines (option_copied c.args.line) (rw c.in-Ok.is at comes) (rw c.in-Ok-2.is at c.in_ok-new-in-Ok.ensures)
