use Rattle.axiom_reader.proofs.BlockRules.{taken}
use Rattle.axiom_reader.proofs.block.step.Goals as goal

pub returns-in-Some : goal.returns-in-Some
returns-in-Some c = taken c.args.ontology c.args.text.now c.in-Some.found c.extended.result (rw c.in-Some.is at c.in_ok-found.ensures) c.extended.ensures
