use Rattle.row_changes.proofs.NumberLemmas.{newcomer_taken}
use Rattle.row_changes.proofs.numbers.take_newcomers.Goals as goal

pub loop-number-preserved : goal.loop-number-preserved
loop-number-preserved c =
    newcomer_taken c.args.individuals.now c.args.newcomers.now c.loop-number.individuals c.intern.new.self c.loop-number.number c.name.result.now c.in_ok-intern.field-0 c.requires.distinct c.name.ensures
    c.loop-number.invariant c.in_ok-intern.ensures.ok
