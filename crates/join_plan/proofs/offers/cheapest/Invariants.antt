use Rattle.join_plan.specs.Choice.{IsCheapest}
use Rattle.join_plan.proofs.offers.cheapest.Given as goal

abbrev pub invariant-loop-index : goal.invariant-loop-index
invariant-loop-index l = IsCheapest l.left l.index l.known l.best
