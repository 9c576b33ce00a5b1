use Rattle.base_engine.proofs.SmallSteps.{add_then_delete}
use Rattle.base_engine.proofs.laws.add_then_delete.Goals as goal

pub returns : goal.returns
returns c = add_then_delete
