use Rattle.base_engine.proofs.SmallSteps.{delete_then_add}
use Rattle.base_engine.proofs.laws.delete_then_add.Goals as goal

pub returns : goal.returns
returns c = delete_then_add
