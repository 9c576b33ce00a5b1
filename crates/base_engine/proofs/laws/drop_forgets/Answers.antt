use Rattle.base_engine.proofs.SmallHandles.{drop_forgets}
use Rattle.base_engine.proofs.laws.drop_forgets.Goals as goal

pub returns : goal.returns
returns c = drop_forgets
