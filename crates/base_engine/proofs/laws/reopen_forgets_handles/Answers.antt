use Rattle.base_engine.proofs.SmallHandles.{reopen_forgets_handles}
use Rattle.base_engine.proofs.laws.reopen_forgets_handles.Goals as goal

pub returns : goal.returns
returns c = reopen_forgets_handles
