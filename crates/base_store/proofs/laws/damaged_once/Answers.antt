use Rattle.base_store.proofs.Areas.{damaged_once}
use Rattle.base_store.proofs.laws.damaged_once.Goals as goal

pub returns : goal.returns
returns c = damaged_once
