use Rattle.base_store.proofs.Areas.{keeps_once}
use Rattle.base_store.proofs.laws.keeps_once.Goals as goal

pub returns : goal.returns
returns c = keeps_once
