use Rattle.dl_base.proofs.ClashExamples.{clashes_in_order}
use Rattle.dl_base.proofs.laws.clashes_in_order.Goals as goal

pub returns : goal.returns
returns c = clashes_in_order
