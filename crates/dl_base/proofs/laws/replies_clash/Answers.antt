use Rattle.dl_base.proofs.ClashExamples.{clashes_in_order}
use Rattle.dl_base.proofs.laws.replies_clash.Goals as goal

pub returns : goal.returns
returns c = λ q. clashes_in_order
