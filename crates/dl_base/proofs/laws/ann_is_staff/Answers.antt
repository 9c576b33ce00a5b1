use Rattle.dl_base.proofs.Examples.{ann_is_staff}
use Rattle.dl_base.proofs.laws.ann_is_staff.Goals as goal

pub returns : goal.returns
returns c = ann_is_staff
