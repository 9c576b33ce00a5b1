use Rattle.dl_base.proofs.ShortExamples.{back_is_not_short}
use Rattle.dl_base.proofs.laws.back_is_not_short.Goals as goal

pub returns : goal.returns
returns c = back_is_not_short
