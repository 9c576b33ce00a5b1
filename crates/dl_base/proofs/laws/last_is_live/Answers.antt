use Rattle.dl_base.proofs.FoldLemmas.{last_is_live}
use Rattle.dl_base.proofs.laws.last_is_live.Goals as goal

pub returns : goal.returns
returns c = last_is_live
