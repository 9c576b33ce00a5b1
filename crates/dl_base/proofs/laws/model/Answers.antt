use Rattle.dl_base.proofs.ModelLemmas.{unfolding_model}
use Rattle.dl_base.proofs.laws.model.Goals as goal

pub returns : goal.returns
returns c = unfolding_model
