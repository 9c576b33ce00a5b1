use Rattle.dl_base.proofs.ClashLemmas.{answers_once}
use Rattle.dl_base.proofs.laws.answers_once.Goals as goal

pub returns : goal.returns
returns c = λ o rows q keys others a b. answers_once o rows q keys others a b
