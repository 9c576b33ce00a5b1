use Rattle.dl_base.proofs.ClashLemmas.{replies_once}
use Rattle.dl_base.proofs.laws.replies_once.Goals as goal

pub returns : goal.returns
returns c = λ o rows q reply other t a b. replies_once o rows t q reply other a b
