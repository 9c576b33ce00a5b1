use Rattle.dl_base.proofs.ClashLemmas.{first_clash_once}
use Rattle.dl_base.proofs.laws.first_clash_once.Goals as goal

pub returns : goal.returns
returns c = λ o rows c d t a b. first_clash_once o rows t c d a b
