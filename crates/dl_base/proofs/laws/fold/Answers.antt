use Rattle.dl_base.proofs.FoldLemmas.{folds_to_match}
use Rattle.dl_base.proofs.laws.fold.Goals as goal

pub returns : goal.returns
returns c = folds_to_match
