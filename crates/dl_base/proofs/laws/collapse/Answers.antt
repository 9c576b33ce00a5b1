use Rattle.dl_base.proofs.CollapseLemmas.{collapses}
use Rattle.dl_base.proofs.laws.collapse.Goals as goal

pub returns : goal.returns
returns c = collapses
