use Rattle.host_io.proofs.LawLemmas.{cut_may_tear}
use Rattle.host_io.proofs.laws.cut_may_tear.Goals as goal

pub returns : goal.returns
returns c = cut_may_tear
