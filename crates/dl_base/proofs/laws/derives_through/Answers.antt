use Rattle.std.proofs.Common.{Contains}
use Rattle.dl_base.proofs.DerivationLemmas.{cut}
use Rattle.dl_base.proofs.laws.derives_through.Goals as goal

pub returns : goal.returns
returns c = λ inclusions few many from b d. cut inclusions (Contains many) (Contains few) from d
