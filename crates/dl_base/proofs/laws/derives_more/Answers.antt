use Rattle.std.proofs.Common.{Contains}
use Rattle.dl_base.proofs.DerivationLemmas.{monotone}
use Rattle.dl_base.proofs.laws.derives_more.Goals as goal

pub returns : goal.returns
returns c = λ inclusions few many from b d. monotone inclusions (Contains few) (Contains many) from d
