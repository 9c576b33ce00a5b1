use Rattle.dl_base.proofs.PathLemmas.{clashes_along_roles}
use Rattle.dl_base.proofs.laws.clashes_along_roles.Goals as goal

pub returns : goal.returns
returns c = clashes_along_roles
