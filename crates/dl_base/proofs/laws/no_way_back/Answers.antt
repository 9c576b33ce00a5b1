use Rattle.std.proofs.Common.{refl}
use Rattle.dl_base.proofs.laws.no_way_back.Goals as goal

pub returns : goal.returns
returns c = λ o r points. points.not_back refl
