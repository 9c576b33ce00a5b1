use Rattle.std.proofs.Common.{arith, refl}
use Rattle.dl_base.proofs.SetLemmas.{set_adds}
use Rattle.dl_base.proofs.sets.set_bit.Goals as goal

pub returns : goal.returns
returns c = λ p. (set_adds c.args.words.now c.args.at _ (omega arith) refl).each p
