use Rattle.dl_base.proofs.SetLemmas.{basic_added}
use Rattle.dl_base.proofs.sets.BasicSet.add.Goals as goal

pub returns : goal.returns
returns c = λ b. basic_added c.args.self.now c.set_bit.new.words c.args.b b c.requires (record { each = rw (c.place.ensures.place, c.self.view_is) at c.set_bit.ensures })
