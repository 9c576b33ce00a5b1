use Rattle.dl_base.proofs.SetLemmas.{role_added}
use Rattle.dl_base.proofs.sets.RoleSet.add.Goals as goal

pub returns : goal.returns
returns c = λ s. role_added c.args.self.now c.set_bit.new.words c.args.r s c.requires (record { each = rw (c.role_place.ensures.place, c.self.view_is) at c.set_bit.ensures })
