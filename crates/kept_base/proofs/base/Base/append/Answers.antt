use Rattle.std.proofs.Common.{◌+◌, arith}
use Rattle.kept_base.proofs.SoundBases.{more_sound}
use Rattle.kept_base.proofs.base.Base.append.Goals as goal

pub invariant_of-self-2 : goal.invariant_of-self-2
invariant_of-self-2 c = more_sound _ c.args.self.now c.self.view_is c.args.session c.append.new.self (c.self.inside.contents.steps + 1) (omega arith) c.self.invariant c.args.change c.in_ok-append.ensures.ok c.requires.room
