use Rattle.std.proofs.Common.{◌+◌, arith}
use Rattle.kept_base.proofs.SoundBases.{put_sound}
use Rattle.kept_base.proofs.base.Base.put.Goals as goal

pub invariant_of-self : goal.invariant_of-self
invariant_of-self c = put_sound _ c.args.self.now c.self.view_is c.args.session c.put.new.self (c.self.inside.contents.steps + 1) (omega arith) c.self.invariant c.args.changes c.put.ensures c.requires.sound
