use Rattle.std.proofs.Common.{◌+◌, arith}
use Rattle.kept_base.proofs.PreparedQueries.{keep_sound}
use Rattle.kept_base.proofs.base.Base.keep.Goals as goal

pub invariant_of-self : goal.invariant_of-self
invariant_of-self c =
    keep_sound _ c.args.self.now c.self.view_is c.self.invariant c.insert.new.self.store c.args.query c.in-Ok.ensures.ok c.requires.room c.requires.known (c.self.inside.contents.steps + 1) (omega arith)
