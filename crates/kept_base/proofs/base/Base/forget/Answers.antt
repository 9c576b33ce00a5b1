use Rattle.std.proofs.Common.{◌+◌, arith}
use Rattle.kept_base.proofs.PreparedQueries.{forget_sound}
use Rattle.kept_base.proofs.base.Base.forget.Goals as goal

pub invariant_of-self-2 : goal.invariant_of-self-2
invariant_of-self-2 c =
    forget_sound _ c.self.invariant c.remove.new.self.store c.args.handle c.in_ok-remove.field-0 c.in_ok-remove.ensures.found c.in_ok-remove.ensures.ok (c.self.inside.contents.steps + 1) (omega arith)
