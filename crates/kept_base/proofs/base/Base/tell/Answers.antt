use Rattle.std.proofs.Common.{subst}
use Rattle.kept_base.specs.Base.{IsSoundBase}
use Rattle.kept_base.proofs.SoundBases.{has_completed}
use Rattle.kept_base.proofs.base.Base.tell.Goals as goal

pub returns-clause-completed : goal.returns-clause-completed
returns-clause-completed c = has_completed c.args.self.now (subst IsSoundBase c.self.view_is c.self.invariant)
