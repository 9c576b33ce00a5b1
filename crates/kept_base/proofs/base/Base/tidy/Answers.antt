use Rattle.kept_base.proofs.DecidedRefusals.{tidy_steps}
use Rattle.kept_base.proofs.base.Base.tidy.Goals as goal

pub returns-clause-step : goal.returns-clause-step
returns-clause-step c = tidy_steps c.args.self.now
