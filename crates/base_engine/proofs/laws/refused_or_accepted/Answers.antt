use Rattle.base_engine.proofs.Verdicts.{refused_or_accepted}
use Rattle.base_engine.proofs.laws.refused_or_accepted.Goals as goal

pub returns : goal.returns
returns c = refused_or_accepted
