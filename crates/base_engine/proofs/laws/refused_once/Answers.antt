use Rattle.base_engine.proofs.RefusedOnce.{refused_once}
use Rattle.base_engine.proofs.laws.refused_once.Goals as goal

pub returns : goal.returns
returns c = refused_once
