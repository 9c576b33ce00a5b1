use Rattle.base_engine.proofs.SmallGenerations.{begins_afresh}
use Rattle.base_engine.proofs.laws.begins_afresh.Goals as goal

pub returns : goal.returns
returns c = begins_afresh
