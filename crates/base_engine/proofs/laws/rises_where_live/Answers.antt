use Rattle.base_engine.proofs.SmallGenerations.{rises_where_live}
use Rattle.base_engine.proofs.laws.rises_where_live.Goals as goal

pub returns : goal.returns
returns c = rises_where_live
