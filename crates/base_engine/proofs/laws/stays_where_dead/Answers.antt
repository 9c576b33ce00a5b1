use Rattle.base_engine.proofs.SmallGenerations.{stays_where_dead}
use Rattle.base_engine.proofs.laws.stays_where_dead.Goals as goal

pub returns : goal.returns
returns c = stays_where_dead
