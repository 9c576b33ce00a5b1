use Rattle.base_store.proofs.Told.{gate_stands_at_used}
use Rattle.base_store.proofs.laws.gate_stands_at_used.Goals as goal

pub returns : goal.returns
returns c = gate_stands_at_used
