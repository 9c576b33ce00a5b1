use Rattle.gen_arena.proofs.LawLemmas.{stays_dropped}
use Rattle.gen_arena.proofs.laws.stays_dropped.Goals as goal

pub returns : goal.returns
returns g c = stays_dropped
