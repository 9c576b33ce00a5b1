use Rattle.gen_arena.proofs.LawLemmas.{stays_a_store}
use Rattle.gen_arena.proofs.laws.stays_a_store.Goals as goal

pub returns : goal.returns
returns g c = stays_a_store
