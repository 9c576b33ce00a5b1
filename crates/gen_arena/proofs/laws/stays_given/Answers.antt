use Rattle.gen_arena.proofs.LawLemmas.{stays_given}
use Rattle.gen_arena.proofs.laws.stays_given.Goals as goal

pub returns : goal.returns
returns g c = stays_given
