use Rattle.gen_arena.proofs.LawLemmas.{names_on}
use Rattle.gen_arena.proofs.laws.names_on.Goals as goal

pub returns : goal.returns
returns g c = names_on
