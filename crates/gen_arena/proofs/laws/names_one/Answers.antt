use Rattle.gen_arena.proofs.LawLemmas.{names_one}
use Rattle.gen_arena.proofs.laws.names_one.Goals as goal

pub returns : goal.returns
returns g c = names_one
