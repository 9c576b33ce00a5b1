use Rattle.gen_arena.proofs.LawLemmas.{next_is_new}
use Rattle.gen_arena.proofs.laws.gives_new_ones.Goals as goal

pub returns : goal.returns
returns g c = next_is_new
