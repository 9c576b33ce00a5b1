use Rattle.gen_arena.proofs.LawLemmas.{gives_the_next}
use Rattle.gen_arena.proofs.laws.gives_the_next.Goals as goal

pub returns : goal.returns
returns g c = gives_the_next
