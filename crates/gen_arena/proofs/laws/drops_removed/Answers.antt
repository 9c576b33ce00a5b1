use Rattle.gen_arena.proofs.LawLemmas.{drops_removed}
use Rattle.gen_arena.proofs.laws.drops_removed.Goals as goal

pub returns : goal.returns
returns g c = drops_removed
