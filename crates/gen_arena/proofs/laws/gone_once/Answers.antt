use Rattle.gen_arena.proofs.LawLemmas.{gone_once}
use Rattle.gen_arena.proofs.laws.gone_once.Goals as goal

pub returns : goal.returns
returns g c = gone_once
