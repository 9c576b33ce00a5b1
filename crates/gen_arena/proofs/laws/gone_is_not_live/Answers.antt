use Rattle.gen_arena.proofs.LawLemmas.{gone_is_not_live}
use Rattle.gen_arena.proofs.laws.gone_is_not_live.Goals as goal

pub returns : goal.returns
returns g c = gone_is_not_live
