use Rattle.gen_arena.proofs.LawLemmas.{live_was_given}
use Rattle.gen_arena.proofs.laws.live_was_given.Goals as goal

pub returns : goal.returns
returns g c = live_was_given
