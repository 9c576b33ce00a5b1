use Rattle.gen_arena.proofs.StoreLemmas.{value_changes}
use Rattle.gen_arena.proofs.laws.names_inserted.Goals as goal

pub returns : goal.returns
returns g c s v sound = (value_changes v s sound).here
