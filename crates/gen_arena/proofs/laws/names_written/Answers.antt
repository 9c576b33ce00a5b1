use Rattle.gen_arena.proofs.StoreLemmas.{writing_changes}
use Rattle.gen_arena.proofs.laws.names_written.Goals as goal

pub returns : goal.returns
returns g c s h old v named = (writing_changes h old v s named).here
