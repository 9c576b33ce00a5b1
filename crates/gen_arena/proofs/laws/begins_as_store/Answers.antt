use Rattle.gen_arena.proofs.LawLemmas.{begins_as_store}
use Rattle.gen_arena.proofs.laws.begins_as_store.Goals as goal

pub returns : goal.returns
returns g c = begins_as_store
