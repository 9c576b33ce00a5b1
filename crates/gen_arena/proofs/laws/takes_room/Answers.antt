use Rattle.gen_arena.proofs.LawLemmas.{takes_room}
use Rattle.gen_arena.proofs.laws.takes_room.Goals as goal

pub returns : goal.returns
returns g c = takes_room
