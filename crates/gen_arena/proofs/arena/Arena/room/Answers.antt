use Rattle.std.proofs.Common.{arith}
use Rattle.gen_arena.proofs.ArenaLemmas.{places_few}
use Rattle.gen_arena.proofs.arena.Arena.room.Goals as goal

pub overflow_cast-result : goal.overflow_cast-result
overflow_cast-result g c = let few = places_few _ _ _ _ c.self.invariant.0 in omega (arith, few)
