use Rattle.std.proofs.Common.{arith}
use Rattle.gen_arena.proofs.ArenaLemmas.{arranged_capacity}
use Rattle.gen_arena.proofs.arena.Arena.reserve.Goals as goal

pub invariant_of-self-2 : goal.invariant_of-self-2
invariant_of-self-2 g c =
    rw (c.reserve_slots.ensures.places, c.reserve_slots.ensures.freed) (
      arranged_capacity c.self.inside.limit c.self.inside.places.items c.self.inside.freed.items c.self.inside.values c.reserve.new.self c.reserve.ensures.rest_kept c.self.invariant.0,
      omega (arith, c.reserve_slots.ensures.freed_capacity, c.self.invariant.1),
    )

pub returns-clause-succeeds : goal.returns-clause-succeeds
returns-clause-succeeds g c some enough =
    let room = rw (← c.self.view_is) at enough in
    c.reserve.ensures.succeeds (omega arith)
