use Rattle.std.proofs.Common.{arith, ap, length}
use Rattle.std.proofs.lemmas.Result.{err_from_is_err_and}
use Rattle.std.proofs.lemmas.List.{length_push}
use Rattle.gen_arena.specs.Places.{store_of}
use Rattle.gen_arena.proofs.StoreLemmas.{are_freed_stays, are_freed_grows}
use Rattle.gen_arena.proofs.ArenaLemmas.{arranged_left, goes, is_gone, left_long, names}
use Rattle.gen_arena.proofs.arena.Arena.remove.Goals as goal
use Rattle.gen_arena.proofs.arena.Arena.remove.Goals.{then-h-lt18446744073709551615, else-h-lt18446744073709551615}

pub returns-in_err-key-clause-gone : goal.returns-in_err-key-clause-gone
returns-in_err-key-clause-gone g c =
    let p = err_from_is_err_and c.from_residual.result c.from_residual.ensures.1 in
    rw (p.1, p.2, ← c.self.view_is) (is_gone c.self.inside.limit c.self.inside.places.items c.self.inside.freed.items c.self.inside.values c.args.h c.in_err-key.field-0.0 (rw c.as_slice.ensures.value at c.in_err-key.ensures.gone))

pub returns-clause-found : goal.returns-clause-found
returns-clause-found g c =
    let placed = rw c.as_slice.ensures.value at c.in_ok-key.ensures.found in
    rw (← c.self.view_is) (names c.self.inside.limit c.self.inside.places.items c.self.inside.freed.items c.self.inside.values c.args.h c.in_ok-key.key c.remove-value.result placed c.remove-value.ensures.value)

pub invariant_of-self : goal.invariant_of-self
invariant_of-self g c =
    let placed = rw c.as_slice.ensures.value at c.in_ok-key.ensures.found in
    let store = store_of c.self.inside.limit c.self.inside.places.items c.self.inside.freed.items c.self.inside.values in
    let grows = are_freed_grows c.args.h store c.push_reserved.new.self.items (omega arith) c.push_reserved.ensures.items in
    rw c.put.ensures.places (
      arranged_left c.self.inside.limit c.self.inside.places.items c.self.inside.freed.items c.self.inside.values c.args.h c.in_ok-key.key c.remove-value.result c.self.invariant.0 placed c.remove-value.ensures.value
          c.remove-value.new.self c.remove-value.ensures.updates c.remove-value.ensures.len c.push_reserved.new.self.items grows (omega (arith, ap length c.push_reserved.ensures.items, length_push c.self.inside.freed.items c.args.h.slot)),
      omega (
        arith,
        left_long c.self.inside.limit c.self.inside.places.items c.self.inside.freed.items c.self.inside.values c.args.h c.in_ok-key.key c.remove-value.result c.self.invariant.0 placed c.remove-value.ensures.value
            c.remove-value.new.self c.remove-value.ensures.updates c.remove-value.ensures.len,
        c.push_reserved.ensures.capacity,
        c.self.invariant.1,
      ),
    )

pub invariant_of-self-else-h-lt18446744073709551615 : goal.invariant_of-self-else-h-lt18446744073709551615
invariant_of-self-else-h-lt18446744073709551615 g c =
    let placed = rw c.as_slice.ensures.value at c.in_ok-key.ensures.found in
    let store = store_of c.self.inside.limit c.self.inside.places.items c.self.inside.freed.items c.self.inside.values in
    let stays = are_freed_stays c.args.h store (omega arith) (omega arith) in
    rw c.put.ensures.places (
      arranged_left c.self.inside.limit c.self.inside.places.items c.self.inside.freed.items c.self.inside.values c.args.h c.in_ok-key.key c.remove-value.result c.self.invariant.0 placed c.remove-value.ensures.value
          c.remove-value.new.self c.remove-value.ensures.updates c.remove-value.ensures.len c.self.inside.freed.items stays (omega arith),
      omega (
        arith,
        left_long c.self.inside.limit c.self.inside.places.items c.self.inside.freed.items c.self.inside.values c.args.h c.in_ok-key.key c.remove-value.result c.self.invariant.0 placed c.remove-value.ensures.value
            c.remove-value.new.self c.remove-value.ensures.updates c.remove-value.ensures.len,
        c.self.invariant.1,
      ),
    )

pub returns-clause-ok : goal.returns-clause-ok
returns-clause-ok g c =
    let placed = rw c.as_slice.ensures.value at c.in_ok-key.ensures.found in
    let store = store_of c.self.inside.limit c.self.inside.places.items c.self.inside.freed.items c.self.inside.values in
    let gone = goes c.self.inside.limit c.self.inside.places.items c.self.inside.freed.items c.self.inside.values c.args.h c.in_ok-key.key c.remove-value.result c.self.invariant.0 placed c.remove-value.ensures.value
    c.remove-value.new.self c.remove-value.ensures.updates c.remove-value.ensures.len in
    elim c.if-h-lt18446744073709551615.branch [
      | then-h-lt18446744073709551615 w ↦
          rw (w.self-is, ← c.self.view_is, c.put.ensures.places) (gone w.push_reserved.new.self.items (are_freed_grows c.args.h store w.push_reserved.new.self.items (omega arith) w.push_reserved.ensures.items))
      | else-h-lt18446744073709551615 w ↦
          rw (w.self-is, ← c.self.view_is, c.put.ensures.places) (gone c.self.inside.freed.items (are_freed_stays c.args.h store (omega arith) (omega arith)))
    ]
