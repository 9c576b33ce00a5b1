use Rattle.std.proofs.Common.{refl, min, vec_capacity}
use Rattle.std.proofs.Common.{inl}
use Rattle.std.proofs.lemmas.Result.{err_from_is_err_and}
use Rattle.gen_arena.proofs.ArenaLemmas.{is_gone, arranged_written, written_view, names}
use Rattle.gen_arena.proofs.arena.Arena.get_mut.Goals as goal

pub returns-in_err-key : goal.returns-in_err-key
returns-in_err-key g c =
    let p = err_from_is_err_and c.from_residual.result c.from_residual.ensures.1 in
    let gone = is_gone c.self.inside.limit c.self.inside.places.items c.self.inside.freed.items c.self.inside.values c.args.h c.in_err-key.field-0.0 (rw c.as_slice.ensures.value at c.in_err-key.ensures.gone) in
    rw (p.1, p.2, ← c.self.view_is) (refl, record { writes_back = tt; found = tt; gone = gone })

pub invariant_of-self-lent : goal.invariant_of-self-lent
invariant_of-self-lent g c w =
    let placed = rw c.as_slice.ensures.value at c.in_ok-key.ensures.found in (
      arranged_written c.self.inside.limit c.self.inside.places.items c.self.inside.freed.items c.self.inside.values c.args.h c.in_ok-key.key c.index_mut.result.now c.self.invariant.0 placed c.index_mut.ensures.value w,
      c.self.invariant.1,
    )

pub returns : goal.returns
returns g c =
    let placed = rw c.as_slice.ensures.value at c.in_ok-key.ensures.found in
    let named = names c.self.inside.limit c.self.inside.places.items c.self.inside.freed.items c.self.inside.values c.args.h c.in_ok-key.key c.index_mut.result.now placed c.index_mut.ensures.value in
    let writes = written_view c.self.inside.limit c.self.inside.places.items c.self.inside.freed.items c.self.inside.values c.args.h c.in_ok-key.key c.index_mut.result.now c.self.invariant.0 placed c.index_mut.ensures.value in
    rw (← c.self.view_is) (
      (λ i. inl (c.index_mut.result.ghost_name, λ w. (writes w (min (vec_capacity c.self.inside.places) (vec_capacity c.self.inside.freed))) i)),
      record { writes_back = tt; found = named; gone = tt },
    )
