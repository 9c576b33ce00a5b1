use Rattle.std.proofs.lemmas.Result.{err_from_is_err_and}
use Rattle.gen_arena.proofs.ArenaLemmas.{is_gone}
use Rattle.gen_arena.proofs.arena.Arena.get.Goals as goal

pub returns-in_err-key_of-clause-gone : goal.returns-in_err-key_of-clause-gone
returns-in_err-key_of-clause-gone g c =
    let p = err_from_is_err_and c.from_residual.result c.from_residual.ensures.1 in
    rw (p.1, p.2, ← c.self.view_is) (is_gone c.self.inside.limit c.self.inside.places.items c.self.inside.freed.items c.self.inside.values c.args.h c.in_err-key_of.field-0.0 (rw c.as_slice.ensures.value at c.in_err-key_of.ensures.gone))
