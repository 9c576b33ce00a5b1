-- What an arena ends as, where a `&mut` to one of its values is returned.
use Rattle.std.specs.Prelude.{Result}
use Rattle.std.specs.Borrow.{LendsIfOk, Fml, RattleType, MutBor}
use Rattle.gen_arena.specs.Store.{ReservedStore, with_written}
use Rattle.gen_arena.specs.declared.handle.Handle.{Handle}
use Rattle.gen_arena.specs.declared.handle.Gone.{Gone}
use Rattle.gen_arena.specs.contracts.arena.Arena.{the_row}

-- once the borrow r ends, the handle names the last value written through r; at `Err` the arena stays as it is
abbrev pub lends_value : (T : RattleType) → MutBor (ReservedStore T.Denot) → Handle → Result (MutBor T.Denot) Gone → Fml
lends_value T a h r = LendsIfOk (the_row T) T a r (λ v. record { store = with_written h v a.now.store; spare = a.now.spare }) a.now
