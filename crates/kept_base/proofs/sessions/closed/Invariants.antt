use Rattle.std.proofs.Common.{◌≡◌, List, Option, None, length, All}
use Rattle.dl_base.specs.declared.row.NamedChange.{NamedChange}
use Rattle.kept_base.proofs.sessions.closed.Given as goal

abbrev pub invariant-loop : goal.invariant-loop
invariant-loop l = (length l.list.items ≡ l.counter) × All (λ (session : Option (List NamedChange)). session ≡ None) l.list.items
