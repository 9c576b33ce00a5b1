use Rattle.std.proofs.Common.{◌≡◌, ◌≤◌, None, length}
use Rattle.base_store.proofs.tests.end_of.Given as goal

abbrev pub invariant-loop : goal.invariant-loop
invariant-loop g l = record {
  untold : g.H.Host.disk l.host ≡ None;
  room : 8388608 ≤ length l.buf;
}
