use Rattle.std.proofs.Common.{◌≡◌, ◌≤◌, ◌-◌, length}
use Rattle.std.specs.Option.{ForSome}
use Rattle.host_io.specs.Moments.{LeavesOnly}
use Rattle.gated_log.specs.Stops.{AtFirst}
use Rattle.base_store.specs.Area.{area_limit}
use Rattle.base_store.specs.Loading.{HasReadSoFar}
use Rattle.base_store.proofs.load.read_each.Given as goal

abbrev pub invariant-loop : goal.invariant-loop
invariant-loop g l = record {
  room : 8388608 ≤ length l.payload;
  read : HasReadSoFar (g.H.Host.disk l.host) l.reader l.loading;
  moments : ForSome (g.H.Host.disk l.fn.host) (λ d. LeavesOnly g.H.Host.clock g.H.Host.might l.fn.host l.host (AtFirst d (g.H.Host.printed l.fn.host) (λ c. c ≡ d.first.reads)));
  disk : g.H.Host.disk l.host ≡ g.H.Host.disk l.fn.host;
  printed : g.H.Host.printed l.host ≡ g.H.Host.printed l.fn.host;
  faults : g.H.Host.disk_faults l.host ≡ g.H.Host.disk_faults l.fn.host;
  other : g.H.Host.print_faults l.host ≡ g.H.Host.print_faults l.fn.host;
}

abbrev pub decreases-loop : goal.decreases-loop
decreases-loop g l = area_limit - l.reader.gate
