use Rattle.std.proofs.Common.{◌≤◌, ◌-◌, length}
use Rattle.std.specs.Option.{ForSome}
use Rattle.host_io.specs.Disk.{IsSettled}
use Rattle.gated_log.specs.Entries.{within}
use Rattle.gated_log.specs.State.{IsBegun}
use Rattle.gated_log.proofs.tests.read_all.Given as goal

abbrev pub invariant-loop-count : goal.invariant-loop-count
invariant-loop-count g l = record {
  room : 8388608 ≤ length l.buf;
  begun : ForSome (g.H.Host.disk l.host) (λ d. IsSettled d × IsBegun (within l.reader.limit) l.reader.gate d.first.reads);
}

abbrev pub decreases-loop-count : goal.decreases-loop-count
decreases-loop-count g l = l.reader.limit - l.reader.gate
