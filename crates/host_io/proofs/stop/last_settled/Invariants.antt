use Rattle.std.proofs.Common.{◌≤◌, take}
use Rattle.host_io.specs.Disk.{IsSettled}
use Rattle.host_io.specs.Replay.{begin, replay}
use Rattle.host_io.specs.declared.areas.Areas.{Areas}
use Rattle.host_io.proofs.stop.last_settled.Given as goal

abbrev pub invariant-loop-i : goal.invariant-loop-i
invariant-loop-i l = (l.last ≤ l.i) × ((given : Areas) → IsSettled (replay (begin given) (take l.last l.calls)).disk)
