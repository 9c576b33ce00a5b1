use Rattle.std.proofs.Common.{take}
use Rattle.host_io.specs.Memory.{Keeps}
use Rattle.host_io.specs.Replay.{State, replay}
use Rattle.host_io.proofs.stop.follow.Given as goal

abbrev pub invariant-loop-call : goal.invariant-loop-call
invariant-loop-call l = (s : State) → Keeps s l.initial.areas s.printed → let t = replay s (take l.call-index l.calls) in Keeps t l.areas t.printed
