use Rattle.std.proofs.Common.{◌≡◌, [], take}
use Rattle.host_io.specs.Replay.{State, replay}
use Rattle.host_io.proofs.stop.printed_by.Given as goal

abbrev pub invariant-loop-call : goal.invariant-loop-call
invariant-loop-call l = (s : State) → s.printed ≡ [] → l.printed.items ≡ (replay s (take l.call-index l.calls)).printed
