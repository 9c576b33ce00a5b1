use Rattle.std.proofs.Common.{sym, subst, take}
use Rattle.host_io.specs.Memory.{Keeps}
use Rattle.host_io.specs.Replay.{State, replay}
use Rattle.host_io.specs.Stop.{AreSketches}
use Rattle.host_io.proofs.Stopped.{replay-next}
use Rattle.host_io.proofs.stop.follow_sketched.Goals as goal

pub loop-call-preserved : goal.loop-call-preserved
loop-call-preserved c = λ s keeps sketches.
    let calls = c.args.calls.now in
    let i = c.loop-call.call-index in
    let before = c.loop-call.invariant s keeps sketches in
    subst (λ (t : State). Keeps t c.advance.new.areas t.printed × AreSketches c.args.fill t.disk c.note_call.new.sketches) (sym (replay-next s calls i c.call-item.result c.loop-call-test.true c.call-item.is))
    (c.in_ok-advance.ensures (replay s (take i calls)) before.0, c.in_ok-note_call.ensures (replay s (take i calls)) before.0 before.1)
