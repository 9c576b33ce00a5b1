use Rattle.std.proofs.Common.{◌∙◌, sym, ap, take}
use Rattle.host_io.specs.Replay.{State, replay}
use Rattle.host_io.proofs.Stopped.{replay-next}
use Rattle.host_io.proofs.stop.printed_by.Goals as goal

pub loop-call-preserved : goal.loop-call-preserved
loop-call-preserved c = λ s nothing.
    let calls = c.args.calls.now in
    let i = c.loop-call.call-index in
    c.in_ok-print_of.ensures (replay s (take i calls)) (c.loop-call.invariant s nothing) ∙ sym (ap (λ (t : State). t.printed) (replay-next s calls i c.call-item.result c.loop-call-test.true c.call-item.is))
