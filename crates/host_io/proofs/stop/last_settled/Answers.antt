use Rattle.std.proofs.Common.{ℕ, sym, subst, arith, take}
use Rattle.host_io.specs.Disk.{IsSettled}
use Rattle.host_io.specs.Replay.{begin, replay}
use Rattle.host_io.proofs.Stopped.{settled_next}
use Rattle.host_io.proofs.stop.last_settled.Goals.{then-is_synced, else-is_synced}
use Rattle.host_io.proofs.stop.last_settled.Goals as goal

pub loop-i-preserved : goal.loop-i-preserved
loop-i-preserved c =
    let calls = c.args.calls.now in
    elim c.if-is_synced.branch [
      | then-is_synced w ↦ (
        omega (arith, w.last-is),
        λ given. subst (λ (n : ℕ). IsSettled (replay (begin given) (take n calls)).disk) (sym w.last-is)
            (settled_next given calls c.loop-i.i c.index-calls-i.result c.loop-i-test.true c.index-calls-i.is (c.is_synced.ensures.synced w.if-is_synced.true)),
      )
      | else-is_synced w ↦ (
        omega (arith, w.last-is, c.loop-i.invariant.0),
        λ given. subst (λ (n : ℕ). IsSettled (replay (begin given) (take n calls)).disk) (sym w.last-is) (c.loop-i.invariant.1 given),
      )
    ]
