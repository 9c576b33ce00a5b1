use Rattle.std.proofs.Common.{refl, sym, subst}
use Rattle.host_io.specs.Disk.{settled}
use Rattle.host_io.specs.Replay.{after}
use Rattle.host_io.specs.Stop.{AreSketches}
use Rattle.host_io.specs.declared.call.Call.{Call}
use Rattle.host_io.proofs.stop.note_call.Goals as goal

pub returns-in_ok-sketches : goal.returns-in_ok-sketches
returns-in_ok-sketches c = λ s keeps before.
    let sync = c.is_synced.ensures.synced c.if-is_synced.true in
    subst (λ (x : Call). AreSketches c.args.fill (after s x).disk c.in_ok-sketches.field-0) (sym sync)
    (c.in_ok-sketches.ensures c.args.fill (settled s.disk) (record { first = refl; second = refl }) keeps.first keeps.second)
