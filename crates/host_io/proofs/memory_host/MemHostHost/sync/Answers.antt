use Rattle.std.proofs.Common.{refl}
use Rattle.host_io.specs.Disk.{Syncs}
use Rattle.host_io.specs.Memory.{state_of}
use Rattle.host_io.specs.declared.call.Call.TheVariants.{Sync}
use Rattle.host_io.proofs.Stepped.{disk_steps, disk_time, fits_sync, printed_stays}
use Rattle.host_io.proofs.memory_host.MemHostHost.sync.Goals as goal

pub returns-clause-disk : goal.returns-clause-disk
returns-clause-disk c =
    let k = c.go_sync in disk_steps Sync c.args.self.now k.new.self k.result (λ r. Syncs r) (λ v. record { ok = refl; err = tt }) (λ e. record { ok = tt; err = refl }) (λ e. record { ok = tt; err = refl }) k.ensures.went

pub returns-clause-printed : goal.returns-clause-printed
returns-clause-printed c =
    let k = c.go_sync in printed_stays Sync c.args.self.now k.new.self k.result (λ d. refl) k.ensures.went

pub returns-clause-time : goal.returns-clause-time
returns-clause-time c =
    let k = c.go_sync in disk_time Sync c.args.self.now k.new.self k.result (λ d. fits_sync (state_of c.args.self.now) d) k.ensures.went
