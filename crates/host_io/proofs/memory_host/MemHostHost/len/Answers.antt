use Rattle.std.proofs.Common.{◌∙◌, refl, ap, length}
use Rattle.host_io.specs.Memory.{state_of}
use Rattle.host_io.specs.declared.call.Call.TheVariants.{Quiet}
use Rattle.host_io.proofs.Stepped.{disk_stays, disk_time, fits_quiet, printed_stays, still_reads}
use Rattle.host_io.proofs.memory_host.MemHostHost.len.Goals as goal

pub returns-in_err-go_quiet-clause-disk : goal.returns-in_err-go_quiet-clause-disk
returns-in_err-go_quiet-clause-disk c =
    let k = c.go_quiet in disk_stays (λ d. Quiet) c.args.self.now k.new.self k.result (λ d. refl) k.ensures.went

pub returns-in_err-go_quiet-clause-printed : goal.returns-in_err-go_quiet-clause-printed
returns-in_err-go_quiet-clause-printed c =
    let k = c.go_quiet in printed_stays (λ d. Quiet) c.args.self.now k.new.self k.result (λ d. refl) k.ensures.went

pub returns-in_err-go_quiet-clause-time : goal.returns-in_err-go_quiet-clause-time
returns-in_err-go_quiet-clause-time c =
    let k = c.go_quiet in disk_time (λ d. Quiet) c.args.self.now k.new.self k.result (λ d. fits_quiet (state_of c.args.self.now)) k.ensures.went

pub returns-clause-value : goal.returns-clause-value
returns-clause-value c =
    let k = c.go_quiet in λ d told. ap length (c.bytes.ensures ∙ still_reads c.args.self.now k.new.self c.args.area (disk_stays (λ d. Quiet) c.args.self.now k.new.self k.result (λ d. refl) k.ensures.went) d told)

pub returns-clause-disk : goal.returns-clause-disk
returns-clause-disk c =
    let k = c.go_quiet in disk_stays (λ d. Quiet) c.args.self.now k.new.self k.result (λ d. refl) k.ensures.went

pub returns-clause-printed : goal.returns-clause-printed
returns-clause-printed c =
    let k = c.go_quiet in printed_stays (λ d. Quiet) c.args.self.now k.new.self k.result (λ d. refl) k.ensures.went

pub returns-clause-time : goal.returns-clause-time
returns-clause-time c =
    let k = c.go_quiet in disk_time (λ d. Quiet) c.args.self.now k.new.self k.result (λ d. fits_quiet (state_of c.args.self.now)) k.ensures.went
