use Rattle.std.proofs.Common.{◌≤◌, refl, length}
use Rattle.host_io.specs.Disk.{Cuts, OnArea, area_of}
use Rattle.host_io.specs.Memory.{state_of}
use Rattle.host_io.specs.declared.call.Call.TheVariants.{Cut}
use Rattle.host_io.proofs.Stepped.{cut_done, cut_listed, cut_none, disk_steps, disk_time, fits_cut, printed_stays}
use Rattle.host_io.proofs.memory_host.MemHostHost.cut.Goals as goal

pub returns-clause-disk : goal.returns-clause-disk
returns-clause-disk c =
    let k = c.go_cut in let within : c.args.len ≤ length (area_of (state_of c.args.self.now).disk c.args.area).reads = c.requires.within (state_of c.args.self.now).disk refl in
    disk_steps (Cut c.args.area c.args.len) c.args.self.now k.new.self k.result (λ r. OnArea c.args.area (Cuts c.args.len r)) (cut_done (state_of c.args.self.now).disk c.args.area c.args.len within) (cut_listed (state_of c.args.self.now).disk c.args.area c.args.len within) (cut_none (state_of c.args.self.now).disk c.args.area c.args.len within) k.ensures.went

pub returns-clause-printed : goal.returns-clause-printed
returns-clause-printed c =
    let k = c.go_cut in printed_stays (Cut c.args.area c.args.len) c.args.self.now k.new.self k.result (λ d. refl) k.ensures.went

pub returns-clause-time : goal.returns-clause-time
returns-clause-time c =
    let k = c.go_cut in disk_time (Cut c.args.area c.args.len) c.args.self.now k.new.self k.result (λ d. fits_cut (state_of c.args.self.now) c.args.area c.args.len d) k.ensures.went
