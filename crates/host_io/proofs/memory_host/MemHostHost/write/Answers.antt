use Rattle.std.proofs.Common.{◌≤◌, refl, length}
use Rattle.host_io.specs.Disk.{Writes, OnArea, area_of}
use Rattle.host_io.specs.Memory.{state_of}
use Rattle.host_io.specs.declared.call.Call.TheVariants.{Write}
use Rattle.host_io.proofs.Stepped.{disk_steps, disk_time, fits_write, printed_stays, write_done, write_listed, write_none}
use Rattle.host_io.proofs.memory_host.MemHostHost.write.Goals as goal

pub returns-clause-disk : goal.returns-clause-disk
returns-clause-disk c =
    let k = c.go_write in let within : c.args.at ≤ length (area_of (state_of c.args.self.now).disk c.args.area).reads = c.requires.within (state_of c.args.self.now).disk refl in
    disk_steps (Write c.args.area c.args.at c.args.bytes.now) c.args.self.now k.new.self k.result (λ r. OnArea c.args.area (Writes c.args.at c.args.bytes.now r)) (write_done (state_of c.args.self.now).disk c.args.area c.args.at c.args.bytes.now within) (write_listed (state_of c.args.self.now).disk c.args.area c.args.at c.args.bytes.now within) (write_none (state_of c.args.self.now).disk c.args.area c.args.at c.args.bytes.now within) k.ensures.went

pub returns-clause-printed : goal.returns-clause-printed
returns-clause-printed c =
    let k = c.go_write in printed_stays (Write c.args.area c.args.at c.args.bytes.now) c.args.self.now k.new.self k.result (λ d. refl) k.ensures.went

pub returns-clause-time : goal.returns-clause-time
returns-clause-time c =
    let k = c.go_write in disk_time (Write c.args.area c.args.at c.args.bytes.now) c.args.self.now k.new.self k.result (λ d. fits_write (state_of c.args.self.now) c.args.area c.args.at c.args.bytes.now d) k.ensures.went
