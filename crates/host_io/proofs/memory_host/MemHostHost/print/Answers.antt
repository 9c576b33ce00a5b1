use Rattle.host_io.proofs.Stepped.{print_disk, print_fronts, print_printed, print_time}
use Rattle.host_io.proofs.memory_host.MemHostHost.print.Goals as goal

pub returns-clause-disk : goal.returns-clause-disk
returns-clause-disk c =
    let k = c.go_print in print_disk c.args.bytes.now c.args.self.now k.new.self k.result k.ensures.went

pub returns-clause-printed : goal.returns-clause-printed
returns-clause-printed c =
    let k = c.go_print in print_printed c.args.bytes.now c.args.self.now k.new.self k.result k.ensures.went

pub returns-clause-time : goal.returns-clause-time
returns-clause-time c =
    let k = c.go_print in print_time c.args.bytes.now c.args.self.now k.new.self k.result k.ensures.went

pub returns-clause-fronts : goal.returns-clause-fronts
returns-clause-fronts c =
    let k = c.go_print in print_fronts c.args.bytes.now c.args.self.now k.new.self k.result k.ensures.went
