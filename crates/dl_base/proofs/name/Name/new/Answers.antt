use Rattle.grammar.proofs.Rules.{found, fault}
use Rattle.dl_base.proofs.NameRules.{reads_whole_name, name_value}
use Rattle.dl_base.proofs.name.Name.new.Goals as goal

pub overflow_sub-result : goal.overflow_sub-result
overflow_sub-result c = (fault c.in-Err-Fault.left reads_whole_name (rw c.in-Err-Fault.field-0-is at c.in-Err-Fault.ensures)).within

pub returns-in-Ok-clause-found : goal.returns-in-Ok-clause-found
returns-in-Ok-clause-found c =
    let is = (found c.in-Ok.name reads_whole_name c.in-Ok.ensures).is in
    (name_value c.args.bytes.now c.in-Ok.name is, (c.in-Ok.name, is))

pub returns-in-Err-Fault-clause-fault : goal.returns-in-Err-Fault-clause-fault
returns-in-Err-Fault-clause-fault c = (fault c.in-Err-Fault.left reads_whole_name (rw c.in-Err-Fault.field-0-is at c.in-Err-Fault.ensures)).fault
