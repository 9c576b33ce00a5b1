use Rattle.grammar.proofs.Rules.{found, fault}
use Rattle.txn_codec.proofs.ChangesRules.{reads_changes}
use Rattle.txn_codec.proofs.change_reader.ChangeReader.new.Goals as goal

pub overflow_sub-result : goal.overflow_sub-result
overflow_sub-result c = (fault c.in-Err.stop.left reads_changes c.in-Err.ensures).within

pub returns-in-Ok-clause-found : goal.returns-in-Ok-clause-found
returns-in-Ok-clause-found c = (found c.in-Ok.reader reads_changes c.in-Ok.ensures).is

pub returns-in-Ok-clause-only : goal.returns-in-Ok-clause-only
returns-in-Ok-clause-only c = (found c.in-Ok.reader reads_changes c.in-Ok.ensures).only

pub returns-in-Err-clause-fault : goal.returns-in-Err-clause-fault
returns-in-Err-clause-fault c = (fault c.in-Err.stop.left reads_changes c.in-Err.ensures).fault
