use Rattle.grammar.proofs.Rules.{found, fault}
use Rattle.axiom_reader.specs.BlockReading.{line_at}
use Rattle.axiom_reader.proofs.BlockRules.{reads_line, line_has_members}
use Rattle.axiom_reader.proofs.block.read_line.Goals as goal

pub axiom_of-requires : goal.axiom_of-requires
axiom_of-requires c = line_has_members c.args.text.now c.in-Ok.tree (found c.in-Ok.tree reads_line (c.in-Ok.ensures (line_at c.args.text.now) c.read_line_tree.ensures)).is

pub returns-in_ok-axiom_of-in-Ok : goal.returns-in_ok-axiom_of-in-Ok
returns-in_ok-axiom_of-in-Ok c = (c.in-Ok.tree, (found c.in-Ok.tree reads_line (c.in-Ok.ensures (line_at c.args.text.now) c.read_line_tree.ensures)).is, c.in_ok-axiom_of-in-Ok.ensures)

pub returns-in-Err-Fault : goal.returns-in-Err-Fault
returns-in-Err-Fault c = (fault c.in-Err-Fault.field-0-0 reads_line (rw c.in-Err-Fault.field-0-is at (c.in-Err-Fault.ensures (line_at c.args.text.now) c.read_line_tree.ensures))).fault.outside
