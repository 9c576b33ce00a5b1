use Rattle.std.proofs.Common.{refl}
use Rattle.grammar.proofs.Rules.{found, fault}
use Rattle.axiom_reader.specs.AxiomReading.{tree_at}
use Rattle.axiom_reader.proofs.FormRules.{reads_axiom}
use Rattle.axiom_reader.proofs.axiom.read_axiom_tree.Goals as goal

pub overflow_sub-result : goal.overflow_sub-result
overflow_sub-result c = (fault c.in-Err-Fault.left reads_axiom (rw c.in-Err-Fault.field-0-is at (c.in-Err-Fault.ensures (tree_at c.args.text.now) c.read_tree.ensures))).within

pub returns-in-Ok-clause-found : goal.returns-in-Ok-clause-found
returns-in-Ok-clause-found c = (found c.in-Ok.tree reads_axiom (c.in-Ok.ensures (tree_at c.args.text.now) c.read_tree.ensures)).is

pub returns-in-Ok-clause-only : goal.returns-in-Ok-clause-only
returns-in-Ok-clause-only c = (found c.in-Ok.tree reads_axiom (c.in-Ok.ensures (tree_at c.args.text.now) c.read_tree.ensures)).only

pub returns-in-Err-Fault-clause-fault : goal.returns-in-Err-Fault-clause-fault
returns-in-Err-Fault-clause-fault c = (_, refl, (fault c.in-Err-Fault.left reads_axiom (rw c.in-Err-Fault.field-0-is at (c.in-Err-Fault.ensures (tree_at c.args.text.now) c.read_tree.ensures))).fault)
