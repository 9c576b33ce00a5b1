use Rattle.std.proofs.Common.{refl}
use Rattle.grammar.proofs.Rules.{found, fault}
use Rattle.script_reader.specs.CommandReading.{script_line_at}
use Rattle.script_reader.proofs.CommandRules.{reads_script_line}
use Rattle.script_reader.proofs.CommandQueries.{is_question, asked_of, refused_of}
use Rattle.script_reader.proofs.command.read_command.Goals as goal

pub command_of-requires : goal.command_of-requires
command_of-requires c = is_question c.args.line.now c.in-Ok.said (found c.in-Ok.said reads_script_line (c.in-Ok.ensures (script_line_at c.args.line.now) c.read_script_line.ensures)).is

pub overflow_sub-result : goal.overflow_sub-result
overflow_sub-result c =
    rw c.in-Err-Fault.field-0-is (fault c.in-Err-Fault.left reads_script_line (rw c.in-Err-Fault.field-0-is at (c.in-Err-Fault.ensures (script_line_at c.args.line.now) c.read_script_line.ensures))).within

pub returns-in-Ok-clause-found : goal.returns-in-Ok-clause-found
returns-in-Ok-clause-found c =
    asked_of c.args.line.now c.in-Ok.said c.command_of.result (found c.in-Ok.said reads_script_line (c.in-Ok.ensures (script_line_at c.args.line.now) c.read_script_line.ensures)).is c.command_of.ensures.found

pub returns-in-Ok-clause-refused : goal.returns-in-Ok-clause-refused
returns-in-Ok-clause-refused c =
    refused_of c.args.line.now c.in-Ok.said c.command_of.result (found c.in-Ok.said reads_script_line (c.in-Ok.ensures (script_line_at c.args.line.now) c.read_script_line.ensures)).is c.command_of.ensures.refused

pub returns-in-Err-Fault-clause-refused : goal.returns-in-Err-Fault-clause-refused
returns-in-Err-Fault-clause-refused c =
    rw c.in-Err-Fault.field-0-is (_, refl, (fault c.in-Err-Fault.left reads_script_line (rw c.in-Err-Fault.field-0-is at (c.in-Err-Fault.ensures (script_line_at c.args.line.now) c.read_script_line.ensures))).fault)
