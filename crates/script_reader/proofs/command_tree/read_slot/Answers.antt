use Rattle.std.proofs.Common.{◌≤◌, arith}
use Rattle.grammar.proofs.Digits.{reads_number}
use Rattle.dl_base.proofs.NameRules.{read_of}
use Rattle.script_reader.proofs.command_tree.read_slot.Goals as goal

pub overflow_cast-result : goal.overflow_cast-result
overflow_cast-result c =
    let within : c.in_ok-slot.slot ≤ 4294967295 = (read_of c.in_ok-slot.slot c.in_ok-slot.rest.now (reads_number 4294967295 (omega arith)) c.in_ok-slot.ensures).fits.1 in
    omega (arith, within)
