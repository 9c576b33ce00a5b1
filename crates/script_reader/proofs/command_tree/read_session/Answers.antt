use Rattle.std.proofs.Common.{◌≤◌, arith}
use Rattle.grammar.proofs.Digits.{reads_number}
use Rattle.dl_base.proofs.NameRules.{read_of}
use Rattle.script_reader.proofs.command_tree.read_session.Goals as goal

pub overflow_cast-result : goal.overflow_cast-result
overflow_cast-result c =
    let within : c.in_ok-session.session ≤ 15 = (read_of c.in_ok-session.session c.in_ok-session.rest.now (reads_number 15 (omega arith)) c.in_ok-session.ensures).fits.1 in
    omega (arith, within)
