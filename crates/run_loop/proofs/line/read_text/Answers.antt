use Rattle.run_loop.proofs.LineSaid.{says_of}
use Rattle.run_loop.proofs.line.read_text.Goals as goal

pub returns-in-Ok : goal.returns-in-Ok
returns-in-Ok c = says_of c.args.text.now c.in-Ok.command c.said_by.result c.in-Ok.ensures.found c.said_by.ensures

pub returns-in-Err : goal.returns-in-Err
returns-in-Err c = c.refused.ensures c.args.text.now c.in-Err.ensures.refused
