use Rattle.script_reader.specs.Requests.{Asks}
use Rattle.run_loop.proofs.line.read_line.Goals as goal

pub returns-in-None : goal.returns-in-None
returns-in-None c = rw c.in-None.is (Asks.too_long, tt)
