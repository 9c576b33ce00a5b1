-- Laws of the requests of a run.
use Rattle.std.specs.Prelude.{◌≡◌, ℕ, List, ◌++◌, true}
use Rattle.script_reader.specs.Requests.{AreRequests}
use Rattle.script_reader.specs.declared.request.Request.{Request}
use Rattle.run_loop.specs.Run.{AreFirstRead}

-- requests that are first in what was read of an input are a front of those of the whole input
abbrev pub FirstRequestsAreFront : Type 0
FirstRequestsAreFront = (read rest : List ℕ) (requests all : List Request) → AreFirstRead read rest requests → AreRequests (read ++ rest) true all → (later : List Request) × (all ≡ requests ++ later)
