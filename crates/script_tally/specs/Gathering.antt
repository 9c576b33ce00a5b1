-- The requests of a script, gathered line by line.
use Rattle.std.specs.Prelude.{◌≡◌, ℕ, List, All, map, Option, true}
use Rattle.axiom_reader.specs.Block.{Progress}
use Rattle.script_reader.specs.Feeding.{LineSoFar, begun, kept}
use Rattle.script_reader.specs.Lines.{IsCut, given}
use Rattle.script_reader.specs.Requests.{AreRequests, Begun, HoldsRequests, Is, Token}
use Rattle.script_reader.specs.declared.request.Request.{Request}
use Rattle.base_engine.specs.Requests.{IsGiven}
use Rattle.run_loop.specs.Taking.{KeepsBlock}

-- These are the requests that are whole in the lines, and the block that is begun behind them is kept.
pub record Gathers (tokens : List Token) (requests : List Request) (block : Option Progress) : Type 0 where
  pub begun : Option Begun
  pub holds : HoldsRequests tokens requests begun
  pub keeps : KeepsBlock begun block
  pub given : All IsGiven requests

-- The same of bytes: their whole lines were gathered, and what is kept of the line that hasn't ended.
pub record GathersBytes (bytes : List ℕ) (line : LineSoFar) (requests : List Request) (block : Option Progress) : Type 0 where
  pub pieces : List (List ℕ)
  pub rest : List ℕ
  pub cut : IsCut bytes pieces rest
  pub line_is : begun line ≡ kept rest
  pub gathers : Gathers (map (λ piece. Is (given piece)) pieces) requests block

-- all requests of a script that has ended
pub record GathersAll (bytes : List ℕ) (requests : List Request) : Type 0 where
  pub are : AreRequests bytes true requests
  pub given : All IsGiven requests
