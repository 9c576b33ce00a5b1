-- How much of a script was taken.
use Rattle.std.specs.Prelude.{◌≡◌, ◌⊎◌, ℕ, List, [], ◌∷◌, ◌++◌, map, Bool, true, Option, Some, None}
use Rattle.host_io.specs.Disk.{Disk}
use Rattle.host_io.specs.Moments.{Left}
use Rattle.axiom_reader.specs.Block.{IsProgressOf, Line, Progress}
use Rattle.script_reader.specs.Feeding.{LineSoFar, begun, kept, told}
use Rattle.script_reader.specs.Lines.{IsCut, given}
use Rattle.script_reader.specs.Requests.{AreRequests, Asks, Begun, HoldsRequests, Is, IsAlone, OpensBlock, SaysNothing, Token}
use Rattle.script_reader.specs.declared.command.Command.{Command}
use Rattle.script_reader.specs.declared.command.Command.TheVariants as command
use Rattle.script_reader.specs.declared.lines.Fed.{Fed}
use Rattle.script_reader.specs.declared.lines.Fed.TheVariants as fed
use Rattle.script_reader.specs.declared.request.Request.{Request}
use Rattle.script_reader.specs.declared.request.Request.TheVariants as request
use Rattle.base_engine.specs.Requests.{IsGiven}
use Rattle.base_engine.specs.State.{MachineState}
use Rattle.run_loop.specs.Serving.{Ended, Opening, Serves}
use Rattle.run_loop.specs.declared.fault.Fault.{Fault}
use Rattle.run_loop.specs.declared.line.Said.{Said}
use Rattle.run_loop.specs.declared.line.Said.TheVariants as said

-- ---- one line

-- what the line is, where no block is begun
abbrev pub Says : Line → Said → Type 0
Says line said.Nothing = SaysNothing line
Says line said.Opens = OpensBlock line
Says line (said.Asks q) = Asks line q × IsGiven q

-- what a line is that asks this command
pub record ReadsLine (c : Command) (s : Said) : Type 0 where
  pub blank : c ≡ command.Blank → s ≡ said.Nothing
  pub opens : c ≡ command.Ontology → s ≡ said.Opens
  pub alone : IsAlone c → s ≡ said.Asks (request.Plain c)

-- the line that ended, where one did
abbrev pub lines_of : Fed → List ℕ → List Token
lines_of fed.More bytes = []
lines_of fed.Line bytes = Is (given bytes) ∷ []
lines_of fed.TooLong bytes = Is (given bytes) ∷ []

-- what is told of these bytes, where a line ended
abbrev pub IsTold : Fed → List ℕ → Type 0
IsTold fed.More bytes = Unit {0}
IsTold fed.Line bytes = told (given bytes) ≡ fed.Line
IsTold fed.TooLong bytes = told (given bytes) ≡ fed.TooLong

-- ---- lines

-- of a block that is begun its lines are kept
abbrev pub KeepsBlock : Option Begun → Option Progress → Type 0
KeepsBlock None None = Unit {0}
KeepsBlock (Some b) (Some p) = IsProgressOf b.inside p
KeepsBlock None (Some p) = ⊥
KeepsBlock (Some b) None = ⊥

-- these requests are those that are whole in a front of the bytes; one that has ended is all of bytes that have ended
pub record StandFirst (bytes : List ℕ) (ended : Bool) (requests : List Request) : Type 0 where
  pub front : List ℕ
  pub more : List ℕ
  pub parts : bytes ≡ front ++ more
  pub whole : Bool
  pub at_end : whole ≡ true → (ended ≡ true) × (more ≡ [])
  pub are : AreRequests front whole requests

module _ {H : Type 0} (disk : H → Option Disk) (printed : H → Option (List ℕ)) (clock : H → ℕ) (might : H → ℕ → Left → Type 0) (start : H) where
  -- These lines were taken: their whole requests were replied to, the engine stands for the state behind them, and the block that
  -- is begun is kept.
  pub record Takes (stands : MachineState → Type 0) (a : Opening) (tokens : List Token) (block : Option Progress) (host : H) : Type 0 where
    pub requests : List Request
    pub begun : Option Begun
    pub holds : HoldsRequests tokens requests begun
    pub keeps : KeepsBlock begun block
    pub state : MachineState
    pub stands_for : stands state
    pub serves : Serves disk printed clock might start a requests state host

  -- all requests of these lines were replied to
  pub record TakesAll (a : Opening) (tokens : List Token) (host : H) : Type 0 where
    pub requests : List Request
    pub begun : Option Begun
    pub holds : HoldsRequests tokens requests begun
    pub state : MachineState
    pub serves : Serves disk printed clock might start a requests state host

  -- the run ended within the requests of these lines, behind which this block is begun
  pub record EndedWith (a : Opening) (tokens : List Token) (begun : Option Begun) (f : Fault) (host : H) : Type 0 where
    pub requests : List Request
    pub holds : HoldsRequests tokens requests begun
    pub ended : Ended disk printed clock might start a requests f host

  -- the run ended within the requests before these further lines, or with that of the lines
  abbrev pub EndedIn : Opening → List Token → List Token → Fault → H → Type 0
  EndedIn a tokens more f host = ((begun : Option Begun) × EndedWith a tokens begun f host) ⊎ EndedWith a (tokens ++ more) None f host

  -- These bytes were taken: the lines that ended, and what is kept of the one that hasn't.
  pub record TakesBytes (stands : MachineState → Type 0) (a : Opening) (bytes : List ℕ) (line : LineSoFar) (block : Option Progress) (host : H) : Type 0 where
    pub pieces : List (List ℕ)
    pub rest : List ℕ
    pub cut : IsCut bytes pieces rest
    pub line_is : begun line ≡ kept rest
    pub takes : Takes stands a (map (λ piece. Is (given piece)) pieces) block host

  -- all requests of these bytes, which have ended or go on, were replied to
  pub record TakesAllOf (a : Opening) (bytes : List ℕ) (ended : Bool) (host : H) : Type 0 where
    pub requests : List Request
    pub are : AreRequests bytes ended requests
    pub state : MachineState
    pub serves : Serves disk printed clock might start a requests state host

  -- the run ended within requests that stand first in these bytes
  pub record EndedAt (a : Opening) (bytes : List ℕ) (ended : Bool) (f : Fault) (host : H) : Type 0 where
    pub requests : List Request
    pub first : StandFirst bytes ended requests
    pub within : Ended disk printed clock might start a requests f host
