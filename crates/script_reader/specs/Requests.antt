-- The requests of a script.
use Rattle.std.specs.Prelude.{◌≡◌, ℕ, ◌+◌, List, [], ◌∷◌, ◌++◌, map, codes, Option, Some, None, Bool, true, false, Result, if◌then◌else◌}
use Rattle.std.specs.List.{flat_map, AllByRecursion}
use Rattle.grammar.specs.Blanks.{blanks}
use Rattle.grammar.specs.Grammar.{Grammar, ◌>>◌, means, literal, IsFaultAt}
use Rattle.dl_base.specs.Ontology.{Terminology}
use Rattle.dl_base.specs.Query.{Question}
use Rattle.axiom_reader.specs.Block.{Line, BlockGives}
use Rattle.axiom_reader.specs.declared.block.BlockError.{BlockError}
use Rattle.cq_reader.specs.QueryLimits.{IsSmall, IsTooLarge, IsFirstUnbound}
use Rattle.reply_text.specs.declared.reply.Refusal.TheVariants as refusal
use Rattle.script_reader.specs.Commands.{AsksCommand, HasQuery, script_line}
use Rattle.script_reader.specs.Lines.{IsCut, given, last_line}
use Rattle.script_reader.specs.declared.command_tree.CommandTree.TheVariants as tree
use Rattle.script_reader.specs.declared.command.Command.{Command}
use Rattle.script_reader.specs.declared.command.Command.TheVariants as command
use Rattle.script_reader.specs.declared.request.Request.{Request}
use Rattle.script_reader.specs.declared.request.Request.TheVariants as request

-- ---- one line

-- a command that is a request by itself
abbrev pub IsAlone : Command → Type 0
IsAlone command.Blank = ⊥
IsAlone command.Ontology = ⊥
IsAlone (command.Begin session) = Unit {0}
IsAlone (command.Add session row) = Unit {0}
IsAlone (command.Del session row) = Unit {0}
IsAlone (command.Commit session) = Unit {0}
IsAlone (command.Abort session) = Unit {0}
IsAlone (command.Ask q) = Unit {0}
IsAlone (command.Prepare q) = Unit {0}
IsAlone (command.Run handle) = Unit {0}
IsAlone (command.Drop handle) = Unit {0}
IsAlone command.Check = Unit {0}
IsAlone command.Tables = Unit {0}
IsAlone command.Tidy = Unit {0}
IsAlone command.Reopen = Unit {0}

-- the line by itself is this request
pub data Asks : Line → Request → Type 0 where
  too_long : Asks None (request.Bad refusal.LineTooLong)
  plain : {text : List ℕ} {c : Command} → AsksCommand text c → IsAlone c → Asks (Some text) (request.Plain c)
  no_command : {text : List ℕ} (place : ℕ) → IsFaultAt script_line text place → Asks (Some text) (request.Bad (refusal.Syntax (place + 1)))
  too_large : {text : List ℕ} (q : Question) → HasQuery text q → IsTooLarge q → Asks (Some text) (request.Bad refusal.QueryTooLarge)
  unsafe : {text : List ℕ} {v : List ℕ} (q : Question) → HasQuery text q → IsSmall q → IsFirstUnbound q v → Asks (Some text) (request.Bad (refusal.UnsafeVariable v))

-- the line is blank or a comment
abbrev pub SaysNothing : Line → Type 0
SaysNothing None = ⊥
SaysNothing (Some text) = script_line text tree.Blank

-- the line opens a block
abbrev pub OpensBlock : Line → Type 0
OpensBlock None = ⊥
OpensBlock (Some text) = script_line text tree.Ontology

-- the line `end`, with any blanks before and behind it
abbrev pub end_line : Grammar (Unit {0})
end_line = do
  blanks
  literal (codes "end")
  blanks
  means tt

-- the line ends a block; one that is too long never does
abbrev pub EndsBlock : Line → Type 0
EndsBlock None = ⊥
EndsBlock (Some text) = end_line text tt

-- ---- a script

-- A script is its lines, and behind them its end, where it has ended.
pub data Token : Type 0 where
  Is : Line → Token
  Finished : Token

-- What stands in a script: a line that says nothing, a line that is a request, a block, or the end alone.
pub data Part : Type 0 where
  Skipped : Line → Part
  Single : Line → Request → Part
  Block : Line → List Line → Token → Result Terminology BlockError → Part
  End : Part

-- its lines
abbrev pub spelled : Part → List Token
spelled (Skipped line) = Is line ∷ []
spelled (Single line q) = Is line ∷ []
spelled (Block opening inside last result) = Is opening ∷ (map Is inside ++ last ∷ [])
spelled End = Finished ∷ []

-- its request
abbrev pub asked : Part → List Request
asked (Skipped line) = []
asked (Single line q) = q ∷ []
asked (Block opening inside last result) = request.Block result ∷ []
asked End = []

-- a block ends by its last line, or is cut off by the end of the script
abbrev pub ClosesBlock : Token → Bool → Type 0
ClosesBlock (Is line) true = EndsBlock line
ClosesBlock (Is line) false = ⊥
ClosesBlock Finished true = ⊥
ClosesBlock Finished false = Unit {0}

-- a block, and what its lines come to
pub record IsBlock (opening : Line) (inside : List Line) (last : Token) (result : Result Terminology BlockError) : Type 0 where
  pub opens : OpensBlock opening
  pub goes_on : AllByRecursion (λ line. EndsBlock line → ⊥) inside
  pub whole : Bool
  pub ends : ClosesBlock last whole
  pub gives : BlockGives inside whole result

abbrev pub IsPart : Part → Type 0
IsPart (Skipped line) = SaysNothing line
IsPart (Single line q) = Asks line q
IsPart (Block opening inside last result) = IsBlock opening inside last result
IsPart End = Unit {0}

-- a block that is begun: its first line, and those behind it
pub record Begun : Type 0 where
  pub opening : Line
  pub inside : List Line

abbrev pub begun_lines : Option Begun → List Token
begun_lines None = []
begun_lines (Some b) = Is b.opening ∷ map Is b.inside

abbrev pub IsOpenBlock : Option Begun → Type 0
IsOpenBlock None = Unit {0}
IsOpenBlock (Some b) = OpensBlock b.opening × AllByRecursion (λ line. EndsBlock line → ⊥) b.inside

-- the requests that are whole in a script, and the block that is begun behind them
pub record HoldsRequests (tokens : List Token) (requests : List Request) (begun : Option Begun) : Type 0 where
  pub parts : List Part
  pub spells : tokens ≡ flat_map spelled parts ++ begun_lines begun
  pub each : AllByRecursion IsPart parts
  pub are : requests ≡ flat_map asked parts
  pub block : IsOpenBlock begun

-- ---- the bytes of a script

-- the lines of these bytes, in order, and the end, where the input has ended; then what stands behind the last line end is a
-- line too, where it isn't empty
pub record IsScript (bytes : List ℕ) (ended : Bool) (tokens : List Token) : Type 0 where
  pub pieces : List (List ℕ)
  pub rest : List ℕ
  pub cut : IsCut bytes pieces rest
  pub are : tokens ≡ map (λ piece. Is (given piece)) pieces ++ (if ended then map (λ piece. Is (given piece)) (last_line rest) ++ Finished ∷ [] else [])

-- these are the requests that are whole in the bytes, which have ended or go on
pub record AreRequests (bytes : List ℕ) (ended : Bool) (requests : List Request) : Type 0 where
  pub tokens : List Token
  pub script : IsScript bytes ended tokens
  pub begun : Option Begun
  pub holds : HoldsRequests tokens requests begun
