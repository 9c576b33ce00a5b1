-- The requests that the machine is given.
use Rattle.std.specs.Prelude.{ℕ, ◌≤◌, Ok, Err, Result}
use Rattle.dl_base.specs.Ontology.{Terminology, IsTerminology}
use Rattle.axiom_reader.specs.declared.block.BlockError.{BlockError}
use Rattle.reply_text.specs.declared.reply.Refusal.{Refusal}
use Rattle.reply_text.specs.declared.reply.Refusal.TheVariants as refusal
use Rattle.script_reader.specs.declared.command.Command.{Command}
use Rattle.script_reader.specs.declared.command.Command.TheVariants as command
use Rattle.script_reader.specs.declared.request.Request.{Request}
use Rattle.script_reader.specs.declared.request.Request.TheVariants as request

-- a command that is a request by itself, about a session from 0 to 15 where it is about one
abbrev pub IsGivenCommand : Command → Type 0
IsGivenCommand command.Blank = ⊥
IsGivenCommand command.Ontology = ⊥
IsGivenCommand (command.Begin k) = k ≤ 15
IsGivenCommand (command.Add k r) = k ≤ 15
IsGivenCommand (command.Del k r) = k ≤ 15
IsGivenCommand (command.Commit k) = k ≤ 15
IsGivenCommand (command.Abort k) = k ≤ 15
IsGivenCommand (command.Ask q) = Unit {0}
IsGivenCommand (command.Prepare q) = Unit {0}
IsGivenCommand (command.Run h) = Unit {0}
IsGivenCommand (command.Drop h) = Unit {0}
IsGivenCommand command.Check = Unit {0}
IsGivenCommand command.Tables = Unit {0}
IsGivenCommand command.Tidy = Unit {0}
IsGivenCommand command.Reopen = Unit {0}

-- a refusal of a line by itself
abbrev pub IsOfLine : Refusal → Type 0
IsOfLine refusal.LineTooLong = Unit {0}
IsOfLine (refusal.Syntax place) = Unit {0}
IsOfLine refusal.QueryTooLarge = Unit {0}
IsOfLine (refusal.UnsafeVariable v) = Unit {0}
IsOfLine refusal.NoOntology = ⊥
IsOfLine refusal.OntologyThere = ⊥
IsOfLine (refusal.Block e) = ⊥
IsOfLine (refusal.UnknownConcept name) = ⊥
IsOfLine (refusal.UnknownRole name) = ⊥
IsOfLine refusal.NotOpen = ⊥
IsOfLine refusal.AlreadyOpen = ⊥
IsOfLine refusal.Pending = ⊥
IsOfLine refusal.Crowded = ⊥
IsOfLine refusal.LogFull = ⊥
IsOfLine refusal.NeverGiven = ⊥
IsOfLine (refusal.Dropped last) = ⊥
IsOfLine refusal.NoSlot = ⊥

-- what a block comes to: an ontology within the limits, or a line that offends
abbrev pub IsGivenBlock : Result Terminology BlockError → Type 0
IsGivenBlock (Ok o) = IsTerminology o
IsGivenBlock (Err e) = Unit {0}

-- a request that the machine is given
abbrev pub IsGiven : Request → Type 0
IsGiven (request.Plain c) = IsGivenCommand c
IsGiven (request.Block result) = IsGivenBlock result
IsGiven (request.Bad e) = IsOfLine e

-- to commit this session
abbrev pub commit_of : ℕ → Request
commit_of k = request.Plain (command.Commit k)
