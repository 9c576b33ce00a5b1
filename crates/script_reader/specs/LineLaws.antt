-- Laws of lines.
use Rattle.std.specs.Prelude.{◌≡◌, ℕ, List}
use Rattle.script_reader.specs.DocLines.{IsDocLine}
use Rattle.script_reader.specs.Commands.{script_line}
use Rattle.script_reader.specs.declared.command_tree.CommandTree.{CommandTree}
use Rattle.script_reader.specs.declared.doc_line.DocLine.{DocLine}

-- a line of a document says one thing
abbrev pub SaysOneThing : Type 0
SaysOneThing = (text : List ℕ) (d e : DocLine) → IsDocLine text d → IsDocLine text e → d ≡ e

-- a line of a script asks one thing
abbrev pub AsksOneThing : Type 0
AsksOneThing = (text : List ℕ) (t u : CommandTree) → script_line text t → script_line text u → t ≡ u
