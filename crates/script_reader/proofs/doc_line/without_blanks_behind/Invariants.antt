use Rattle.std.proofs.Common.{◌≤◌, length, drop}
use Rattle.script_reader.specs.DocLines.{AreBlank}
use Rattle.script_reader.proofs.doc_line.without_blanks_behind.Given as goal

-- what stands behind is blank
abbrev pub invariant-loop-end : goal.invariant-loop-end
invariant-loop-end l = record { within : l.end ≤ length l.text; blank : AreBlank (drop l.end l.text) }

abbrev pub decreases-loop-end : goal.decreases-loop-end
decreases-loop-end l = l.end
