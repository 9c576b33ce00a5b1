use Rattle.std.proofs.Common.{◌≡◌, map, take}
use Rattle.table_report.specs.Gathered.{entry_of}
use Rattle.table_report.specs.TableLines.{entry_text}
use Rattle.table_report.proofs.writing.lines.Given as goal

abbrev pub invariant-loop-entry : goal.invariant-loop-entry
invariant-loop-entry l = l.lines ≡ map entry_text (map entry_of (take l.entry-index l.entries))
