use Rattle.std.proofs.Common.{◌≡◌, ◌≤◌, ◌-◌, List, ℕ, length, Some}
use Rattle.document_run.specs.Run.{IsReading}
use Rattle.document_run.proofs.InputLemmas.{Taken}
use Rattle.document_run.proofs.input.read_lines.Given as goal

abbrev pub invariant-pieces : goal.invariant-pieces
invariant-pieces g l =
    let s = g.S.Source in
    record {
      taken : l.taken ≤ 67108864;
      room : length l.buffer ≡ 65536;
      reading : (input : List ℕ) → s.left l.fn.source ≡ Some input → Taken input l.taken (s.left l.source) l.lines l.draft;
      kept : (read : List ℕ) × (length read ≡ l.taken) × IsReading read l.lines l.draft;
      faults : s.read_faults l.source ≡ s.read_faults l.fn.source;
    }

abbrev pub decreases-pieces : goal.decreases-pieces
decreases-pieces g l = 67108865 - l.taken
