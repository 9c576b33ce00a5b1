use Rattle.std.proofs.Common.{◌≡◌, ◌++◌, ◌∙◌, List, ℕ, true, take, sym, ap}
use Rattle.script_reader.specs.Lines.{given}
use Rattle.script_reader.specs.Feeding.{LineSoFar, kept, begun, told}
use Rattle.script_reader.proofs.LineLemmas.{end_found, end_not_found}
use Rattle.script_reader.proofs.FeedingLemmas.{so_far, feeds_end, feeds_more}
use Rattle.script_reader.proofs.lines.Lines.feed.Goals as goal

pub returns-in-Some : goal.returns-in-Some
returns-in-Some c =
    let front = take c.in-Some.at c.args.piece.now in
    let bytes : c.keep.new.self.bytes ≡ kept (begun c.args.self.now ++ front) = ap (λ (l : LineSoFar). l.bytes) c.keep.ensures ∙ ap (λ (l : LineSoFar). kept (l.bytes ++ front)) c.begin.ensures in
    feeds_end c.args.self.now c.end.new.self c.args.piece.now c.in-Some.at c.end.result
    (end_found c.args.piece.now c.in-Some.at (sym c.line_end.ensures ∙ c.in-Some.is))
    (c.end.ensures.value ∙ ap (λ (l : List ℕ). so_far l true) bytes)
    (c.end.ensures.told ∙ ap (λ (l : LineSoFar). told (given l.bytes)) (sym c.end.ensures.value))

pub returns-in-None : goal.returns-in-None
returns-in-None c =
    feeds_more c.args.self.now c.keep-in-None.new.self c.args.piece.now
    (end_not_found c.args.piece.now (sym c.line_end.ensures ∙ c.in-None.is))
    (c.keep-in-None.ensures ∙ ap (λ (l : LineSoFar). so_far (kept (l.bytes ++ c.args.piece.now)) l.ended) c.begin.ensures)
