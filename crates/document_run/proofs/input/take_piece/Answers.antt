use Rattle.std.proofs.Common.{◌++◌, ℕ, List, [], length, take, arith, ap, sym, refl, ◌∙◌, subst, append_assoc, length-append}
use Rattle.std.proofs.lemmas.List.{append-nil}
use Rattle.document_run.specs.Run.{IsReading}
use Rattle.script_reader.proofs.InputLemmas.{nothing_left, split_more}
use Rattle.document_run.proofs.input.take_piece.Goals as goal

pub loop-rest-init : goal.loop-rest-init
loop-rest-init c = ([], refl, λ read few r. subst (λ (l : List ℕ). IsReading l c.args.lines.now c.args.draft) (sym (append-nil read)) r)

pub loop-rest-preserved : goal.loop-rest-preserved
loop-rest-preserved c =
    let i = c.loop-rest.invariant in
    let part = take c.in_ok-next.count c.loop-rest.rest.now in (
      i.0 ++ part,
      split_more c.args.piece.now i.0 c.loop-rest.rest.now c.in_ok-next.count i.1,
      λ read few r.
          subst (λ (l : List ℕ). IsReading l c.take_part.new.lines c.in_ok-next.next) (append_assoc read i.0 part)
          (c.in_ok-next.ensures.reading (read ++ i.0) (omega (arith, few, length-append read i.0, ap length i.1, length-append i.0 c.loop-rest.rest.now)) (i.2 read few r)),
    )

pub returns : goal.returns
returns c = λ read few r.
    let i = c.loop-rest.invariant in
    subst (λ (l : List ℕ). IsReading (read ++ l) c.loop-rest.lines c.loop-rest.draft) (nothing_left c.args.piece.now i.0 c.loop-rest.rest.now i.1 (sym c.is_empty.ensures ∙ c.loop-rest-test.false)) (i.2 read few r)
