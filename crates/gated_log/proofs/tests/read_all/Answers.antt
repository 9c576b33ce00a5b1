use Rattle.std.proofs.Common.{◌≡◌, ◌∙◌, arith, sym, ap, subst, Ok}
use Rattle.host_io.specs.Disk.{IsSettled}
use Rattle.gated_log.specs.Entries.{within}
use Rattle.gated_log.specs.Reading.{AnswersNext, Moves}
use Rattle.gated_log.specs.State.{IsBegun, IsClosedAt, LogState, LogReaderState}
use Rattle.gated_log.specs.declared.reader.Next.{Next}
use Rattle.gated_log.proofs.Reading.{begun_first, begun_on, ready_at}
use Rattle.gated_log.proofs.tests.read_all.Goals as goal

pub loop-count-init : goal.loop-count-init
loop-count-init g c =
    let reader = c.in_ok-reader.ensures.reader in
    record {
      room = c.requires.room;
      begun = λ e told. subst (λ (r : LogReaderState). IsSettled e × IsBegun (within r.limit) r.gate e.first.reads) (sym reader)
          (begun_first (within c.args.limit) _ _ c.in_ok-reader.ensures.ok c.in_ok-reader.ensures.untold e told);
    }

pub loop-count-preserved : goal.loop-count-preserved
loop-count-preserved g c =
    let old = c.loop-count.reader in
    let moves = subst (λ (n : Next). Moves old (Ok n) c.next.new.self) c.in-Entry.is c.in_ok-next.ensures.moves in
    record {
      room = omega (arith, c.loop-count.invariant.room, c.next.auto.buf);
      begun = λ e told.
          let before = sym c.in_ok-next.ensures.disk ∙ told in
          let begun = c.loop-count.invariant.begun e before in
          let next = subst (λ (n : Next). AnswersNext old e.first.reads c.next.new.buf n) c.in-Entry.is (c.in_ok-next.ensures.ok e before) in
          subst (λ (r : LogReaderState). IsSettled e × IsBegun (within r.limit) r.gate e.first.reads) (sym moves.4)
          (begun.0, begun_on (within old.limit) old.gate c.in-Entry.kind c.in-Entry.len e.first.reads c.next.new.buf begun.1 next);
    }

pub returns-in-Finished : goal.returns-in-Finished
returns-in-Finished g c = λ e told.
    let old = c.loop-count.reader in
    let moves = subst (λ (n : Next). Moves old (Ok n) c.next.new.self) c.in-Finished.is c.in_ok-next.ensures.moves in
    let log : c.into_log.result ≡ record { end = old.gate; limit = old.limit } = c.into_log.ensures ∙ ap (λ (r : LogReaderState). record { end = r.gate; limit = r.limit }) moves in
    let before = sym c.in_ok-next.ensures.disk ∙ told in
    let begun = c.loop-count.invariant.begun e before in
    let all = subst (λ (n : Next). AnswersNext old e.first.reads c.next.new.buf n) c.in-Finished.is (c.in_ok-next.ensures.ok e before) in
    subst (λ (l : LogState). IsSettled e × IsClosedAt (within l.limit) l.end e.first.reads) (sym log)
    (begun.0, ready_at (within old.limit) old.gate e.first.reads begun.1 all)
