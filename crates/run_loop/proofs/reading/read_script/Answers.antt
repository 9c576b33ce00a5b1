use Rattle.std.proofs.Common.{◌≡◌, ◌<◌, ◌+◌, ◌++◌, ℕ, List, [], length, take, drop, arith, ap, ◌∙◌, subst, false, sym, refl}
use Rattle.std.proofs.lemmas.List.{take-append-le}
use Rattle.run_loop.specs.Run.{HasTaken}
use Rattle.run_loop.specs.Taking.{TakesBytes, EndedAt}
use Rattle.run_loop.proofs.RunLemmas.{Taken, taken_none, read_failed, at_end, too_large, failed, taken_more}
use Rattle.script_reader.proofs.InputLemmas.{length-filled, length-piece, within_room}
use Rattle.run_loop.proofs.RequestLemmas.{stays_same, stays_on}
use Rattle.run_loop.proofs.TakenLemmas.{has_none, has_more, takes_within, takes_all, takes_too_much}
use Rattle.run_loop.proofs.reading.read_script.Goals as goal

pub pieces-init : goal.pieces-init
pieces-init g c =
    let h = g.H.Host in
    record {
      taken = omega arith;
      room = c.requires.buffer;
      reading = λ start a state stands serves input told. taken_none h.disk h.printed h.clock h.might start (g.E.Engine.stands c.args.engine) a state input _ c.args.lines c.args.host.now stands serves told c.requires.line;
      so_far = λ input is. has_none input _ is;
      told = stays_same (h.disk c.args.host.now);
      few = omega (arith, c.requires.none);
      counted = omega arith;
      ready = c.requires.ready;
      read_still = refl;
      print_still = refl;
      read_later = omega arith;
      print_later = omega arith;
      disk_still = refl;
    }

pub returns-in_default-clause-run : goal.returns-in_default-clause-run
returns-in_default-clause-run g c = λ start a s stands serves input told.
    let h = g.H.Host in
    let i = c.pieces.invariant in
    read_failed h.disk h.printed h.clock h.might start (g.E.Engine.stands c.pieces.engine) a input c.pieces.taken _ _ _ c.pieces.host (i.reading start a s stands serves input told) i.taken _ c.in_default.ensures.failed

pub returns-then-count-eq0-clause-run : goal.returns-then-count-eq0-clause-run
returns-then-count-eq0-clause-run g c = λ start a s stands serves input told.
    let h = g.H.Host in
    let i = c.pieces.invariant in
    let t = i.reading start a s stands serves input told in
    let nothing : take c.in-Ok.count c.read.new.buf ≡ [] = ap (λ (n : ℕ). take n c.read.new.buf) c.if-count-eq0.true in
    at_end h.disk h.printed h.clock h.might start (g.E.Engine.stands c.pieces.engine) a input c.pieces.taken _ _ _ c.pieces.host t i.taken c.finish_script.result _ _ c.finish_script.new.host nothing c.in-Ok.ensures.taken (c.in-Ok.ensures.end c.if-count-eq0.true)
    (c.finish_script.ensures.takes start a t.read (omega (arith, t.count, i.taken)) t.bytes)

pub returns-then-taken-eq-MAX_INPUT-clause-run : goal.returns-then-taken-eq-MAX_INPUT-clause-run
returns-then-taken-eq-MAX_INPUT-clause-run g c = λ start a s stands serves input told.
    let h = g.H.Host in
    let i = c.pieces.invariant in
    let t = i.reading start a s stands serves input told in
    let count = length-piece c.in-Ok.count c.read.new.buf c.in-Ok.ensures.within in
    let room = within_room c.in-Ok.count c.room_after-room.result c.read.new.buf c.pieces.buffer c.in-Ok.ensures.within c.read.auto.buf in
    let one = c.room_after-room.ensures.one c.if-taken-eq-MAX_INPUT.true in
    too_large h.disk h.printed h.clock h.might start (g.E.Engine.stands c.pieces.engine) a input c.pieces.taken _ _ _ c.pieces.host t i.taken (take c.in-Ok.count c.read.new.buf) _ c.in-Ok.ensures.taken c.if-taken-eq-MAX_INPUT.true
    (omega (arith, count, room, one, c.if-count-eq0.false))

pub returns-in-Err-clause-run : goal.returns-in-Err-clause-run
returns-in-Err-clause-run g c = λ start a s stands serves input told.
    let h = g.H.Host in
    let i = c.pieces.invariant in
    let t = i.reading start a s stands serves input told in
    let count = length-piece c.in-Ok.count c.read.new.buf c.in-Ok.ensures.within in
    let room = within_room c.in-Ok.count c.room_after-room.result c.read.new.buf c.pieces.buffer c.in-Ok.ensures.within c.read.auto.buf in
    let below : c.pieces.taken < 67108864 = omega (arith, i.taken, c.if-taken-eq-MAX_INPUT.false) in
    let fits = c.room_after-room.ensures.limit below in
    let same : take c.in-Ok.count (c.read.new.buf ++ drop c.room_after-room.result c.pieces.buffer) ≡ take c.in-Ok.count c.read.new.buf =
    take-append-le c.in-Ok.count c.read.new.buf (drop c.room_after-room.result c.pieces.buffer) c.in-Ok.ensures.within in
    failed h.disk h.printed h.clock h.might start (g.E.Engine.stands c.pieces.engine) a input c.pieces.taken _ _ _ c.pieces.host t i.taken (take c.in-Ok.count c.read.new.buf) _ c.in-Ok.ensures.taken c.ending.result c.in-Err.fault c.take_piece.new.host
    (omega (arith, count, room, fits))
    (subst (λ (l : List ℕ). EndedAt h.disk h.printed h.clock h.might start a (t.read ++ l) false c.in-Err.fault c.take_piece.new.host) same
    (c.in-Err.ensures.takes start a t.read (omega (arith, t.count, i.taken, count, room, fits, ap length same)) t.bytes))
    c.ending.ensures.of

pub pieces-preserved : goal.pieces-preserved
pieces-preserved g c =
    let h = g.H.Host in
    let i = c.pieces.invariant in
    let count = length-piece c.in-Ok.count c.read.new.buf c.in-Ok.ensures.within in
    let room = within_room c.in-Ok.count c.room_after-room.result c.read.new.buf c.pieces.buffer c.in-Ok.ensures.within c.read.auto.buf in
    let below : c.pieces.taken < 67108864 = omega (arith, i.taken, c.if-taken-eq-MAX_INPUT.false) in
    let fits = c.room_after-room.ensures.limit below in
    let same : take c.in-Ok.count (c.read.new.buf ++ drop c.room_after-room.result c.pieces.buffer) ≡ take c.in-Ok.count c.read.new.buf =
    take-append-le c.in-Ok.count c.read.new.buf (drop c.room_after-room.result c.pieces.buffer) c.in-Ok.ensures.within in
    let piece = take c.in-Ok.count c.read.new.buf in
    let next = g.E.Engine.stands c.in-Ok-take_piece.next in
    record {
      taken = omega (arith, room, fits);
      room = length-filled c.room_after-room.result c.read.new.buf c.pieces.buffer c.read.auto.buf (omega (arith, c.room_after-room.ensures.buffer, i.room)) ∙ i.room;
      reading = λ start a state stands serves input told.
          let t = i.reading start a state stands serves input told in
          let bytes = subst (λ (l : List ℕ). TakesBytes h.disk h.printed h.clock h.might start next a (t.read ++ l) c.take_piece.new.lines c.in-Ok-take_piece.begun c.take_piece.new.host) same
          (c.in-Ok-take_piece.ensures.takes start a t.read (omega (arith, t.count, i.taken, count, room, fits, ap length same)) t.bytes) in
          subst (λ (n : ℕ). Taken h.disk h.printed h.clock h.might start next a input (c.pieces.taken + n) (g.S.Source.left c.read.new.self) c.take_piece.new.lines c.in-Ok-take_piece.begun c.take_piece.new.host) count
          (taken_more h.disk h.printed h.clock h.might start (g.E.Engine.stands c.pieces.engine) a input c.pieces.taken _ _ _ c.pieces.host t i.taken piece _ c.in-Ok.ensures.taken next c.take_piece.new.lines c.in-Ok-take_piece.begun c.take_piece.new.host bytes);
      so_far = λ input is. has_more input c.pieces.taken _ _ piece c.in-Ok.count (i.so_far input is) c.in-Ok.ensures.taken count;
      told = stays_on (h.disk c.args.host.now) (h.disk c.pieces.host) (h.disk c.take_piece.new.host) i.told c.take_piece.ensures.told;
      few = omega (arith, i.few, c.in-Ok-take_piece.ensures.few, ap length same, count);
      counted = omega (arith, i.counted, c.take_piece.ensures.counted);
      ready = c.in-Ok-take_piece.ensures.ready;
      read_still = c.in-Ok.ensures.cause.done ∙ i.read_still;
      print_still = c.in-Ok-take_piece.ensures.still ∙ i.print_still;
      read_later = omega (arith, i.read_later, c.in-Ok.ensures.cause.later);
      print_later = omega (arith, i.print_later, c.take_piece.ensures.cause.print_later);
      disk_still = c.in-Ok-take_piece.ensures.disk_still ∙ i.disk_still;
    }

pub returns-in_default-clause-takes_input : goal.returns-in_default-clause-takes_input
returns-in_default-clause-takes_input g c = λ input is.
    let i = c.pieces.invariant in
    takes_within _ input c.pieces.taken _ (subst (HasTaken input c.pieces.taken) (sym c.in_default.ensures.failed) (i.so_far input is)) i.taken (λ no. cc) (λ no. cc)

pub returns-then-count-eq0-clause-takes_input : goal.returns-then-count-eq0-clause-takes_input
returns-then-count-eq0-clause-takes_input g c = λ input is.
    let i = c.pieces.invariant in
    let count = length-piece c.in-Ok.count c.read.new.buf c.in-Ok.ensures.within in
    takes_all c.finish_script.result input c.pieces.taken _ _ _ (i.so_far input is) c.in-Ok.ensures.taken (count ∙ c.if-count-eq0.true) (c.in-Ok.ensures.end c.if-count-eq0.true) i.taken c.finish_script.ensures.not_large

pub returns-then-taken-eq-MAX_INPUT-clause-takes_input : goal.returns-then-taken-eq-MAX_INPUT-clause-takes_input
returns-then-taken-eq-MAX_INPUT-clause-takes_input g c = λ input is.
    let i = c.pieces.invariant in
    let count = length-piece c.in-Ok.count c.read.new.buf c.in-Ok.ensures.within in
    let room = within_room c.in-Ok.count c.room_after-room.result c.read.new.buf c.pieces.buffer c.in-Ok.ensures.within c.read.auto.buf in
    let one = c.room_after-room.ensures.one c.if-taken-eq-MAX_INPUT.true in
    takes_too_much _ input c.pieces.taken _ _ _ c.in-Ok.count (i.so_far input is) c.in-Ok.ensures.taken count c.if-taken-eq-MAX_INPUT.true (omega (arith, room, one, c.if-count-eq0.false)) refl

pub returns-in-Err-clause-takes_input : goal.returns-in-Err-clause-takes_input
returns-in-Err-clause-takes_input g c = λ input is.
    let i = c.pieces.invariant in
    let count = length-piece c.in-Ok.count c.read.new.buf c.in-Ok.ensures.within in
    let room = within_room c.in-Ok.count c.room_after-room.result c.read.new.buf c.pieces.buffer c.in-Ok.ensures.within c.read.auto.buf in
    let below : c.pieces.taken < 67108864 = omega (arith, i.taken, c.if-taken-eq-MAX_INPUT.false) in
    takes_within c.ending.result input (c.pieces.taken + c.in-Ok.count) _ (has_more input c.pieces.taken _ _ _ c.in-Ok.count (i.so_far input is) c.in-Ok.ensures.taken count)
    (omega (arith, room, c.room_after-room.ensures.limit below)) c.ending.ensures.not_large c.ending.ensures.not_done
