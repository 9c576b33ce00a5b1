use Rattle.std.proofs.Common.{◌≡◌, ◌<◌, ◌+◌, ◌++◌, ℕ, List, [], length, take, drop, arith, refl, ap, ◌∙◌, subst, length-append}
use Rattle.std.proofs.lemmas.List.{take-append-le}
use Rattle.document_run.specs.Run.{IsReading}
use Rattle.document_run.specs.declared.ending.DocumentEnding.TheVariants as ending
use Rattle.document_run.proofs.InputLemmas.{Taken, reading_nothing, stopped, stopped_behind, taken_more, ended, stops_final}
use Rattle.script_reader.proofs.InputLemmas.{length-filled, length-piece, within_room}
use Rattle.document_run.proofs.SoundLemmas.{read_sound}
use Rattle.document_run.proofs.input.read_lines.Goals as goal

pub pieces-init : goal.pieces-init
pieces-init g c =
    let nothing : IsReading [] c.args.lines c.args.draft = reading_nothing c.args.lines c.args.draft c.requires.lines c.requires.draft in
    record {
      taken = omega arith;
      room = c.requires.buffer;
      reading = λ input told. record { read = []; rest = input; reads = record { parts = refl; is_left = told }; count = refl; reading = nothing };
      kept = ([], refl, nothing);
      faults = refl;
    }

pub returns-in_default-clause-read : goal.returns-in_default-clause-read
returns-in_default-clause-read g c = λ input told.
    let t = c.pieces.invariant.reading input told in
    stopped input c.pieces.taken _ _ _ t ending.ReadFault _ c.in_default.ensures.failed (omega (arith, t.count, c.pieces.invariant.taken))

pub returns-then-count-eq0-clause-read : goal.returns-then-count-eq0-clause-read
returns-then-count-eq0-clause-read g c = λ input told.
    let t = c.pieces.invariant.reading input told in
    let nothing : take c.in-Ok.count c.read.new.buf ≡ [] = ap (λ (n : ℕ). take n c.read.new.buf) c.if-count-eq0.true in
    let end = ended input c.pieces.taken _ _ _ t _ _ nothing c.in-Ok.ensures.taken (c.in-Ok.ensures.end c.if-count-eq0.true) c.pieces.invariant.taken in
    let is = c.finish.ensures.read t.read end.0.within t.reading in
    record { read = t.read; rest = t.rest; reads = record { parts = t.reads.parts; is_left = end.1 }; stops = stops_final c.finish.result t.read t.rest is end.0 }

pub returns-then-taken-eq-MAX_INPUT-clause-read : goal.returns-then-taken-eq-MAX_INPUT-clause-read
returns-then-taken-eq-MAX_INPUT-clause-read g c = λ input told.
    let t = c.pieces.invariant.reading input told in
    let count = length-piece c.in-Ok.count c.read.new.buf c.in-Ok.ensures.within in
    let room = within_room c.in-Ok.count c.room_after-room.result c.read.new.buf c.pieces.buffer c.in-Ok.ensures.within c.read.auto.buf in
    let one = c.room_after-room.ensures.one c.if-taken-eq-MAX_INPUT.true in
    stopped_behind input c.pieces.taken _ _ _ t ending.InputTooLarge (take c.in-Ok.count c.read.new.buf) _ c.in-Ok.ensures.taken
    (λ read rest is. omega (arith, is, count, room, one, c.if-count-eq0.false, c.if-taken-eq-MAX_INPUT.true))

pub returns-in-Err-clause-read : goal.returns-in-Err-clause-read
returns-in-Err-clause-read g c = λ input told.
    let t = c.pieces.invariant.reading input told in
    let count = length-piece c.in-Ok.count c.read.new.buf c.in-Ok.ensures.within in
    let room = within_room c.in-Ok.count c.room_after-room.result c.read.new.buf c.pieces.buffer c.in-Ok.ensures.within c.read.auto.buf in
    let below : c.pieces.taken < 67108864 = omega (arith, c.pieces.invariant.taken, c.if-taken-eq-MAX_INPUT.false) in
    stopped_behind input c.pieces.taken _ _ _ t ending.NoMemory (take c.in-Ok.count c.read.new.buf) _ c.in-Ok.ensures.taken
    (λ read rest is. omega (arith, is, count, room, c.room_after-room.ensures.limit below))

pub pieces-preserved : goal.pieces-preserved
pieces-preserved g c =
    let count = length-piece c.in-Ok.count c.read.new.buf c.in-Ok.ensures.within in
    let room = within_room c.in-Ok.count c.room_after-room.result c.read.new.buf c.pieces.buffer c.in-Ok.ensures.within c.read.auto.buf in
    let below : c.pieces.taken < 67108864 = omega (arith, c.pieces.invariant.taken, c.if-taken-eq-MAX_INPUT.false) in
    let fits = c.room_after-room.ensures.limit below in
    let same : take c.in-Ok.count (c.read.new.buf ++ drop c.room_after-room.result c.pieces.buffer) ≡ take c.in-Ok.count c.read.new.buf =
    take-append-le c.in-Ok.count c.read.new.buf (drop c.room_after-room.result c.pieces.buffer) c.in-Ok.ensures.within in
    let piece = take c.in-Ok.count c.read.new.buf in
    record {
      taken = omega (arith, room, fits);
      room = length-filled c.room_after-room.result c.read.new.buf c.pieces.buffer c.read.auto.buf (omega (arith, c.room_after-room.ensures.buffer, c.pieces.invariant.room)) ∙ c.pieces.invariant.room;
      reading = λ input told.
          let t = c.pieces.invariant.reading input told in
          let more = taken_more input c.pieces.taken _ _ _ t piece _ c.take_piece.new.lines c.in-Ok-take_piece.next c.in-Ok.ensures.taken
          (λ read is r. subst (λ (l : List ℕ). IsReading (read ++ l) c.take_piece.new.lines c.in-Ok-take_piece.next) same
          (c.in-Ok-take_piece.ensures read (omega (arith, is, count, room, fits, ap length same)) r)) in
          subst (λ (n : ℕ). Taken input (c.pieces.taken + n) (g.S.Source.left c.read.new.self) c.take_piece.new.lines c.in-Ok-take_piece.next) count more;
      kept =
          let k = c.pieces.invariant.kept in (
            k.0 ++ piece,
            (omega (arith, k.1, length-append k.0 piece, count)),
            subst (λ (l : List ℕ). IsReading (k.0 ++ l) c.take_piece.new.lines c.in-Ok-take_piece.next) same
                (c.in-Ok-take_piece.ensures k.0 (omega (arith, k.1, count, room, fits, ap length same)) k.2),
          );
      faults = c.in-Ok.ensures.cause.done ∙ c.pieces.invariant.faults;
    }

pub returns-then-count-eq0-clause-sound : goal.returns-then-count-eq0-clause-sound
returns-then-count-eq0-clause-sound g c =
    let k = c.pieces.invariant.kept in
    read_sound c.finish.result k.0 (c.finish.ensures.read k.0 (omega (arith, k.1, c.pieces.invariant.taken)) k.2)
