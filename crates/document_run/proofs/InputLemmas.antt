-- A run so far.
use Rattle.std.proofs.Common.{◌≡◌, ◌≢◌, true, ◌≤◌, ◌<◌, ◌+◌, ◌-◌, ◌^◌, ℕ, List, [], ◌∷◌, ◌++◌, length, take, map, refl, sym, ◌∙◌, ap, subst, append_assoc, arith, Some, Option, Result, Ok, Err, length-append}
use Rattle.std.proofs.lemmas.List.{length-take, length-map, append-nil, map-append, take_all}
use Rattle.host_io.specs.Source.{Takes, AtEnd}
use Rattle.script_reader.specs.Lines.{AreLines, line_of, last_line}
use Rattle.script_reader.specs.Feeding.{LineSoFar, IsBehind, TellsFed, TellsLast, begun, kept, EndsWithin, GoesOnOver}
use Rattle.script_reader.specs.declared.lines.Fed.{Fed}
use Rattle.script_reader.specs.declared.lines.Fed.TheVariants as fed
use Rattle.document_run.specs.Drafting.{KeepsDraft, Finishes}
use Rattle.document_run.specs.Run.{Reads, GaveEnd, EndsEarly, DocumentEnds, Replies, HasStopped, ReadingStops, IsReading, IsRead}
use Rattle.document_run.specs.declared.document.Document.{Document}
use Rattle.document_run.specs.declared.document.Draft.{Draft}
use Rattle.document_run.specs.declared.ending.DocumentEnding.{DocumentEnding}
use Rattle.document_run.specs.declared.ending.DocumentEnding.TheVariants as ending
use Rattle.script_reader.proofs.LineLemmas.{ended_from, open_from, lines_of, ended-append, ended_none, ended_one, cut_ended, cut_open, are_lines, length-ended, kept_more}
use Rattle.script_reader.proofs.FeedingLemmas.{begun_is, line_told, too_long_told}

-- ---- the bytes so far

ended_so_far : (read : List ℕ) (line : LineSoFar) (b : IsBehind read line) → ended_from [] read ≡ b.pieces
ended_so_far read line b = ap (ended_from []) b.cut.joined ∙ cut_ended b.pieces b.rest b.cut.none_inside b.cut.none_behind

line_so_far : (read : List ℕ) (line : LineSoFar) → IsBehind read line → begun line ≡ kept (open_from [] read)
line_so_far read line b = begun_is read line b ∙ ap kept (sym (ap (open_from []) b.cut.joined ∙ cut_open b.pieces b.rest b.cut.none_inside b.cut.none_behind))

keeps_so_far : (read : List ℕ) (line : LineSoFar) (draft : Draft) → IsReading read line draft → KeepsDraft (map line_of (ended_from [] read)) draft
keeps_so_far read line draft r = subst (λ (ps : List (List ℕ)). KeepsDraft (map line_of ps) draft) (sym (ended_so_far read line r.held)) r.keeps

is_reading : (read : List ℕ) (line : LineSoFar) (draft : Draft) → IsBehind read line → KeepsDraft (map line_of (ended_from [] read)) draft → IsReading read line draft
is_reading read line draft held keeps = record { held = held; keeps = subst (λ (ps : List (List ℕ)). KeepsDraft (map line_of ps) draft) (ended_so_far read line held) keeps }

pub reading_nothing : (line : LineSoFar) (draft : Draft) → IsBehind [] line → KeepsDraft [] draft → IsReading [] line draft
reading_nothing line draft held keeps = is_reading [] line draft held keeps

few_lines : (read : List ℕ) → length (map line_of (ended_from [] read)) ≤ length read
few_lines read = omega (arith, length-map (ended_from [] read) line_of, length-ended [] read)

module _ (read : List ℕ) (old new : LineSoFar) (input : List ℕ) (count : ℕ) (draft : Draft) (r : IsReading read old draft) (held : IsBehind (read ++ take count input) new) where
  -- bytes without a line end
  reading_goes_on : GoesOnOver old input count new → IsReading (read ++ take count input) new draft
  reading_goes_on g =
      let all : take count input ≡ input = take_all count input (omega (arith, g.all)) in
      let ended : ended_from [] (read ++ take count input) ≡ ended_from [] read =
      ap (λ (l : List ℕ). ended_from [] (read ++ l)) all ∙ ended-append [] read input
      ∙ ap (λ (l : List (List ℕ)). ended_from [] read ++ l) (ended_none (open_from [] read) input g.no_end) ∙ append-nil (ended_from [] read) in
      is_reading (read ++ take count input) new draft held (subst (λ (ps : List (List ℕ)). KeepsDraft (map line_of ps) draft) (sym ended) (keeps_so_far read old draft r))

  module _ (e : EndsWithin old input count new) where
    -- the piece that ends
    piece_ended : new.bytes ≡ kept (open_from [] read ++ e.text)
    piece_ended = ap (λ (l : LineSoFar). l.bytes) e.now ∙ ap (λ (l : List ℕ). kept (l ++ e.text)) (line_so_far read old r.held) ∙ kept_more (open_from [] read) e.text

    reading_ended : (next : Draft) → KeepsDraft (map line_of (ended_from [] read) ++ line_of (open_from [] read ++ e.text) ∷ []) next → IsReading (read ++ take count input) new next
    reading_ended next keeps =
        let ended : map line_of (ended_from [] (read ++ take count input)) ≡ map line_of (ended_from [] read) ++ line_of (open_from [] read ++ e.text) ∷ [] =
        ap (λ (l : List ℕ). map line_of (ended_from [] (read ++ l))) e.taken
        ∙ ap (map line_of) (ended-append [] read (e.text ++ 10 ∷ []) ∙ ap (λ (l : List (List ℕ)). ended_from [] read ++ l) (ended_one (open_from [] read) e.text e.no_end))
        ∙ map-append line_of (ended_from [] read) ((open_from [] read ++ e.text) ∷ []) in
        is_reading (read ++ take count input) new next held (subst (λ (ls : List (List ℕ)). KeepsDraft ls next) (sym ended) keeps)

  -- ---- what is told of a part

  module _ (f : Fed) (tells : TellsFed old input count f new) where
    pub more_told : f ≡ fed.More → IsReading (read ++ take count input) new draft
    more_told is = reading_goes_on (subst (λ (g : Fed). TellsFed old input count g new) is tells)

    pub line_taken : f ≡ fed.Line → length read < 2 ^ 63 → (text : List ℕ) → text ≡ line_of new.bytes → (next : Draft)
        → ((lines : List (List ℕ)) → length lines < 2 ^ 63 → length text ≤ 4096 → KeepsDraft lines draft → KeepsDraft (lines ++ text ∷ []) next) → IsReading (read ++ take count input) new next
    line_taken is few text same next takes =
        let told = subst (λ (g : Fed). TellsFed old input count g new) is tells in
        let line = line_told new.bytes (open_from [] read ++ told.0.text) (piece_ended told.0) told.1 in
        reading_ended told.0 next (subst (λ (l : List ℕ). KeepsDraft (map line_of (ended_from [] read) ++ l ∷ []) next) (same ∙ line.1)
        (takes (map line_of (ended_from [] read)) (omega (arith, few, few_lines read)) (subst (λ (l : List ℕ). length l ≤ 4096) (sym same) line.0) (keeps_so_far read old draft r)))

    pub long_line_taken : f ≡ fed.TooLong → length read < 2 ^ 63 → (next : Draft)
        → ((lines : List (List ℕ)) (text : List ℕ) → length lines < 2 ^ 63 → 4096 < length text → KeepsDraft lines draft → KeepsDraft (lines ++ text ∷ []) next) → IsReading (read ++ take count input) new next
    long_line_taken is few next takes =
        let told = subst (λ (g : Fed). TellsFed old input count g new) is tells in
        let piece = open_from [] read ++ told.0.text in
        reading_ended told.0 next
        (takes (map line_of (ended_from [] read)) (line_of piece) (omega (arith, few, few_lines read)) (too_long_told new.bytes piece (piece_ended told.0) told.1) (keeps_so_far read old draft r))

-- ---- the end of the input

finishes_read : (read : List ℕ) (lines : List (List ℕ)) (result : Result Document DocumentEnding) → AreLines read lines → Finishes lines result → IsRead result read
finishes_read read lines (Ok document) cut f = record { lines = lines; cut = cut; whole = f }
finishes_read read lines (Err (ending.Refused code n)) cut f = record { lines = lines; cut = cut; means = f }
finishes_read read lines (Err ending.NoMemory) cut f = tt
finishes_read read lines (Err ending.Done) cut f = absurd f
finishes_read read lines (Err ending.PrintFault) cut f = absurd f
finishes_read read lines (Err ending.ReadFault) cut f = absurd f
finishes_read read lines (Err ending.InputTooLarge) cut f = absurd f

kept_nothing : (bytes : List ℕ) → kept bytes ≡ [] → bytes ≡ []
kept_nothing [] is = refl
kept_nothing (b ∷ bytes) is = absurd (omega (arith, length-take 4098 (b ∷ bytes), ap length is))

last_some : (bytes : List ℕ) → bytes ≢ [] → last_line bytes ≡ bytes ∷ []
last_some [] other = absurd (other refl)
last_some (b ∷ bytes) other = refl

finished_whole : (read : List ℕ) (line : LineSoFar) (draft : Draft) (result : Result Document DocumentEnding) → length read ≤ 67108864 → IsReading read line draft → begun line ≡ []
    → ((lines : List (List ℕ)) → length lines < 2 ^ 63 → KeepsDraft lines draft → Finishes lines result) → IsRead result read
finished_whole read line draft result few r is finishes =
    let nothing : open_from [] read ≡ [] = kept_nothing (open_from [] read) (sym (line_so_far read line r.held) ∙ is) in
    let lines : lines_of read ≡ map line_of (ended_from [] read) = ap (λ (l : List ℕ). map line_of (ended_from [] read ++ last_line l)) nothing ∙ ap (map line_of) (append-nil (ended_from [] read)) in
    finishes_read read (lines_of read) result (are_lines read)
    (finishes (lines_of read) (omega (arith, few, few_lines read, ap length lines))
    (subst (λ (ls : List (List ℕ)). KeepsDraft ls draft) (sym lines) (keeps_so_far read line draft r)))

finished_last : (read : List ℕ) (line : LineSoFar) (draft next : Draft) (result : Result Document DocumentEnding) → length read ≤ 67108864 → IsReading read line draft → 0 < length (begun line)
    → KeepsDraft (map line_of (ended_from [] read) ++ line_of (open_from [] read) ∷ []) next
    → ((lines : List (List ℕ)) → length lines < 2 ^ 63 → KeepsDraft lines next → Finishes lines result) → IsRead result read
finished_last read line draft next result few r other keeps finishes =
    let some : open_from [] read ≢ [] = λ is. omega (arith, other, ap length (line_so_far read line r.held ∙ ap kept is)) in
    let lines : lines_of read ≡ map line_of (ended_from [] read) ++ line_of (open_from [] read) ∷ [] =
    ap (λ (l : List (List ℕ)). map line_of (ended_from [] read ++ l)) (last_some (open_from [] read) some) ∙ map-append line_of (ended_from [] read) (open_from [] read ∷ []) in
    finishes_read read (lines_of read) result (are_lines read)
    (finishes (lines_of read) (omega (arith, few, few_lines read, ap length lines, length-append (map line_of (ended_from [] read)) (line_of (open_from [] read) ∷ [])))
    (subst (λ (ls : List (List ℕ)). KeepsDraft ls next) (sym lines) keeps))

-- ---- what is told at the end

module _ (read : List ℕ) (old new : LineSoFar) (draft : Draft) (result : Result Document DocumentEnding) (few : length read ≤ 67108864) (r : IsReading read old draft) (f : Fed) (last : TellsLast old f new) where
  pub finished_more : f ≡ fed.More → ((lines : List (List ℕ)) → length lines < 2 ^ 63 → KeepsDraft lines draft → Finishes lines result) → IsRead result read
  finished_more is whole = finished_whole read old draft result few r (subst (λ (g : Fed). TellsLast old g new) is last).0 whole

  -- the piece that the end of the input ends
  last_piece : new ≡ record { bytes = begun old; ended = true } → new.bytes ≡ kept (open_from [] read)
  last_piece is = ap (λ (l : LineSoFar). l.bytes) is ∙ line_so_far read old r.held

  pub finished_line : f ≡ fed.Line → (text : List ℕ) → text ≡ line_of new.bytes → (next : Draft)
      → ((lines : List (List ℕ)) → length lines < 2 ^ 63 → length text ≤ 4096 → KeepsDraft lines draft → KeepsDraft (lines ++ text ∷ []) next)
      → ((lines : List (List ℕ)) → length lines < 2 ^ 63 → KeepsDraft lines next → Finishes lines result) → IsRead result read
  finished_line is text same next takes whole =
      let told = subst (λ (g : Fed). TellsLast old g new) is last in
      let line = line_told new.bytes (open_from [] read) (last_piece told.1) told.2 in
      finished_last read old draft next result few r told.0
      (subst (λ (l : List ℕ). KeepsDraft (map line_of (ended_from [] read) ++ l ∷ []) next) (same ∙ line.1)
      (takes (map line_of (ended_from [] read)) (omega (arith, few, few_lines read)) (subst (λ (l : List ℕ). length l ≤ 4096) (sym same) line.0) (keeps_so_far read old draft r)))
      whole

  pub finished_long_line : f ≡ fed.TooLong → (next : Draft)
      → ((lines : List (List ℕ)) (text : List ℕ) → length lines < 2 ^ 63 → 4096 < length text → KeepsDraft lines draft → KeepsDraft (lines ++ text ∷ []) next)
      → ((lines : List (List ℕ)) → length lines < 2 ^ 63 → KeepsDraft lines next → Finishes lines result) → IsRead result read
  finished_long_line is next takes whole =
      let told = subst (λ (g : Fed). TellsLast old g new) is last in
      finished_last read old draft next result few r told.0
      (takes (map line_of (ended_from [] read)) (line_of (open_from [] read)) (omega (arith, few, few_lines read)) (too_long_told new.bytes (open_from [] read) (last_piece told.1) told.2) (keeps_so_far read old draft r))
      whole

-- ---- the source

-- so many bytes of the input were taken
pub record Taken (input : List ℕ) (taken : ℕ) (left : Option (List ℕ)) (line : LineSoFar) (draft : Draft) : Type 0 where
  pub read : List ℕ
  pub rest : List ℕ
  pub reads : Reads input left read rest
  pub count : length read ≡ taken
  pub reading : IsReading read line draft

module _ (input : List ℕ) (taken : ℕ) (left : Option (List ℕ)) (line : LineSoFar) (draft : Draft) (t : Taken input taken left line draft) where
  pub stopped : (ending : DocumentEnding) (left' : Option (List ℕ)) → left' ≡ left → EndsEarly ending t.read t.rest → HasStopped (Err ending) input left'
  stopped ending left' same ends = record { read = t.read; rest = t.rest; reads = record { parts = t.reads.parts; is_left = same ∙ t.reads.is_left }; stops = ends }

  pub stopped_behind : (ending : DocumentEnding) (piece : List ℕ) (left' : Option (List ℕ)) → Takes left left' piece → ((read rest : List ℕ) → length read ≡ taken + length piece → EndsEarly ending read rest) → HasStopped (Err ending) input left'
  stopped_behind ending piece left' takes ends =
      let to = takes.told t.rest t.reads.is_left in
      record {
        read = t.read ++ piece;
        rest = to.0;
        reads = record { parts = t.reads.parts ∙ ap (λ (l : List ℕ). t.read ++ l) to.2 ∙ sym (append_assoc t.read piece to.0); is_left = to.1 };
        stops = ends (t.read ++ piece) to.0 (omega (arith, length-append t.read piece, t.count));
      }

  pub taken_more : (piece : List ℕ) (left' : Option (List ℕ)) (line' : LineSoFar) (draft' : Draft) → Takes left left' piece
      → ((read : List ℕ) → length read ≡ taken → IsReading read line draft → IsReading (read ++ piece) line' draft') → Taken input (taken + length piece) left' line' draft'
  taken_more piece left' line' draft' takes reading =
      let to = takes.told t.rest t.reads.is_left in
      record {
        read = t.read ++ piece;
        rest = to.0;
        reads = record { parts = t.reads.parts ∙ ap (λ (l : List ℕ). t.read ++ l) to.2 ∙ sym (append_assoc t.read piece to.0); is_left = to.1 };
        count = omega (arith, length-append t.read piece, t.count);
        reading = reading t.read t.count t.reading;
      }

  pub ended : (left' : Option (List ℕ)) (nothing : List ℕ) → nothing ≡ [] → Takes left left' nothing → AtEnd left → taken ≤ 67108864 → GaveEnd t.read t.rest × (left' ≡ Some t.rest)
  ended left' nothing none takes end within =
      let to = takes.told t.rest t.reads.is_left in
      let same : to.0 ≡ t.rest = sym (to.2 ∙ ap (λ (l : List ℕ). l ++ to.0) none) in
      (record { all = end t.rest t.reads.is_left; within = omega (arith, t.count, within) }, to.1 ∙ ap Some same)

ends_final : (ending : DocumentEnding) (read rest : List ℕ) → IsRead (Err ending) read → GaveEnd read rest → EndsEarly ending read rest
ends_final ending.NoMemory read rest is gave = gave.within
ends_final (ending.Refused code line) read rest is gave = (gave, is)
ends_final ending.Done read rest is gave = absurd is
ends_final ending.ReadFault read rest is gave = absurd is
ends_final ending.PrintFault read rest is gave = absurd is
ends_final ending.InputTooLarge read rest is gave = absurd is

pub stops_final : (result : Result Document DocumentEnding) (read rest : List ℕ) → IsRead result read → GaveEnd read rest → ReadingStops result read rest
stops_final (Ok document) read rest is gave = (gave, is)
stops_final (Err ending) read rest is gave = ends_final ending read rest is gave

-- ---- the endings of a call

-- a reply ends after the whole input
pub ends_replied : (ending : DocumentEnding) (read rest : List ℕ) (old new : Option (List ℕ)) → GaveEnd read rest → Replies ending read old new → DocumentEnds ending read rest old new
ends_replied ending.Done read rest old new gave r = (gave, r)
ends_replied ending.PrintFault read rest old new gave r = (gave, r)
ends_replied ending.NoMemory read rest old new gave r = (gave.within, r)
ends_replied (ending.Refused code line) read rest old new gave r = absurd r
ends_replied ending.InputTooLarge read rest old new gave r = absurd r
ends_replied ending.ReadFault read rest old new gave r = absurd r

-- before a reply nothing is printed
pub ends_early : (ending : DocumentEnding) (read rest : List ℕ) (old new : Option (List ℕ)) → EndsEarly ending read rest → new ≡ old → DocumentEnds ending read rest old new
ends_early ending.NoMemory read rest old new ends same = (ends, same)
ends_early (ending.Refused code line) read rest old new ends same = (ends, same)
ends_early ending.InputTooLarge read rest old new ends same = (ends, same)
ends_early ending.ReadFault read rest old new ends same = (ends, same)
ends_early ending.Done read rest old new ends same = absurd ends
ends_early ending.PrintFault read rest old new ends same = absurd ends
