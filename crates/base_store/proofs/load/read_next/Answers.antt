use Rattle.std.proofs.Common.{◌∙◌, Bool, Ok, Option, arith, ap, refl, sym, subst}
use Rattle.std.specs.Prelude.{MatchBool}
use Rattle.std.specs.Option.{ForSome}
use Rattle.host_io.specs.Disk.{Disk}
use Rattle.gated_log.specs.Reading.{AnswersNext, Moves, entry_in}
use Rattle.gated_log.specs.State.{LogReaderState}
use Rattle.gated_log.specs.declared.reader.Next.{Next}
use Rattle.base_store.specs.Area.{IsDamagedBehind}
use Rattle.base_store.specs.Legal.{Continues}
use Rattle.base_store.specs.History.{History}
use Rattle.base_store.specs.Loaded.{LoadFaultSays}
use Rattle.base_store.specs.Loading.{HasReadSoFar, HasReadAll, KeepsNext}
use Rattle.base_store.proofs.EntriesRead.{err_says, read_all, read_more, read_offends, read_ready, read_stuck}
use Rattle.base_store.proofs.load.read_next.Goals as goal

pub next-requires-clause-ready : goal.next-requires-clause-ready
next-requires-clause-ready g c = read_ready (g.H.Host.disk c.args.host.now) c.args.reader.now c.args.loading.now c.requires.read

pub returns-in_err-next-clause-damaged : goal.returns-in_err-next-clause-damaged
returns-in_err-next-clause-damaged g c =
    let says = read_offends (g.H.Host.disk c.args.host.now) c.args.reader.now c.args.loading.now c.requires.read c.in_err-next.field-0.0 c.in_err-next.ensures.damaged c.in_err-next.ensures.damaged_place in
    err_says c.from_residual.result c.in_err-next.field-0.0 (λ f. ForSome (g.H.Host.disk c.args.host.now) (λ d. LoadFaultSays (IsDamagedBehind d.first.reads) f)) c.from_residual.ensures.1 says

pub returns-in-Finished-clause-on : goal.returns-in-Finished-clause-on
returns-in-Finished-clause-on g c =
    let disk = g.H.Host.disk in
    let old = c.args.reader.now in
    let moved = subst (λ (n : Next). Moves old (Ok n) c.next.new.self) c.in-Finished.is c.in_ok-next.ensures.moves in
    let all = read_all (disk c.args.host.now) old c.args.loading.now c.requires.read
    (λ d told. subst (λ (n : Next). AnswersNext old d.first.reads c.next.new.buf n) c.in-Finished.is (c.in_ok-next.ensures.ok d told)) in (
      ap (λ (r : LogReaderState). r.finished) moved,
      subst (λ (o : Option Disk). HasReadAll o (record { end = c.next.new.self.gate; limit = c.next.new.self.limit }) c.args.loading.now) (sym c.in_ok-next.ensures.disk)
          (subst (λ (r : LogReaderState). HasReadAll (disk c.args.host.now) (record { end = r.gate; limit = r.limit }) c.args.loading.now) (sym moved) all),
    )

pub returns-then-branch-clause-on : goal.returns-then-branch-clause-on
returns-then-branch-clause-on g c =
    let disk = g.H.Host.disk in
    let old = c.args.reader.now in
    let moved = subst (λ (n : Next). Moves old (Ok n) c.next.new.self) c.in-Entry.is c.in_ok-next.ensures.moves in
    let h = c.requires.read.history in
    let e = entry_in c.in-Entry.kind c.in-Entry.len c.next.new.buf in
    let taken = subst (λ (b : Bool). MatchBool b (KeepsNext h e c.take.new.self) ((next : History) → Continues h e next → ⊥)) c.if-branch.true (c.in_ok-take-in-Entry.ensures h c.requires.read.keeps) in
    let more = read_more (disk c.args.host.now) old c.args.loading.now c.requires.read c.in-Entry.kind c.in-Entry.len c.next.new.buf c.next.new.self c.take.new.self
    (omega (arith, moved.2, c.requires.room, c.next.auto.buf)) moved.3 moved.4
    (λ d told. subst (λ (n : Next). AnswersNext old d.first.reads c.next.new.buf n) c.in-Entry.is (c.in_ok-next.ensures.ok d told)) taken in (
      omega (arith, ap (λ (r : LogReaderState). r.gate) moved.4),
      subst (λ (o : Option Disk). HasReadSoFar o c.next.new.self c.take.new.self) (sym c.in_ok-next.ensures.disk) more,
    )

pub returns-else-branch-clause-damaged : goal.returns-else-branch-clause-damaged
returns-else-branch-clause-damaged g c =
    let disk = g.H.Host.disk in
    let old = c.args.reader.now in
    let moved = subst (λ (n : Next). Moves old (Ok n) c.next.new.self) c.in-Entry.is c.in_ok-next.ensures.moves in
    let h = c.requires.read.history in
    let e = entry_in c.in-Entry.kind c.in-Entry.len c.next.new.buf in
    let illegal = subst (λ (b : Bool). MatchBool b (KeepsNext h e c.take.new.self) ((next : History) → Continues h e next → ⊥)) c.if-branch.false (c.in_ok-take-in-Entry.ensures h c.requires.read.keeps) in
    let stuck = read_stuck (disk c.args.host.now) old c.args.loading.now c.requires.read c.in-Entry.kind c.in-Entry.len c.next.new.buf
    (λ d told. subst (λ (n : Next). AnswersNext old d.first.reads c.next.new.buf n) c.in-Entry.is (c.in_ok-next.ensures.ok d told)) illegal in
    λ d told. (refl, subst (IsDamagedBehind d.first.reads) (sym (c.at.ensures ∙ ap (λ (r : LogReaderState). r.last) moved.4)) (stuck d told))
