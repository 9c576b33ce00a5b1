use Rattle.std.proofs.Common.{sym, subst, Option}
use Rattle.host_io.specs.Disk.{IsSettled}
use Rattle.area_layout.specs.declared.entry_head.EntryHead.{EntryHead}
use Rattle.gated_log.specs.Entries.{within}
use Rattle.gated_log.specs.Reading.{GoesOnWith, HasRead, IsAll, entry_in}
use Rattle.gated_log.specs.State.{IsBegun, LogReaderState}
use Rattle.gated_log.proofs.reader.Reader.next.Goals as goal

pub read_entry-requires-clause-ready : goal.read_entry-requires-clause-ready
read_entry-requires-clause-ready g c = λ d told.
    subst (λ (r : LogReaderState). IsSettled d × IsBegun (within r.limit) r.gate d.first.reads) (sym c.self.view_is) (c.requires.ready d told)

pub returns-in-Some-clause-ok : goal.returns-in-Some-clause-ok
returns-in-Some-clause-ok g c = λ d told.
    let read = subst (λ (o : Option EntryHead). HasRead (within c.self.inside.limit) c.self.inside.gate d.first.reads c.read_entry.new.buf o) c.in-Some.is (c.in_ok-head.ensures.ok d told) in
    subst (λ (r : LogReaderState). GoesOnWith (within r.limit) r.gate c.in-Some.head.len d.first.reads (entry_in c.in-Some.head.kind c.in-Some.head.len c.read_entry.new.buf)) c.self.view_is read

pub returns-in-None-clause-ok : goal.returns-in-None-clause-ok
returns-in-None-clause-ok g c = λ d told.
    let read = subst (λ (o : Option EntryHead). HasRead (within c.self.inside.limit) c.self.inside.gate d.first.reads c.read_entry.new.buf o) c.in-None.is (c.in_ok-head.ensures.ok d told) in
    subst (λ (r : LogReaderState). IsAll (within r.limit) r.gate d.first.reads) c.self.view_is read
