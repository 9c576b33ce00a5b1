use Rattle.std.proofs.Common.{ℕ, List, refl, ◌+◌, [], ◌∷◌, ◌++◌, length, ◌∙◌, ap, subst, arith, Some}
use Rattle.host_io.specs.Disk.{at_rest, put, TakesStep, Syncs}
use Rattle.area_layout.specs.Layout.{head_bytes}
use Rattle.gated_log.proofs.Running.{begun, written, synced, on_disk, on_ok}
use Rattle.gated_log.proofs.Puts.{three_puts}
use Rattle.gated_log.proofs.writing.write_entry.Goals as goal

pub returns-in_err-write-clause-moments : goal.returns-in_err-write-clause-moments
returns-in_err-write-clause-moments g c = λ d told.
    let at = c.requires.settled d told in
    let h = g.H.Host in
    let start = begun h.disk h.printed h.clock h.might c.args.host.now d (c.args.end + 1) told at.0 (omega (arith, at.1)) (g.met.H.Host.only_now c.args.host.now) in
    let one = written h.disk h.printed h.clock h.might c.args.host.now d (c.args.end + 1) at.0 _ _ _ _ _ _ (omega arith) start c.write.ensures.disk c.write.ensures.printed c.write.ensures.time in
    one.1.moments

pub returns-in_err-write-2-clause-moments : goal.returns-in_err-write-2-clause-moments
returns-in_err-write-2-clause-moments g c = λ d told.
    let at = c.requires.settled d told in
    let h = g.H.Host in
    let start = begun h.disk h.printed h.clock h.might c.args.host.now d (c.args.end + 1) told at.0 (omega (arith, at.1)) (g.met.H.Host.only_now c.args.host.now) in
    let one = written h.disk h.printed h.clock h.might c.args.host.now d (c.args.end + 1) at.0 _ _ _ _ _ _ (omega arith) start c.in_ok-write.ensures.disk c.write.ensures.printed c.write.ensures.time in
    let two = written h.disk h.printed h.clock h.might c.args.host.now d (c.args.end + 1) at.0 _ _ _ _ _ _ (omega arith) one.1 c.write-2.ensures.disk c.write-2.ensures.printed c.write-2.ensures.time in
    two.1.moments

pub returns-in_err-write-3-clause-moments : goal.returns-in_err-write-3-clause-moments
returns-in_err-write-3-clause-moments g c = λ d told.
    let at = c.requires.settled d told in
    let h = g.H.Host in
    let start = begun h.disk h.printed h.clock h.might c.args.host.now d (c.args.end + 1) told at.0 (omega (arith, at.1)) (g.met.H.Host.only_now c.args.host.now) in
    let one = written h.disk h.printed h.clock h.might c.args.host.now d (c.args.end + 1) at.0 _ _ _ _ _ _ (omega arith) start c.in_ok-write.ensures.disk c.write.ensures.printed c.write.ensures.time in
    let two = written h.disk h.printed h.clock h.might c.args.host.now d (c.args.end + 1) at.0 _ _ _ _ _ _ (omega arith) one.1 c.in_ok-write-2.ensures.disk c.write-2.ensures.printed c.write-2.ensures.time in
    let three = written h.disk h.printed h.clock h.might c.args.host.now d (c.args.end + 1) at.0 _ _ _ _ _ _ (omega arith) two.1 c.write-3.ensures.disk c.write-3.ensures.printed c.write-3.ensures.time in
    three.1.moments

pub returns-clause-moments : goal.returns-clause-moments
returns-clause-moments g c = λ d told.
    let at = c.requires.settled d told in
    let h = g.H.Host in
    let start = begun h.disk h.printed h.clock h.might c.args.host.now d (c.args.end + 1) told at.0 (omega (arith, at.1)) (g.met.H.Host.only_now c.args.host.now) in
    let one = written h.disk h.printed h.clock h.might c.args.host.now d (c.args.end + 1) at.0 _ _ _ _ _ _ (omega arith) start c.in_ok-write.ensures.disk c.write.ensures.printed c.write.ensures.time in
    let two = written h.disk h.printed h.clock h.might c.args.host.now d (c.args.end + 1) at.0 _ _ _ _ _ _ (omega arith) one.1 c.in_ok-write-2.ensures.disk c.write-2.ensures.printed c.write-2.ensures.time in
    let three = written h.disk h.printed h.clock h.might c.args.host.now d (c.args.end + 1) at.0 _ _ _ _ _ _ (omega arith) two.1 c.in_ok-write-3.ensures.disk c.write-3.ensures.printed c.write-3.ensures.time in
    synced h.disk h.printed h.clock h.might c.args.host.now d (c.args.end + 1) at.0 _ _ _ _ three.1 c.sync.ensures.disk c.sync.ensures.printed c.sync.ensures.time

pub returns-clause-ok : goal.returns-clause-ok
returns-clause-ok g c = on_ok c.sync.result _ (λ v is d told.
    let at = c.requires.settled d told in
    let h = g.H.Host in
    let start = begun h.disk h.printed h.clock h.might c.args.host.now d (c.args.end + 1) told at.0 (omega (arith, at.1)) (g.met.H.Host.only_now c.args.host.now) in
    let one = written h.disk h.printed h.clock h.might c.args.host.now d (c.args.end + 1) at.0 _ _ _ _ _ _ (omega arith) start c.in_ok-write.ensures.disk c.write.ensures.printed c.write.ensures.time in
    let two = written h.disk h.printed h.clock h.might c.args.host.now d (c.args.end + 1) at.0 _ _ _ _ _ _ (omega arith) one.1 c.in_ok-write-2.ensures.disk c.write-2.ensures.printed c.write-2.ensures.time in
    let three = written h.disk h.printed h.clock h.might c.args.host.now d (c.args.end + 1) at.0 _ _ _ _ _ _ (omega arith) two.1 c.in_ok-write-3.ensures.disk c.write-3.ensures.printed c.write-3.ensures.time in
    let goes = subst (λ r. TakesStep (Syncs r) (h.disk c.write-3.new.self) (h.disk c.sync.new.self)) is c.sync.ensures.disk in
    let done = on_disk h.disk h.printed h.clock h.might c.args.host.now d (c.args.end + 1) c.write-3.new.self c.sync.new.self three.0 at.0 three.1 (λ x is_x. let t = goes.told x is_x in (t.0, t.1, t.2.ok)) in
    let head = head_bytes (record { kind = c.args.kind; len = length c.args.payload.now }) in
    let same = c.write_head-head.ensures in
    let reads = three_puts (c.args.end + 1) (c.args.end + 6) (c.args.end + 6 + length c.args.payload.now) c.write_head-head.result c.args.payload.now (0 ∷ []) d.first.reads
    one.0.first.reads two.0.first.reads three.0.first.reads (omega (arith, at.1)) (omega (arith, ap length same)) refl one.2 two.2 three.2 in
    done ∙ ap (λ (l : List ℕ). Some (record { first = at_rest l; second = d.second })) (reads ∙ ap (λ (l : List ℕ). put (c.args.end + 1) (l ++ c.args.payload.now ++ 0 ∷ []) d.first.reads) same))
