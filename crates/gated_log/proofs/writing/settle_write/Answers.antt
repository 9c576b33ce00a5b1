use Rattle.std.proofs.Common.{◌≡◌, List, ℕ, length, sym, ap, subst, Ok}
use Rattle.host_io.specs.Disk.{Area, Disk, IsImage, IsTorn, Writes, at_rest}
use Rattle.host_io.specs.declared.Failed.{Failed}
use Rattle.gated_log.proofs.Runs.{begun, quiet}
use Rattle.gated_log.proofs.Tears.{synced_image, synced_second, torn_images, untorn, whole}
use Rattle.gated_log.proofs.writing.settle_write.Goals as goal

pub returns-in_err-write-clause-moments : goal.returns-in_err-write-clause-moments
returns-in_err-write-clause-moments g c = λ d told.
    let is = c.requires.settled d told in
    let h = g.H.Host in
    let at = c.args.at in
    let bytes = c.args.bytes.now in
    let P : List ℕ → Type 0 = IsTorn at (length bytes) d.first.reads in
    let start = begun h.disk h.printed h.clock h.might c.args.host.now d is.0 P told (untorn at (length bytes) d.first.reads) (g.met.H.Host.only_now c.args.host.now) in
    let to = c.write.ensures.disk.told d told in
    let e = to.0 in
    let wrote : Writes at bytes c.write.result (at_rest d.first.reads) e.first = subst (λ (a : Area). Writes at bytes c.write.result a e.first) is.0.first to.2.changed in
    let second : e.second ≡ d.second = ap (λ (x : Disk). x.second) to.2.other in
    let images : (b : List ℕ) → IsImage e.first b → P b = torn_images at bytes d.first.reads c.write.result e.first is.1 wrote in
    let one = quiet h.disk h.printed h.clock h.might c.args.host.now d is.0 P c.args.host.now c.write.new.self d e start to.1 second images c.write.ensures.printed c.write.ensures.time in
    one.moments

pub returns-clause-moments : goal.returns-clause-moments
returns-clause-moments g c = λ d told.
    let is = c.requires.settled d told in
    let h = g.H.Host in
    let at = c.args.at in
    let bytes = c.args.bytes.now in
    let P : List ℕ → Type 0 = IsTorn at (length bytes) d.first.reads in
    let start = begun h.disk h.printed h.clock h.might c.args.host.now d is.0 P told (untorn at (length bytes) d.first.reads) (g.met.H.Host.only_now c.args.host.now) in
    let to = c.in_ok-write.ensures.disk.told d told in
    let e = to.0 in
    let wrote : Writes {E = Failed} at bytes (Ok c.in_ok-write.field-0) (at_rest d.first.reads) e.first = subst (λ (a : Area). Writes {E = Failed} at bytes (Ok c.in_ok-write.field-0) a e.first) is.0.first to.2.changed in
    let second : e.second ≡ d.second = ap (λ (x : Disk). x.second) to.2.other in
    let images : (b : List ℕ) → IsImage e.first b → P b = torn_images {E = Failed} at bytes d.first.reads (Ok c.in_ok-write.field-0) e.first is.1 wrote in
    let one = quiet h.disk h.printed h.clock h.might c.args.host.now d is.0 P c.args.host.now c.write.new.self d e start to.1 second images c.write.ensures.printed c.write.ensures.time in
    let end = c.sync.ensures.disk.told e to.1 in
    let here : P e.first.reads = subst P (ap (λ (x : Area). x.reads) (sym wrote.ok)) (whole at bytes d.first.reads is.1) in
    let images_now : (b : List ℕ) → IsImage end.0.first b → P b = λ b image. synced_image P c.sync.result e end.0 images here end.2 b image in
    let two = quiet h.disk h.printed h.clock h.might c.args.host.now d is.0 P c.write.new.self c.sync.new.self e end.0 one end.1 (synced_second is.0 c.sync.result e end.0 second end.2) images_now c.sync.ensures.printed c.sync.ensures.time in
    two.moments
