use Rattle.std.proofs.Common.{◌≡◌, ◌∙◌, List, ℕ, refl, subst}
use Rattle.host_io.specs.Disk.{Area, IsImage}
use Rattle.host_io.proofs.Settled.{at_rest_image}
use Rattle.gated_log.proofs.Runs.{begun, quiet}
use Rattle.gated_log.proofs.reader.read_first.Goals as goal

pub returns-clause-moments : goal.returns-clause-moments
returns-clause-moments g c = λ d told.
    let h = g.H.Host in
    let is = c.requires.settled d told in
    let P : List ℕ → Type 0 = λ x. x ≡ d.first.reads in
    let start = begun h.disk h.printed h.clock h.might c.args.host.now d is P told refl (g.met.H.Host.only_now c.args.host.now) in
    let images : (x : List ℕ) → IsImage d.first x → P x = λ x image. at_rest_image d.first.reads x (subst (λ (a : Area). IsImage a x) is.first image) in
    let one = quiet h.disk h.printed h.clock h.might c.args.host.now d is P c.args.host.now c.read.new.self d d start (c.read.ensures.disk ∙ told) refl images c.read.ensures.printed c.read.ensures.time in
    one.moments
