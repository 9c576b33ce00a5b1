use Rattle.std.proofs.Common.{◌∙◌, arith, refl, ⊎_elim}
use Rattle.base_store.proofs.LoadMoments.{more_read, none_read, when_false, when_true}
use Rattle.base_store.proofs.load.read_each.Goals as goal

pub loop-init : goal.loop-init
loop-init g c =
    let h = g.H.Host in
    record {
      room = c.requires.room;
      read = c.requires.read;
      moments = none_read h.disk h.printed h.clock h.might c.args.host.now (λ d told. (c.requires.read.area d told).0) (g.met.H.Host.only_now c.args.host.now);
      disk = refl;
      printed = refl;
      faults = refl;
      other = refl;
    }

pub loop-preserved : goal.loop-preserved
loop-preserved g c =
    let h = g.H.Host in
    record {
      room = omega (arith, c.loop.invariant.room, c.read_next.auto.payload);
      read = (when_true _ _ c.in_ok-read_next.field-0 c.if-branch.true c.in_ok-read_next.ensures.on).1;
      moments = more_read h.disk h.printed h.clock h.might c.args.host.now c.loop.host c.read_next.new.host c.loop.invariant.disk c.loop.invariant.printed c.loop.invariant.moments c.in_ok-read_next.ensures.moments;
      disk = c.in_ok-read_next.ensures.disk ∙ c.loop.invariant.disk;
      printed = c.in_ok-read_next.ensures.printed ∙ c.loop.invariant.printed;
      faults = ⊎_elim (λ no. absurd no) (λ same. same ∙ c.loop.invariant.faults) c.in_ok-read_next.ensures.stays;
      other = c.in_ok-read_next.ensures.other ∙ c.loop.invariant.other;
    }

pub returns-clause-all : goal.returns-clause-all
returns-clause-all g c = when_false _ _ c.in_ok-read_next.field-0 c.if-branch.false c.in_ok-read_next.ensures.on

pub returns-clause-moments : goal.returns-clause-moments
returns-clause-moments g c =
    let h = g.H.Host in
    more_read h.disk h.printed h.clock h.might c.args.host.now c.loop.host c.read_next.new.host c.loop.invariant.disk c.loop.invariant.printed c.loop.invariant.moments c.in_ok-read_next.ensures.moments
