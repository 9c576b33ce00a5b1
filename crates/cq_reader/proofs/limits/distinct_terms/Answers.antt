use Rattle.std.proofs.Common.{take}
use Rattle.std.specs.Prelude.{flat_map}
use Rattle.dl_base.specs.Query.{terms_of}
use Rattle.cq_reader.proofs.LimitRules.{terms_more}
use Rattle.cq_reader.proofs.limits.distinct_terms.Goals as goal

pub loop-atom-preserved : goal.loop-atom-preserved
loop-atom-preserved c =
    let before = flat_map terms_of (take c.loop-atom.atom-index c.args.atoms.now) in
    rw (terms_more c.args.atoms.now c.loop-atom.atom-index c.atom-item.result c.loop-atom-test.true, ← c.atom-item.is) (c.in_ok-add_terms.ensures before c.loop-atom.invariant)
