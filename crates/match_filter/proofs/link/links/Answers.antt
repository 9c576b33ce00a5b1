use Rattle.std.proofs.Common.{arith}
use Rattle.std.proofs.lemmas.Option.{slice_get-get_or}
use Rattle.match_filter.proofs.LinkLemmas.{none_filled, filled_more, all_filled}
use Rattle.match_filter.proofs.link.links.Goals as goal

pub loop-i-init : goal.loop-i-init
loop-i-init c = none_filled c.args.images.now c.args.atoms.now

pub loop-i-preserved : goal.loop-i-preserved
loop-i-preserved c =
    filled_more c.args.images.now c.args.atoms.now c.loop-i.i c.loop-i.links _ c.link_of.result (omega arith) (slice_get-get_or c.args.atoms.now c.loop-i.i _ (omega arith)) c.link_of.ensures c.loop-i.invariant

pub returns : goal.returns
returns c = all_filled c.args.images.now c.args.atoms.now c.loop-i.i c.loop-i.links (omega arith) c.loop-i.invariant
