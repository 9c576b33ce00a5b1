use Rattle.std.proofs.Common.{arith}
use Rattle.match_filter.proofs.ClassLemmas.{HasNoneLess, at_link}
use Rattle.match_filter.proofs.classes.unlike_parents.Goals as goal

pub returns : goal.returns
returns c = λ p d l. at_link (HasNoneLess c.args.links.now c.args.classes.now) c.args.links.now (λ j lt. c.loop-link.invariant j (omega (arith, c.loop-link-test.false))) p d l
