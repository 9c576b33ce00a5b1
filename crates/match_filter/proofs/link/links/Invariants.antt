use Rattle.match_filter.proofs.LinkLemmas.{AreFilled}
use Rattle.match_filter.proofs.link.links.Given as goal

abbrev pub invariant-loop-i : goal.invariant-loop-i
invariant-loop-i l = AreFilled l.images l.atoms l.i l.links
