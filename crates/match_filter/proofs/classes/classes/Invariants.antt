use Rattle.match_filter.specs.Links.{Linked}
use Rattle.match_filter.proofs.ClassLemmas.{AreSound}
use Rattle.match_filter.proofs.Totals.{total}
use Rattle.match_filter.proofs.classes.classes.Given as goal

abbrev pub invariant-joins : goal.invariant-joins
invariant-joins l = AreSound (Linked l.links) l.classes

abbrev pub decreases-joins : goal.decreases-joins
decreases-joins l = total 24 l.classes
