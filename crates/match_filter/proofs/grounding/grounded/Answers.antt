use Rattle.match_filter.specs.Links.{Linked}
use Rattle.match_filter.proofs.ClassLemmas.{link_below}
use Rattle.match_filter.proofs.GroundLemmas.{end_grounded, freed_grounded}
use Rattle.match_filter.proofs.Totals.{waits_fall}
use Rattle.match_filter.proofs.grounding.grounded.Goals as goal

pub returns-in_default : goal.returns-in_default
returns-in_default c =
    let ends = end_grounded (Linked c.args.links.now) c.args.classes.now (link_below 24 c.args.links.now c.requires.below) c.requires.classes c.frees.waiting c.in_default.ensures in
    (λ none k lt. c.frees.invariant k lt (c.none_waits.ensures.0 none k lt), λ all. c.none_waits.ensures.1 (ends all))

pub frees-smaller : goal.frees-smaller
frees-smaller c = waits_fall c.frees.waiting c.in-Some.term c.in-Some.ensures.waits

pub frees-preserved : goal.frees-preserved
frees-preserved c =
    freed_grounded (Linked c.args.links.now) c.args.classes.now (link_below 24 c.args.links.now c.requires.below) c.requires.classes c.frees.waiting c.in-Some.term c.in-Some.ensures c.frees.invariant
