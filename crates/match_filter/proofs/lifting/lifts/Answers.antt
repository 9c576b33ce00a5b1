use Rattle.std.proofs.Common.{refl}
use Rattle.match_filter.proofs.LiftingLemmas.{below_24, first_decides, second_decides, unlinked_lifts}
use Rattle.match_filter.proofs.lifting.lifts.Goals as goal

pub classes-classes-requires : goal.classes-classes-requires
classes-classes-requires c =
    below_24 c.args.s.now c.args.images.now c.links-links.result c.atoms.ensures.layout c.requires c.atoms.result.now c.atoms.ensures.list c.links-links.ensures

pub grounded-requires-clause-below : goal.grounded-requires-clause-below
grounded-requires-clause-below c =
    below_24 c.args.s.now c.args.images.now c.links-links.result c.atoms.ensures.layout c.requires c.atoms.result.now c.atoms.ensures.list c.links-links.ensures

pub returns-then-agree : goal.returns-then-agree
returns-then-agree c =
    second_decides c.args.s.now c.args.images.now c.links-links.result c.atoms.ensures.layout c.requires c.atoms.result.now c.atoms.ensures.list c.links-links.ensures
    c.classes-classes.result c.classes-classes.ensures c.grounded.result (c.if-agree.ensures.0 refl) c.grounded.ensures

pub returns-else-agree : goal.returns-else-agree
returns-else-agree c =
    first_decides c.args.s.now c.args.images.now c.links-links.result c.atoms.ensures.layout c.requires c.atoms.result.now c.atoms.ensures.list c.links-links.ensures
    c.classes-classes.result c.classes-classes.ensures c.agree.result c.if-agree.false c.agree.ensures

pub returns-then-not-has_link : goal.returns-then-not-has_link
returns-then-not-has_link c =
    unlinked_lifts c.args.s.now c.args.images.now c.links-links.result c.atoms.ensures.layout c.requires c.atoms.result.now c.atoms.ensures.list c.links-links.ensures
    (λ has. let f = c.if-not-has_link.ensures.1 has in absurd cc)
