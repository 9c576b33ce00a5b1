use Rattle.match_filter.specs.Links.{Linked}
use Rattle.match_filter.proofs.ClassLemmas.{sound_closed, link_below, still_sound, renumbered_falls, own_sound}
use Rattle.match_filter.proofs.classes.classes.Goals as goal

pub joins-init : goal.joins-init
joins-init c = own_sound (Linked c.args.links.now) c.own_classes-classes.result c.own_classes-classes.ensures

pub returns-in_default : goal.returns-in_default
returns-in_default c = sound_closed (Linked c.args.links.now) c.joins.classes c.joins.invariant c.in_default.ensures

pub joins-smaller : goal.joins-smaller
joins-smaller c =
    renumbered_falls (Linked c.args.links.now) (link_below 24 c.args.links.now c.requires) c.joins.classes c.renumber.new.classes c.in-Some.unlike.from c.in-Some.unlike.to
    c.in-Some.ensures c.renumber.ensures

pub joins-preserved : goal.joins-preserved
joins-preserved c =
    still_sound (Linked c.args.links.now) (link_below 24 c.args.links.now c.requires) c.joins.classes c.renumber.new.classes c.in-Some.unlike.from c.in-Some.unlike.to
    c.in-Some.ensures c.renumber.ensures c.joins.invariant
