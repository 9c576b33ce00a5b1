use Rattle.dl_base.specs.Tables.{IsAbove}
use Rattle.dl_base.specs.declared.element.Elem.{Elem}
use Rattle.join_ops.specs.Levels.{Fits}
use Rattle.join_ops.proofs.Rooms.{room, known_by}
use Rattle.join_ops.proofs.level.candidate.Given as goal

abbrev pub invariant-offers : goal.invariant-offers
invariant-offers g l = record {
  fits : (e : Elem) → Fits (g.T.Tables.rows l.t) l.conditions l.level l.front e → IsAbove l.fn.after e → IsAbove l.above e;
  above : (e : Elem) → IsAbove l.above e → IsAbove l.fn.after e;
}

abbrev pub decreases-offers : goal.decreases-offers
decreases-offers g l = room (known_by (g.T.Tables.rows l.t) l.level.source) l.above
