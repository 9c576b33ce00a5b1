use Rattle.std.proofs.Common.{◌≡◌, ◌<◌, ◌-◌, length, take, map}
use Rattle.join_ops.specs.Joins.{SearchPlace}
use Rattle.join_ops.specs.Levels.{IsAtFront, fixed_on}
use Rattle.join_ops.proofs.Rooms.{known_all}
use Rattle.join_ops.proofs.Weights.{weight}
use Rattle.join_ops.proofs.search.search.Given as goal

abbrev pub invariant-levels : goal.invariant-levels
invariant-levels g l = record {
  level : l.level < length l.elements;
  hints : length l.hints ≡ length l.elements;
  at : (place : SearchPlace) → IsAtFront (g.T.Tables.rows l.t) l.conditions (map fixed_on l.levels) place (take l.fn.level l.fn.elements) l.fn.after
      → IsAtFront (g.T.Tables.rows l.t) l.conditions (map fixed_on l.levels) place (take l.level l.elements) l.after;
}

abbrev pub decreases-levels : goal.decreases-levels
decreases-levels g l = weight (known_all (g.T.Tables.rows l.t) l.levels) (take l.level l.elements) l.after (length l.elements - l.level)
