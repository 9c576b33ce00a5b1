use Rattle.std.proofs.Common.{◌≡◌, length, take}
use Rattle.join_ops.specs.Orders.{images_of}
use Rattle.join_ops.proofs.matches.gather.Given as goal

abbrev pub invariant-loop-term : goal.invariant-loop-term
invariant-loop-term l = record {
  room : length l.images ≡ length l.levels;
  so_far : take l.term l.images ≡ images_of (take l.term l.levels) l.elements;
}
