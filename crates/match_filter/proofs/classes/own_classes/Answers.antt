use Rattle.std.proofs.Common.{◌≢◌, ◌<◌, length, ◌∙◌, arith, get_or-set_other, get_or-set_same, below_more}
use Rattle.std.proofs.lemmas.List.{length-set}
use Rattle.match_filter.proofs.classes.own_classes.Goals as goal

pub loop-i-preserved : goal.loop-i-preserved
loop-i-preserved c = record {
  count = length-set c.loop-i.classes c.loop-i.i c.loop-i.i ∙ c.loop-i.invariant.count;
  own = below_more _ _
      (λ k h. let other : k ≢ c.loop-i.i = omega arith in rw get_or-set_other (c.loop-i.invariant.own k h))
      (let lt : c.loop-i.i < length c.loop-i.classes = omega (arith, c.loop-i.invariant.count) in rw get_or-set_same);
}
