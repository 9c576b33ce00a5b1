use Rattle.std.proofs.Common.{sym, subst}
use Rattle.std.specs.List.Sorted.{IsStrictlySortedBy}
use Rattle.std.specs.Ordering.{nat_cmp}
use Rattle.completion.proofs.NumberListLemmas.{none_rises}
use Rattle.completion.proofs.numbers.Numbers.with_room.Goals as goal

pub invariant_of-result : goal.invariant_of-result
invariant_of-result c = subst (IsStrictlySortedBy nat_cmp) (sym c.in_ok-with_capacity.ensures.items) none_rises
