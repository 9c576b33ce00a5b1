use Rattle.std.proofs.Common.{sym, subst}
use Rattle.std.specs.List.Sorted.{IsStrictlySortedBy}
use Rattle.std.specs.Ordering.{nat_cmp}
use Rattle.completion.proofs.NumberListLemmas.{none_rises}
use Rattle.completion.proofs.numbers.take_list.Goals as goal

pub invariant_of-replace : goal.invariant_of-replace
invariant_of-replace c = subst (IsStrictlySortedBy nat_cmp) (sym c.new.ensures.items) none_rises
