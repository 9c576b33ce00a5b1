use Rattle.std.proofs.Common.{List, ℕ, ◌<◌, Contains, sym, subst}
use Rattle.std.specs.List.Sorted.{IsStrictlySortedBy}
use Rattle.std.specs.Ordering.{nat_cmp}
use Rattle.completion.proofs.NumberListLemmas.{rises_above}
use Rattle.completion.proofs.numbers.Numbers.push.Goals as goal

pub invariant_of-self-2 : goal.invariant_of-self-2
invariant_of-self-2 c = subst (IsStrictlySortedBy nat_cmp) (sym c.in_ok-push.ensures.items) (rises_above c.self.inside.list.items c.args.number c.self.invariant (subst (λ (xs : List ℕ). (m : ℕ) → Contains xs m → m < c.args.number) (sym c.self.view_is) c.requires))
