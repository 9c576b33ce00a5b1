use Rattle.std.proofs.Common.{◌≡◌, ◌↔◌, ℕ, List, Contains, sym, subst}
use Rattle.std.specs.List.Sorted.{IsStrictlySortedBy}
use Rattle.std.specs.declared.cmp.Ordering.{Ordering}
use Rattle.std.specs.declared.cmp.Ordering.TheVariants.{Equal}
use Rattle.completion.proofs.FillLemmas.{elems_with}
use Rattle.completion.proofs.OrderLemmas.{witness_order_is, witness_same}
use Rattle.completion.specs.Gathered.{AreElemsWith, IsFoundWith}
use Rattle.dl_base.specs.declared.element.Witness.{Witness}
use Rattle.completion.proofs.gather.elements_with.Goals as goal

pub in_order-requires : goal.in_order-requires
in_order-requires c = subst (λ (cmp : Witness → Witness → Ordering). (x y : Witness) → cmp x y ≡ Equal → x ≡ y) (sym witness_order_is) witness_same

pub new-requires : goal.new-requires
new-requires c = record {
  numbers_rise = c.into_list.ensures.rising;
  witnesses_rise = subst (λ (cmp : Witness → Witness → Ordering). IsStrictlySortedBy cmp c.in_order.result.items) witness_order_is c.in_order.ensures.rising;
}

pub returns : goal.returns
returns c = λ list are.
    subst (AreElemsWith c.args.rules.now list c.args.book.now c.args.property) (sym c.new.ensures)
    (elems_with c.args.rules.now list c.args.book.now c.args.property c.into_list.result.items c.in_ok-witnesses.witnesses.items c.in_order.result.items
    (λ n. subst (λ (xs : List ℕ). Contains xs n ↔ IsFoundWith list c.args.property n) (sym c.into_list.ensures.list) (are n)) c.in_ok-witnesses.ensures c.in_order.ensures.same)
