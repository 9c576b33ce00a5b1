use Rattle.std.proofs.Common.{◌≡◌, ◌↔◌, ◌⊎◌, inl, inr, Contains, List, [], ap, subst, sym, ◌∙◌}
use Rattle.dl_base.specs.declared.row.Row.{Row}
use Rattle.assert_tables.specs.Gathered.{Settles}
use Rattle.assert_tables.proofs.GatheredLemmas.{all_are, both_are, settled_gathered, some_settled}
use Rattle.assert_tables.proofs.gathered.settle.Goals as goal

pub returns-in_err-add_each-clause-kept : goal.returns-in_err-add_each-clause-kept
returns-in_err-add_each-clause-kept c = λ above are.
    let none : c.replace-rows.new.dest.items ≡ [] = ap (λ v. v.items) c.replace-rows.ensures.after ∙ c.new.ensures.items in
    rw none (some_settled c.args.settled.now c.args.waiting.now.items c.add_each.new.settled above c.in_err-add_each.ensures.rising (λ r there. by r (c.in_err-add_each.ensures.only r there)) are)
  where
    by : (r : Row) → Contains c.as_slice.result.now r ⊎ Contains c.args.settled.now r → Contains c.args.waiting.now.items r ⊎ Contains c.args.settled.now r
    by r (inl there) = inl (subst (λ (rows : List Row). Contains rows r) (ap (λ v. v.items) c.replace-rows.ensures.value)
        ((c.in_order.ensures.same r).0 (subst (λ (rows : List Row). Contains rows r) c.as_slice.ensures.value there)))
    by r (inr there) = inr there

settled : (c : goal.After-drop-settled) → Settles c.args.settled.now c.args.waiting.now.items c.in_ok-settled.field-0 c.replace-rows.new.dest.items
settled c = record {
  all = all_are c.args.settled.now c.args.waiting.now.items c.in_ok-settled.field-0 (sym c.rows.ensures.count ∙ c.if-rows-eq0.true) c.rows.ensures.rising c.in_ok-settled.ensures.rising
      (subst (λ (rows : List Row). (r : Row) → Contains c.in_ok-settled.field-0 r ↔ Contains rows r) (ap (λ v. v.items) c.replace-rows.ensures.value) c.in_ok-settled.ensures.rows);
  none = ap (λ v. v.items) c.replace-rows.ensures.after ∙ c.new.ensures.items;
}

pub returns-in_ok-settled-clause-settles : goal.returns-in_ok-settled-clause-settles
returns-in_ok-settled-clause-settles c = settled c

pub returns-in_ok-settled-clause-kept : goal.returns-in_ok-settled-clause-kept
returns-in_ok-settled-clause-kept c = λ above are. settled_gathered _ _ _ _ above are (settled c)

added : (c : goal.After-drop-in_order-else-rows-eq0) → Settles c.args.settled.now c.args.waiting.now.items c.add_each.new.settled c.replace-rows.new.dest.items
added c = record {
  all = both_are c.args.settled.now c.args.waiting.now.items c.add_each.new.settled c.rows.ensures.rising c.in_ok-add_each.ensures.rising (λ r. (
    λ there. elim ((c.in_ok-add_each.ensures.added.each r).0 there) [
      | inl new ↦ inl (subst (λ (rows : List Row). Contains rows r) (ap (λ v. v.items) c.replace-rows.ensures.value)
          ((c.in_order.ensures.same r).0 (subst (λ (rows : List Row). Contains rows r) c.as_slice.ensures.value new)))
      | inr old ↦ inr old
    ],
    λ either. (c.in_ok-add_each.ensures.added.each r).1 (elim either [
      | inl new ↦ inl (subst (λ (rows : List Row). Contains rows r) (sym c.as_slice.ensures.value)
          ((c.in_order.ensures.same r).1 (subst (λ (rows : List Row). Contains rows r) (sym (ap (λ v. v.items) c.replace-rows.ensures.value)) new)))
      | inr old ↦ inr old
    ]),
  ));
  none = ap (λ v. v.items) c.replace-rows.ensures.after ∙ c.new.ensures.items;
}

pub returns-in_ok-add_each-clause-settles : goal.returns-in_ok-add_each-clause-settles
returns-in_ok-add_each-clause-settles c = added c

pub returns-in_ok-add_each-clause-kept : goal.returns-in_ok-add_each-clause-kept
returns-in_ok-add_each-clause-kept c = λ above are. settled_gathered _ _ _ _ above are (added c)
