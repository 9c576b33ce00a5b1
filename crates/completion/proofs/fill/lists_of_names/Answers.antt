use Rattle.std.proofs.Common.{ℕ, ◌+◌, ◌*◌, arith, sym, subst}
use Rattle.completion.proofs.FillLemmas.{names_more}
use Rattle.completion.specs.Gathered.{AreListsOfNames, AreRoleLists}
use Rattle.dl_base.specs.declared.concept.Role.{Role}
use Rattle.completion.specs.Numbers.{AreNumberLists, AreOfRole}
use Rattle.completion.proofs.fill.lists_of_names.Goals as goal

pub lists_of-requires-in-loop-name-clause-place : goal.lists_of-requires-in-loop-name-clause-place
lists_of-requires-in-loop-name-clause-place c =
    let entries = c.args.individuals.now.entries in
    let properties = c.in_ok-properties.properties.items in
    let all = (c.in_ok-lists_of.ensures.left entries properties c.loop-name.invariant.1).all in
    let four = c.in_ok-properties.ensures.all in
    let inside = c.loop-name-test.true in
    omega (arith, all, four, inside)

pub loop-name-preserved : goal.loop-name-preserved
loop-name-preserved c =
    let o = c.args.rules.now in
    let list = c.args.individuals.now.entries in
    let b = c.args.book.now in
    let name = c.loop-name.name in
    let properties = c.in_ok-properties.properties.items in
    let inside = c.loop-name-test.true in
    let first = c.loop-name.invariant.1 in
    let second = c.in_ok-lists_of.ensures.left list properties first in
    let third = c.in_ok-lists_of-2.ensures.left list properties second in (
      subst (AreListsOfNames o list b (name + 1)) (sym c.in_ok-push.ensures.items)
          (names_more o list b name c.loop-name.lists.items (record { direct = c.in_ok-lists_of.field-0; inverse = c.in_ok-lists_of-2.field-0 })
          (c.in_ok-lists_of.ensures.lists list properties first (c.in_ok-properties.ensures.direct name inside))
          (subst (λ (r : Role). AreRoleLists o list b r c.in_ok-lists_of-2.field-0) c.inverted.ensures
          (c.in_ok-lists_of-2.ensures.lists list properties second (subst (AreOfRole properties (4 * name + 2)) (sym c.inverted.ensures) (c.in_ok-properties.ensures.inverse name inside)))) c.loop-name.invariant.0),
      subst (λ (from : ℕ). AreNumberLists list properties from c.lists_of-in-loop-name.new.numbers.items) (omega arith) third,
    )
