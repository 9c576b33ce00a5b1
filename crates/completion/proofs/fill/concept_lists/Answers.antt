use Rattle.std.proofs.Common.{◌≡◌, ◌+◌, Some, slice_get, sym, subst}
use Rattle.completion.proofs.FillLemmas.{concepts_more}
use Rattle.completion.specs.Gathered.{AreConceptLists}
use Rattle.dl_base.specs.declared.concept.Basic.TheVariants as basic
use Rattle.completion.specs.declared.gather.Property.TheVariants.{Derived}
use Rattle.completion.proofs.NumberListLemmas.{list_taken, lists_left}
use Rattle.completion.proofs.fill.concept_lists.Goals as goal

pub loop-concept-preserved : goal.loop-concept-preserved
loop-concept-preserved c =
    let o = c.args.rules.now in
    let list = c.args.individuals.now.entries in
    let b = c.args.book.now in
    let concept = c.loop-concept.concept in
    let properties = c.in_ok-properties.properties.items in
    let old = c.loop-concept.numbers.items in
    let new = c.take_list-with_it.new.lists.items in
    let here : slice_get properties concept ≡ Some (Derived (basic.Concept concept)) = c.in_ok-properties.ensures.each concept c.loop-concept-test.true in (
      subst (AreConceptLists o list b (concept + 1)) (sym c.in_ok-push.ensures.items)
          (concepts_more o list b concept c.loop-concept.lists.items c.in_ok-elements_with.field-0
          (c.in_ok-elements_with.ensures list (list_taken list properties concept (Derived (basic.Concept concept)) old new c.take_list-with_it.result c.take_list-with_it.ensures c.loop-concept.invariant.1 here)) c.loop-concept.invariant.0),
      lists_left list properties concept old new c.take_list-with_it.result c.take_list-with_it.ensures c.loop-concept.invariant.1,
    )
