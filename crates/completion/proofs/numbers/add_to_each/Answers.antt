use Rattle.std.proofs.Common.{ℕ, List, [], arith, ◌∙◌, subst, Contains}
use Rattle.completion.proofs.NumberListLemmas.{added_all, added_more, any_default}
use Rattle.completion.proofs.numbers.add_to_each.Goals as goal

pub add_where-requires : goal.add_where-requires
add_where-requires c = λ m there.
    let inside = c.loop-place-test.true in
    let many = c.loop-place.invariant.all in
    let all = c.requires.all in
    c.requires.above c.loop-place.place m (subst (λ (xs : List ℕ). Contains xs m)
    (c.index_mut-list.ensures.value ∙ (any_default c.loop-place.lists.items c.loop-place.place _ [] (omega (arith, inside, many, all)) ∙ c.loop-place.invariant.left c.loop-place.place (omega arith))) there)

pub loop-place-preserved : goal.loop-place-preserved
loop-place-preserved c =
    let inside = c.loop-place-test.true in
    let all = c.requires.all in
    added_more c.args.number c.args.at.now c.args.properties.now c.args.lists.now.items c.loop-place.lists.items c.loop-place.place _ _ c.index_mut-list.result.now c.add_where.new.list
    inside (omega (arith, inside, all)) c.index_mut-list.ensures.value c.in_ok-add_where.ensures c.loop-place.invariant

pub returns : goal.returns
returns c = added_all c.args.number c.args.at.now c.args.properties.now c.args.lists.now.items c.loop-place.lists.items c.loop-place.place (let off = c.loop-place-test.false in omega arith) c.loop-place.invariant
