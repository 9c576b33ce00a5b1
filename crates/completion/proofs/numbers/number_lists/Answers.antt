use Rattle.std.proofs.Common.{rules, ◌≡◌, ◌++◌, ◌∷◌, ℕ, List, length, map, sym, ◌∙◌, ap, subst}
use Rattle.std.specs.List.Sorted.{IsStrictlySortedBy}
use Rattle.std.specs.Map.{keys_of}
use Rattle.std.specs.Map.Iter.{deref_pair}
use Rattle.std.specs.Ordering.{nat_cmp}
use Rattle.std.proofs.lemmas.Map.Iter.{iter_end, rest_more, rest_so_far}
use Rattle.completion.proofs.ChoiceLemmas.{map_push}
use Rattle.completion.proofs.NumberListLemmas.{AreChosenUpTo, above_all, all_more, all_none, lists_all}
use Rattle.completion.specs.declared.individuals.AtIndividual.{AtIndividual}
use Rattle.completion.proofs.numbers.number_lists.Goals as goal

pub loop-number-init : goal.loop-number-init
loop-number-init c =
    all_none c.args.properties.now c.in_ok-lists.lists.items (c.in_ok-lists.ensures.all ∙ (ap (λ (xs : List ℕ). length xs) c.deref.ensures.value ∙ c.in_ok-counts.ensures)) c.in_ok-lists.ensures.empty

pub add_to_each-requires-clause-above : goal.add_to_each-requires-clause-above
add_to_each-requires-clause-above c =
    let entries = c.args.individuals.now.entries in
    let es = map deref_pair c.loop-number.yielded in
    let start : c.into_iter-number-iterator.result ≡ entries = search rules in
    let whole : entries ≡ es ++ (c.in-Some.number.now, c.in-Some.at.now) ∷ c.next.new.self =
    sym start ∙ (rest_so_far deref_pair c.loop-number.yielded c.into_iter-number-iterator.result c.loop-number.number-iterator c.loop-number.yielded_by
    ∙ ap (λ (rest : List (ℕ × AtIndividual)). es ++ rest) (rest_more deref_pair c.loop-number.number-iterator c.next.new.self c.next.result (c.in-Some.number, c.in-Some.at) c.in-Some.is c.next.ensures.steps)) in
    let rises = subst (λ (fs : List (ℕ × AtIndividual)). IsStrictlySortedBy nat_cmp (keys_of fs)) whole c.iter-number-items.ensures.ordered in
    above_all c.args.properties.now es c.next.new.self c.in-Some.number.now c.in-Some.at.now rises c.loop-number.lists.items c.loop-number.invariant

pub loop-number-preserved : goal.loop-number-preserved
loop-number-preserved c =
    let entries = c.args.individuals.now.entries in
    let es = map deref_pair c.loop-number.yielded in
    let start : c.into_iter-number-iterator.result ≡ entries = search rules in
    let whole : entries ≡ es ++ (c.in-Some.number.now, c.in-Some.at.now) ∷ c.next.new.self =
    sym start ∙ (rest_so_far deref_pair c.loop-number.yielded c.into_iter-number-iterator.result c.loop-number.number-iterator c.loop-number.yielded_by
    ∙ ap (λ (rest : List (ℕ × AtIndividual)). es ++ rest) (rest_more deref_pair c.loop-number.number-iterator c.next.new.self c.next.result (c.in-Some.number, c.in-Some.at) c.in-Some.is c.next.ensures.steps)) in
    let rises = subst (λ (fs : List (ℕ × AtIndividual)). IsStrictlySortedBy nat_cmp (keys_of fs)) whole c.iter-number-items.ensures.ordered in
    subst (λ (fs : List (ℕ × AtIndividual)). AreChosenUpTo c.args.properties.now fs c.add_to_each.new.lists.items) (sym (map_push deref_pair c.loop-number.yielded (c.in-Some.number, c.in-Some.at)))
    (all_more c.args.properties.now es c.next.new.self c.in-Some.number.now c.in-Some.at.now rises c.loop-number.lists.items c.loop-number.invariant c.add_to_each.new.lists.items c.in_ok-add_to_each.ensures)

pub returns : goal.returns
returns c =
    let all : map deref_pair c.loop-number.yielded ≡ c.args.individuals.now.entries = search (rules, iter_end) in
    lists_all c.args.properties.now c.args.individuals.now.entries c.loop-number.lists.items c.iter-number-items.ensures.ordered
    (subst (λ (es : List (ℕ × AtIndividual)). AreChosenUpTo c.args.properties.now es c.loop-number.lists.items) all c.loop-number.invariant)
