use Rattle.std.proofs.Common.{◌≡◌, ◌↔◌, ℕ, List, All, Contains, length, map, ap, subst, ◌∙◌, arith}
use Rattle.std.proofs.lemmas.Option.{slice_get_within}
use Rattle.answer_core.specs.Ranks.{HasRank, ranks_of, items_of}
use Rattle.answer_core.proofs.KeyOrderLemmas.{all_ranked, numbers_few, numbers_within, rows_within, spelled_result}
use Rattle.answer_core.proofs.number_keys.NumberKeys.spelled.Goals as goal

pub by_name-requires : goal.by_name-requires
by_name-requires c =
    let keys_are : items_of c.in_ok-keys.keys.items ≡ c.args.self = c.in_ok-keys.ensures ∙ c.self.view_is in
    rw c.as_slice-2.ensures.value (numbers_within (length c.args.individuals.now) c.in_ok-numbers.numbers.items c.args.self (rw (c.as_slice.ensures.value, keys_are) at c.in_ok-numbers.ensures.each) c.requires)

pub ranks-requires-clause-within : goal.ranks-requires-clause-within
ranks-requires-clause-within c = rw (c.as_slice-3.ensures.value, c.len.ensures.len)
    (λ k d below. slice_get_within c.args.individuals.now _ _ (c.in_ok-order.ensures.in_order.named k d below))

pub ranks-requires-clause-few : goal.ranks-requires-clause-few
ranks-requires-clause-few c =
    let keys_are : items_of c.in_ok-keys.keys.items ≡ c.args.self = c.in_ok-keys.ensures ∙ c.self.view_is in
    let within = numbers_within (length c.args.individuals.now) c.in_ok-numbers.numbers.items c.args.self (rw (c.as_slice.ensures.value, keys_are) at c.in_ok-numbers.ensures.each) c.requires in
    let most = numbers_few (length c.args.individuals.now) c.in_ok-numbers.numbers.items c.in_ok-numbers.ensures.rising within in
    let same : length c.as_slice-3.result.now ≡ length c.in_ok-numbers.numbers.items = ap length c.as_slice-3.ensures.value ∙ c.in_ok-order.ensures.count ∙ ap length c.as_slice-2.ensures.value in
    omega (arith, most, same, c.len.ensures.len, c.len.ensures.few)

pub spelled_rows-requires : goal.spelled_rows-requires
spelled_rows-requires c =
    let keys_are : items_of c.in_ok-keys.keys.items ≡ c.args.self = c.in_ok-keys.ensures ∙ c.self.view_is in
    let all : All (All (HasRank c.in_ok-order.order.items c.in_ok-ranks.ranks.items)) c.args.self =
    all_ranked c.in_ok-numbers.numbers.items c.in_ok-order.order.items c.in_ok-ranks.ranks.items c.args.self
    (rw (c.as_slice.ensures.value, keys_are) at c.in_ok-numbers.ensures.each)
    (rw c.as_slice-2.ensures.value at c.in_ok-order.ensures.each) (rw c.as_slice-3.ensures.value at c.in_ok-ranks.ensures.ranked) in
    let is : items_of c.in_ok-rows.rows.items ≡ map (ranks_of c.in_ok-ranks.ranks.items) c.args.self = rw (c.as_slice-4.ensures.value, keys_are) at c.in_ok-rows.ensures in
    let same : (row : List ℕ) → Contains (items_of c.put_in_order.new.rows.items) row ↔ Contains (map (ranks_of c.in_ok-ranks.ranks.items) c.args.self) row =
    λ row. subst (λ (rows : List (List ℕ)). Contains (items_of c.put_in_order.new.rows.items) row ↔ Contains rows row) is (c.put_in_order.ensures.same row) in
    rw (c.as_slice-6.ensures.value, c.as_slice-5.ensures.value)
    (rows_within c.args.individuals.now c.in_ok-order.order.items c.in_ok-ranks.ranks.items c.len.ensures.distinct c.in_ok-order.ensures.in_order c.args.self all (items_of c.put_in_order.new.rows.items) same)

pub returns : goal.returns
returns c =
    let keys_are : items_of c.in_ok-keys.keys.items ≡ c.args.self = c.in_ok-keys.ensures ∙ c.self.view_is in
    let all : All (All (HasRank c.in_ok-order.order.items c.in_ok-ranks.ranks.items)) c.args.self =
    all_ranked c.in_ok-numbers.numbers.items c.in_ok-order.order.items c.in_ok-ranks.ranks.items c.args.self
    (rw (c.as_slice.ensures.value, keys_are) at c.in_ok-numbers.ensures.each)
    (rw c.as_slice-2.ensures.value at c.in_ok-order.ensures.each) (rw c.as_slice-3.ensures.value at c.in_ok-ranks.ensures.ranked) in
    let is : items_of c.in_ok-rows.rows.items ≡ map (ranks_of c.in_ok-ranks.ranks.items) c.args.self = rw (c.as_slice-4.ensures.value, keys_are) at c.in_ok-rows.ensures in
    let same : (row : List ℕ) → Contains (items_of c.put_in_order.new.rows.items) row ↔ Contains (map (ranks_of c.in_ok-ranks.ranks.items) c.args.self) row =
    λ row. subst (λ (rows : List (List ℕ)). Contains (items_of c.put_in_order.new.rows.items) row ↔ Contains rows row) is (c.put_in_order.ensures.same row) in
    spelled_result c.args.individuals.now c.in_ok-order.order.items c.in_ok-ranks.ranks.items c.len.ensures.distinct c.in_ok-order.ensures.in_order c.args.self all (items_of c.put_in_order.new.rows.items) same
    c.spelled_rows.result c.put_in_order.ensures.rising (rw (c.as_slice-6.ensures.value, c.as_slice-5.ensures.value) at c.spelled_rows.ensures)
