use Rattle.std.proofs.Common.{◌<◌, ◌∷◌, ℕ, List, Vec, Global, All, length, map, subst, ap, ◌∙◌}
use Rattle.std.specs.Vec.Iter.{into_iter_items}
use Rattle.std.proofs.lemmas.List.Elements.{All-head, All-tail}
use Rattle.answer_core.specs.Ranks.{ranks_of, items_of}
use Rattle.answer_core.proofs.ListLemmas.{row_moved, written}
use Rattle.answer_core.proofs.rows.ranked.Goals as goal

pub put_ranks-requires : goal.put_ranks-requires
put_ranks-requires c =
    let all : All (All (λ n. n < length c.args.ranks.now)) (items_of (c.in-Some.key ∷ into_iter_items c.next.new.self)) =
    subst (λ (keys : List (Vec ℕ Global)). All (All (λ n. n < length c.args.ranks.now)) (items_of keys)) c.in-Some.ensures.steps.0 c.loop-key.invariant.left in
    rw c.as_mut_slice.ensures.value (All-head (All (λ n. n < length c.args.ranks.now)) c.in-Some.key.items (items_of (into_iter_items c.next.new.self)) all)

pub loop-key-preserved : goal.loop-key-preserved
loop-key-preserved c =
    let all : All (All (λ n. n < length c.args.ranks.now)) (items_of (c.in-Some.key ∷ into_iter_items c.next.new.self)) =
    subst (λ (keys : List (Vec ℕ Global)). All (All (λ n. n < length c.args.ranks.now)) (items_of keys)) c.in-Some.ensures.steps.0 c.loop-key.invariant.left in
    record {
      rows = row_moved (ranks_of c.args.ranks.now) c.loop-key.rows.items c.push.new.self.items (into_iter_items c.loop-key.key-iterator) (into_iter_items c.next.new.self) c.in-Some.key _
          (map (ranks_of c.args.ranks.now) (items_of c.args.keys.items)) c.loop-key.invariant.rows c.in-Some.ensures.steps.0 c.in_ok-push.ensures.items
          (written c.in-Some.key.len c.put_ranks.new.numbers c.in-Some.key.items (c.put_ranks.auto.numbers ∙ c.as_mut_slice.ensures.len) ∙ c.put_ranks.ensures ∙ ap (ranks_of c.args.ranks.now) c.as_mut_slice.ensures.value);
      left = All-tail (All (λ n. n < length c.args.ranks.now)) c.in-Some.key.items (items_of (into_iter_items c.next.new.self)) all;
    }
