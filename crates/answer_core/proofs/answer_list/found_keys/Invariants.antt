use Rattle.std.proofs.Common.{◌≡◌, ◌<◌, All, length, slice_index, vec_len}
use Rattle.answer_core.proofs.LoopLemmas.{FoundSoFar}
use Rattle.answer_core.proofs.RankLemmas.{rank, tuples, elements}
use Rattle.answer_core.proofs.answer_list.found_keys.Given as goal

abbrev pub invariant-matches : goal.invariant-matches
invariant-matches g l = record {
  places : l.places ≡ l.b.answers;
  room : vec_len l.key ≡ length l.b.answers;
  count : length l.matches.levels ≡ length l.b.shape.terms;
  first : All (λ p. slice_index l.matches.levels p < l.levels) l.b.answers;
  so_far : FoundSoFar (g.T.Tables.rows l.t) l.b l.fixed l.count l.matches l.found;
}

abbrev pub decreases-matches : goal.decreases-matches
decreases-matches g l = rank (tuples (elements (g.T.Tables.rows l.t)) l.b.shape.terms) l.matches.search.place
