use Rattle.std.proofs.Common.{◌≡◌, ℕ, ◌<◌, slice_get, slice_index, vec_len, Some}
use Rattle.answer_core.specs.declared.ranks.Ranked.{Ranked}
use Rattle.answer_core.proofs.ranks.ranks.Given as goal

abbrev pub invariant-loop-rank : goal.invariant-loop-rank
invariant-loop-rank l = record {
  len : vec_len l.ranks ≡ l.count;
  ranked : (k : ℕ) (e : Ranked) → k < l.rank → slice_get l.order k ≡ Some e → (f : Ranked) × (slice_get l.order (slice_index l.ranks.items e.number) ≡ Some f) × (f.number ≡ e.number);
}
