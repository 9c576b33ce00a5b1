use Rattle.std.proofs.Common.{◌≡◌, map, All, slice_get, Some}
use Rattle.std.specs.List.{range_with_len}
use Rattle.join_plan.specs.Choice.{IsSized}
use Rattle.join_plan.specs.declared.candidates.Candidate.{Candidate}
use Rattle.join_plan.proofs.candidates.candidates.Given as goal

abbrev pub invariant-loop-place : goal.invariant-loop-place
invariant-loop-place g l = record {
  places : map (λ (c : Candidate). c.place) l.left.items ≡ range_with_len 0 l.place;
  there : All (λ (c : Candidate). slice_get l.atoms c.place ≡ Some c.atom) l.left.items;
  sized : All (IsSized (g.T.Tables.rows l.t)) l.left.items;
}
