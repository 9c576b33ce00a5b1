use Rattle.std.proofs.Common.{◌≢◌, ◌≤◌, ◌*◌, ◌++◌, AllPairs, length, take}
use Rattle.base_store.specs.Loading.{FollowsChanges}
use Rattle.row_changes.specs.Difference.{IsDifference}
use Rattle.row_changes.proofs.changes.make_changes.Given as goal

abbrev pub invariant-loop-change : goal.invariant-loop-change
invariant-loop-change l = record {
  follows : FollowsChanges l.ontology (take l.change-index l.changes) l.individuals l.fn.rows (l.individuals ++ l.made.newcomers) l.rows;
  differ : IsDifference l.fn.rows l.rows l.made.difference;
  few : length l.made.newcomers ≤ 2 * l.change-index;
  distinct : AllPairs (λ x y. x ≢ y) (l.individuals ++ l.made.newcomers);
}
