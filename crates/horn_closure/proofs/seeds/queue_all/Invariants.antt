use Rattle.std.proofs.Common.{ℕ, ◌≡◌, ◌*◌, ◌≤◌, length}
use Rattle.horn_closure.specs.Run.{count}
use Rattle.horn_closure.proofs.SeedLemmas.{bits_before}
use Rattle.horn_closure.proofs.seeds.queue_all.Given as goal

abbrev pub invariant-loop-w : goal.invariant-loop-w
invariant-loop-w l = record {
  room : length l.queue ≤ 64 * l.w;
  each : (p : ℕ) → count p l.queue ≡ bits_before l.words l.w p;
}
