use Rattle.std.proofs.Common.{ℕ, ◌≡◌, ◌+◌, ◌*◌, ◌/◌, ◌%◌, ◌≤◌, ◌==◌, length, if◌then◌else◌}
use Rattle.std.specs.Int.{bit_at}
use Rattle.horn_closure.specs.Run.{count}
use Rattle.horn_closure.proofs.SeedLemmas.{below}
use Rattle.horn_closure.proofs.seeds.queue_word.Given as goal

abbrev pub invariant-loop-rest : goal.invariant-loop-rest
invariant-loop-rest l = record {
  within : l.at ≤ 64;
  bits : (i : ℕ) → bit_at l.rest i ≡ bit_at l.word (l.at + i);
  room : length l.queue ≤ 64 * l.w + l.at;
  each : (p : ℕ) → count p l.queue ≡ count p l.fn.queue + (if p / 64 == l.w then below l.word l.at (p % 64) else 0);
}

abbrev pub decreases-loop-rest : goal.decreases-loop-rest
decreases-loop-rest l = l.rest
