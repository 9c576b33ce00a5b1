-- What a run of calls on a host leaves at its moments, call by call.
use Rattle.std.proofs.Common.{inl, inr, ⊎_elim, ℕ, arith}
use Rattle.host_io.specs.Moments.{Left, Elapses, LeavesOnly}

module _ {H : Type 0} (clock : H → ℕ) (might : H → ℕ → Left → Type 0) where
  -- before the first call
  pub started : (old : H) (P : Left → Type 0) → ((left : Left) → might old (clock old) left → P left) → LeavesOnly clock might old old P
  started old P here = record { later = omega arith; each = here; before = λ moment left le had. inl had }

  -- one call more, between whose start and end a stop leaves what has P
  pub goes_on : (old mid new : H) (P between : Left → Type 0) → LeavesOnly clock might old mid P → Elapses (clock mid) (clock new) (might mid) (might new) between
      → ((left : Left) → between left → P left) → LeavesOnly clock might old new P
  goes_on old mid new P between so_far time here = record {
    later = omega (arith, so_far.later, time.later);
    each = λ left now. ⊎_elim (so_far.each left) (here left) (time.nothing_else (clock old) left so_far.later now);
    before = λ moment left le now. ⊎_elim (so_far.before moment left le) (λ is. inr (here left is)) (time.nothing_else moment left (omega (arith, le, so_far.later)) now);
  }

  -- one run after another
  pub joined : (old mid new : H) (P Q R : Left → Type 0) → LeavesOnly clock might old mid P → LeavesOnly clock might mid new Q
      → ((left : Left) → P left → R left) → ((left : Left) → Q left → R left) → LeavesOnly clock might old new R
  joined old mid new P Q R first second from_first from_second = record {
    later = omega (arith, first.later, second.later);
    each = λ left now. ⊎_elim (λ had. from_first left (first.each left had)) (from_second left) (second.before (clock old) left first.later now);
    before = λ moment left le now. ⊎_elim (λ had. ⊎_elim inl (λ is. inr (from_first left is)) (first.before moment left le had)) (λ is. inr (from_second left is)) (second.before moment left (omega (arith, le, first.later)) now);
  }

  -- what each moment leaves has R as well
  pub weaker : (old new : H) (P R : Left → Type 0) → LeavesOnly clock might old new P → ((left : Left) → P left → R left) → LeavesOnly clock might old new R
  weaker old new P R run from = record {
    later = run.later;
    each = λ left now. from left (run.each left now);
    before = λ moment left le now. ⊎_elim inl (λ is. inr (from left is)) (run.before moment left le now);
  }
