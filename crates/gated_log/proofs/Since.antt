-- Calls before and behind the moment from which on a stop leaves something else.
use Rattle.std.proofs.Common.{◌⊎◌, inl, inr, ⊎_elim, ℕ, arith}
use Rattle.std.specs.Prelude.{Result, Ok, Err, OnOk, OnErr, IsErrAnd}
use Rattle.host_io.specs.Moments.{Left, LeavesOnly}
use Rattle.host_io.proofs.Moments.{joined, weaker}
use Rattle.gated_log.specs.Stops.{LeavesAtLast, LeavesThen}
use Rattle.gated_log.proofs.Running.{on_ok}

-- what holds anyway holds where a result is Err
pub on_err : {T E : Type 0} (result : Result T E) (A : Type 0) → A → OnErr result A
on_err (Ok v) A a = tt
on_err (Err e) A a = a

never_ok : {T E : Type 0} (result : Result T E) (A : Type 0) → IsErrAnd result (λ e. Unit {0}) → OnOk result A
never_ok (Ok v) A is = absurd is
never_ok (Err e) A is = tt

-- an answer that is some fault is a fault
pub is_fault : {T E : Type 0} (result : Result T E) (R : E → Type 0) → IsErrAnd result R → IsErrAnd result (λ e. Unit {0})
is_fault (Ok v) R is = is
is_fault (Err e) R is = tt

module _ {H : Type 0} (clock : H → ℕ) (might : H → ℕ → Left → Type 0) (P Q : Left → Type 0) where
  -- the call came to the moment, whatever it answers
  pub came : {T E : Type 0} (result : Result T E) (old new : H) → LeavesOnly clock might old new (λ left. P left ⊎ Q left) → LeavesAtLast clock might Q old new → LeavesThen clock might P Q result old new
  came result old new moments since = record { moments = moments; synced = on_ok result _ (λ v is. since); or_not = on_err result _ (inl since) }

  -- the call failed before the moment
  pub fell_short : {T E : Type 0} (result : Result T E) (old new : H) → IsErrAnd result (λ e. Unit {0}) → LeavesOnly clock might old new P → LeavesThen clock might P Q result old new
  fell_short result old new failed moments = record {
    moments = weaker clock might old new _ _ moments (λ left is. inl is);
    synced = never_ok result _ failed;
    or_not = on_err result _ (inr moments);
  }

  -- what is called behind the moment leaves what has Q
  pub since_on : (old mid new : H) → LeavesAtLast clock might Q old mid → LeavesOnly clock might mid new Q → LeavesAtLast clock might Q old new
  since_on old mid new first second = record {
    since = first.since;
    later = first.later;
    past = omega (arith, first.past, second.later);
    each = λ left now. ⊎_elim (first.each left) (λ is. is) (second.before first.since left first.past now);
  }

  pub came_on : {T E : Type 0} (result : Result T E) (old mid new : H) → LeavesOnly clock might old mid (λ left. P left ⊎ Q left) → LeavesAtLast clock might Q old mid → LeavesOnly clock might mid new Q
      → LeavesThen clock might P Q result old new
  came_on result old mid new moments since run = came result old new (joined clock might old mid new _ _ _ moments run (λ left is. is) (λ left is. inr is)) (since_on old mid new since run)

  -- a failure that is handed on
  pub failed_so : {T E U F : Type 0} (first : Result T E) (result : Result U F) (old new : H) → IsErrAnd first (λ e. Unit {0}) → IsErrAnd result (λ e. Unit {0}) → LeavesThen clock might P Q first old new → LeavesThen clock might P Q result old new
  failed_so (Ok v) result old new was is then = absurd was
  failed_so (Err e) result old new was is then = record { moments = then.moments; synced = never_ok result _ is; or_not = on_err result _ then.or_not }

-- what has Q has R as well
pub weaker_then : {H T E : Type 0} (clock : H → ℕ) (might : H → ℕ → Left → Type 0) (P Q R : Left → Type 0) (result : Result T E) (old new : H) → LeavesThen clock might P Q result old new → ((left : Left) → Q left → R left)
    → LeavesThen clock might P R result old new
weaker_then clock might P Q R result old new then from = record {
  moments = weaker clock might old new _ _ then.moments (λ left is. ⊎_elim inl (λ q. inr (from left q)) is);
  synced = by_ok result then.synced;
  or_not = by_err result then.or_not;
}
  where
    after : LeavesAtLast clock might Q old new → LeavesAtLast clock might R old new
    after s = record { since = s.since; later = s.later; past = s.past; each = λ left now. from left (s.each left now) }

    by_ok : {T E : Type 0} (r : Result T E) → OnOk r (LeavesAtLast clock might Q old new) → OnOk r (LeavesAtLast clock might R old new)
    by_ok (Ok v) s = after s
    by_ok (Err e) s = tt

    by_err : {T E : Type 0} (r : Result T E) → OnErr r (LeavesAtLast clock might Q old new ⊎ LeavesOnly clock might old new P) → OnErr r (LeavesAtLast clock might R old new ⊎ LeavesOnly clock might old new P)
    by_err (Ok v) s = tt
    by_err (Err e) s = ⊎_elim (λ q. inl (after q)) inr s
