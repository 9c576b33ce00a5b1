-- What a stop leaves while a history is loaded.
use Rattle.std.proofs.Common.{◌≡◌, Bool, true, false, ℕ, List, Option, refl, ◌∙◌}
use Rattle.std.specs.Prelude.{MatchBool}
use Rattle.std.specs.Option.{ForSome}
use Rattle.host_io.specs.Disk.{Disk, IsSettled}
use Rattle.host_io.specs.Moments.{IsShown, Leaves, Left, LeavesOnly}
use Rattle.host_io.proofs.Moments.{started}
use Rattle.gated_log.specs.Stops.{AtFirst}
use Rattle.gated_log.proofs.Joined.{joined_first}
use Rattle.gated_log.proofs.Runs.{at_start}

-- the first area is as a read gave it at first
abbrev pub IsAsRead : {H : Type 0} → (H → Option Disk) → (H → Option (List ℕ)) → (H → ℕ) → (H → ℕ → Left → Type 0) → H → H → Type 0
IsAsRead disk printed clock might old new = ForSome (disk old) (λ d. LeavesOnly clock might old new (AtFirst d (printed old) (λ c. c ≡ d.first.reads)))

module _ {H : Type 0} (disk : H → Option Disk) (printed : H → Option (List ℕ)) (clock : H → ℕ) (might : H → ℕ → Left → Type 0) where
  pub none_read : (old : H) → ForSome (disk old) (λ d. IsSettled d) → ((l : Left) → might old (clock old) l → Leaves (disk old) (IsShown (printed old)) l) → IsAsRead disk printed clock might old old
  none_read old settled only_now = λ d told.
      started clock might old (AtFirst d (printed old) (λ c. c ≡ d.first.reads)) (λ l left. at_start d (settled d told) (disk old) (printed old) (λ c. c ≡ d.first.reads) told refl l (only_now l left))

  pub more_read : (old mid new : H) → disk mid ≡ disk old → printed mid ≡ printed old → IsAsRead disk printed clock might old mid → IsAsRead disk printed clock might mid new → IsAsRead disk printed clock might old new
  more_read old mid new same shown first second = λ d told.
      joined_first printed clock might old mid new d d (λ c. c ≡ d.first.reads) (λ c. c ≡ d.first.reads) (λ c. c ≡ d.first.reads) (first d told) (second d (same ∙ told)) shown refl (λ c is. is) (λ c is. is)

pub when_true : (A B : Type 0) (b : Bool) → b ≡ true → MatchBool b A B → A
when_true A B true e m = m
when_true A B false e m = absurd cc

pub when_false : (A B : Type 0) (b : Bool) → b ≡ false → MatchBool b A B → B
when_false A B true e m = absurd cc
when_false A B false e m = m
