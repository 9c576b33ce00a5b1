-- One run on the first area after another.
use Rattle.std.proofs.Common.{◌≡◌, ℕ, List, ◌∙◌, Option}
use Rattle.host_io.specs.Disk.{Disk}
use Rattle.host_io.specs.Moments.{Left, LeavesOnly}
use Rattle.host_io.proofs.Moments.{joined, weaker}
use Rattle.gated_log.specs.Stops.{AtFirst}

module _ {H : Type 0} (printed : H → Option (List ℕ)) (clock : H → ℕ) (might : H → ℕ → Left → Type 0) where
  pub joined_first : (old mid new : H) (d e : Disk) (P Q R : List ℕ → Type 0) → LeavesOnly clock might old mid (AtFirst d (printed old) P) → LeavesOnly clock might mid new (AtFirst e (printed mid) Q)
      → printed mid ≡ printed old → e.second.reads ≡ d.second.reads → ((c : List ℕ) → P c → R c) → ((c : List ℕ) → Q c → R c) → LeavesOnly clock might old new (AtFirst d (printed old) R)
  joined_first old mid new d e P Q R first second shown same from_first from_second = joined clock might old mid new _ _ _ first second
      (λ l a. record { first = from_first l.first a.first; second = a.second; output = a.output })
      (λ l a. record { first = from_second l.first a.first; second = a.second ∙ same; output = λ before is. a.output before (shown ∙ is) })

  pub weaker_first : (old new : H) (d : Disk) (P R : List ℕ → Type 0) → LeavesOnly clock might old new (AtFirst d (printed old) P) → ((c : List ℕ) → P c → R c) → LeavesOnly clock might old new (AtFirst d (printed old) R)
  weaker_first old new d P R run from = weaker clock might old new _ _ run (λ l a. record { first = from l.first a.first; second = a.second; output = a.output })
