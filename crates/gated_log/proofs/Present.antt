-- What a read gives now, out of what a stop leaves.
use Rattle.std.proofs.Common.{◌≡◌, ◌≤◌, ℕ, List, [], sym, ◌∙◌, subst, Option, Some, None}
use Rattle.host_io.specs.Disk.{Disk, IsImage}
use Rattle.host_io.specs.Moments.{Left, Leaves, LeavesOnly, IsShown}
use Rattle.gated_log.proofs.Runs.{same_some}

-- all that was printed, where it is told
abbrev pub shown_of : Option (List ℕ) → List ℕ
shown_of None = []
shown_of (Some bytes) = bytes

is_shown : (printed : Option (List ℕ)) → IsShown printed (shown_of printed)
is_shown None before is = let no : ⊥ = cc in absurd no
is_shown (Some bytes) before is = same_some is

module _ {H : Type 0} (disk : H → Option Disk) (printed : H → Option (List ℕ)) (clock : H → ℕ) (might : H → ℕ → Left → Type 0) where
  -- what each moment leaves has P, so what a read gives now has it
  pub present : (old new : H) (P : Left → Type 0) (e : Disk) → LeavesOnly clock might old new P → disk new ≡ Some e
      → ((host : H) (moment : ℕ) (left : Left) → moment ≤ clock host → Leaves (disk host) (IsShown (printed host)) left → might host moment left)
      → ((host : H) (d : Disk) → disk host ≡ Some d → IsImage d.first d.first.reads × IsImage d.second d.second.reads)
      → P (record { first = e.first.reads; second = e.second.reads; printed = shown_of (printed new) })
  present old new P e run told counts_now reads_now =
      let left : Left = record { first = e.first.reads; second = e.second.reads; printed = shown_of (printed new) } in
      run.each left (counts_now new (clock old) left run.later (record {
        areas = λ d is. subst (λ (x : Disk). IsImage x.first e.first.reads × IsImage x.second e.second.reads) (same_some (sym told ∙ is)) (reads_now new e told);
        output = is_shown (printed new);
      }))
