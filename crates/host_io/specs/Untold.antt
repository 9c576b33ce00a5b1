-- A host that tells nothing.
use Rattle.std.proofs.Common.{◌≡◌, Some, None}
use Rattle.host_io.specs.Disk.{Disk, IsImage}
use Rattle.host_io.specs.Moments.{Left, Leaves, IsShown}

none_told : {A : Type 0} {x : A} → None ≡ Some x → ⊥
none_told is = cc

-- where nothing is told, a stop may leave anything
pub leaves_anything : (left : Left) → Leaves None (IsShown None) left
leaves_anything left = record { areas = λ d is. absurd (none_told is); output = λ before is. absurd (none_told is) }

-- where nothing is told, no area reads as anything
pub nothing_read : (d : Disk) → None ≡ Some d → IsImage d.first d.first.reads × IsImage d.second d.second.reads
nothing_read d is = absurd (none_told is)
