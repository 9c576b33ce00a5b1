-- What a refusal says.
use Rattle.std.specs.Prelude.{◌≡◌, ℕ}
use Rattle.gated_log.specs.State.{LogState}
use Rattle.gated_log.specs.declared.log.AppendFault.{AppendFault}
use Rattle.gated_log.specs.declared.log.AppendFault.TheVariants.{DiskFault as AppendDiskFault, Full}
use Rattle.gated_log.specs.declared.reader.LogFault.{LogFault}
use Rattle.gated_log.specs.declared.reader.LogFault.TheVariants.{DiskFault, Damaged}

abbrev pub IsFull : AppendFault → Type 0
IsFull AppendDiskFault = ⊥
IsFull (Full log end size) = Unit {0}

-- the log is handed back, with its end and the size of the entry
abbrev pub FullSays : LogState → ℕ → AppendFault → Type 0
FullSays old n AppendDiskFault = Unit {0}
FullSays old n (Full log end size) = (log ≡ old) × (end ≡ old.end) × (size ≡ n)

-- where the fault is none of the disk, the first area offends, and the place has this
abbrev pub FaultSays : (ℕ → Type 0) → LogFault → Type 0
FaultSays P DiskFault = Unit {0}
FaultSays P (Damaged area at) = (area ≡ 0) × P at
