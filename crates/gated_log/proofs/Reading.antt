-- What the answers of a reader and of a log say of the entries before its gate.
use Rattle.std.proofs.Common.{◌≡◌, ◌+◌, ℕ, List, [], ◌∷◌, ◌++◌, length, refl, sym, ◌∙◌, subst, Option, Some, None}
use Rattle.std.specs.Option.{ForSome}
use Rattle.host_io.specs.Disk.{Disk, IsSettled}
use Rattle.gated_log.specs.Entries.{Bounds, Entry}
use Rattle.gated_log.specs.Opening.{Opens}
use Rattle.gated_log.specs.Reading.{GoesOnWith, IsAll, entry_in}
use Rattle.gated_log.specs.State.{Appended, IsBegun, IsClosedAt}
use Rattle.gated_log.proofs.Runs.{same_some}

-- an area that was opened begins with no entries
pub begun_first : (b : Bounds) (old new : Option Disk)
    → ForSome old (λ d. (e : Disk) × (new ≡ Some e) × IsSettled e × (e.second.reads ≡ d.second.reads) × Opens b d.first.reads e.first.reads)
    → (old ≡ None → new ≡ None) → ForSome new (λ e. IsSettled e × IsBegun b 17 e.first.reads)
begun_first b None new opened untold e is = let no : ⊥ = cc (untold refl, is) in absurd no
begun_first b (Some d) new opened untold e is =
    let o = opened d refl in
    subst (λ (x : Disk). IsSettled x × IsBegun b 17 x.first.reads) (same_some (sym o.1 ∙ is)) (o.2, ([], o.4.rest, o.4.begins, refl))

-- the entries and the one that was read
pub begun_on : (b : Bounds) (gate kind len : ℕ) (area buffer : List ℕ) → IsBegun b gate area → GoesOnWith b gate len area (entry_in kind len buffer) → IsBegun b (gate + 6 + len) area
begun_on b gate kind len area buffer begun on =
    let more = on begun.0 begun.1 begun.2 begun.3 in
    (begun.0 ++ entry_in kind len buffer ∷ [], more.0, more.1, more.2)

-- the entries are all, and the log is ready for the next
pub ready_at : (b : Bounds) (gate : ℕ) (area : List ℕ) → IsBegun b gate area → IsAll b gate area → IsClosedAt b gate area
ready_at b gate area begun all = (begun.0, all begun.0 begun.1 begun.2 begun.3, begun.3)
