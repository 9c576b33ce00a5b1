-- What a reader answers, and how it moves.
use Rattle.std.specs.Prelude.{◌≡◌, ◌≤◌, ◌+◌, ℕ, List, [], ◌∷◌, ◌++◌, take, true, Option, Some, None, Result, Ok, Err}
use Rattle.area_layout.specs.declared.entry_head.EntryHead.{EntryHead}
use Rattle.gated_log.specs.Entries.{Bounds, Entry, BeginsWithEntries, Stands, gate_place, within}
use Rattle.gated_log.specs.State.{LogReaderState}
use Rattle.gated_log.specs.declared.reader.LogFault.{LogFault}
use Rattle.gated_log.specs.declared.reader.Next.{Next}
use Rattle.gated_log.specs.declared.reader.Next.TheVariants.{Entry as AnEntry, Finished}

-- Whatever the entries before its gate are called, the area goes on with this one, of so many bytes of payload.
abbrev pub GoesOnWith : Bounds → ℕ → ℕ → List ℕ → Entry → Type 0
GoesOnWith b gate len area entry = (entries : List Entry) (rest : List ℕ) → BeginsWithEntries b area entries rest → gate_place entries ≡ gate
    → (more : List ℕ) × BeginsWithEntries b area (entries ++ entry ∷ []) more × (gate_place (entries ++ entry ∷ []) ≡ gate + 6 + len)

-- the entries before this gate are all
abbrev pub IsAll : Bounds → ℕ → List ℕ → Type 0
IsAll b gate area = (entries : List Entry) (rest : List ℕ) → BeginsWithEntries b area entries rest → gate_place entries ≡ gate → Stands b area entries

-- the entry whose payload is in the front of the buffer
abbrev pub entry_in : ℕ → ℕ → List ℕ → Entry
entry_in kind len buffer = record { kind = kind; payload = take len buffer }

-- at a gate an entry was read into the buffer, or the gate is closed
abbrev pub HasRead : Bounds → ℕ → List ℕ → List ℕ → Option EntryHead → Type 0
HasRead b gate area buffer (Some h) = GoesOnWith b gate h.len area (entry_in h.kind h.len buffer)
HasRead b gate area buffer None = IsAll b gate area

-- what is answered of the area from the reader's gate on
abbrev pub AnswersNext : LogReaderState → List ℕ → List ℕ → Next → Type 0
AnswersNext r area buffer (AnEntry kind len) = GoesOnWith (within r.limit) r.gate len area (entry_in kind len buffer)
AnswersNext r area buffer Finished = IsAll (within r.limit) r.gate area

-- an entry is within the bounds and moves the gate behind it; the end is kept in mind; a fault changes nothing
abbrev pub Moves : LogReaderState → Result Next LogFault → LogReaderState → Type 0
Moves old (Ok (AnEntry kind len)) new = (1 ≤ kind) × (kind ≤ 2) × (len ≤ 8388608) × (old.gate + 6 + len ≤ old.limit) × (new ≡ record old { gate = old.gate + 6 + len; last = old.gate })
Moves old (Ok Finished) new = new ≡ record old { finished = true }
Moves old (Err f) new = new ≡ old
