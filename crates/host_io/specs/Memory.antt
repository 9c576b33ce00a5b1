-- What contracts see of the sources and hosts of this crate.
use Rattle.std.specs.Prelude.{◌≡◌, ◌⊎◌, ◌==◌, ℕ, Bool, true, false, List, [], ◌∷◌, ◌++◌, length, Option, Some, None, if◌then◌else◌, Result, OnOk, OnErr}
use Rattle.host_io.specs.Causes.{IsListed, raised}
use Rattle.host_io.specs.Disk.{Disk}
use Rattle.host_io.specs.Moments.{Left}
use Rattle.host_io.specs.Replay.{State, begin, replay, MightLeave}
use Rattle.host_io.specs.declared.areas.Areas.{Areas}
use Rattle.host_io.specs.declared.call.Call.{Call}

-- a source in memory: the bytes that are left, the numbers of the calls that fail, and the counts
pub record SourceState : Type 0 where
  pub left : List ℕ
  pub fails : List ℕ
  pub calls : ℕ
  pub read_faults : ℕ

-- a source over a reader of std: the reader, and how often it has failed
pub record ReaderState (R : Type 0) : Type 0 where
  pub reader : R
  pub read_faults : ℕ

-- a host over files and standard output: how many calls there were, and how often they failed
pub record HostCounts : Type 0 where
  pub calls : ℕ
  pub disk_faults : ℕ
  pub print_faults : ℕ

-- a host in memory: the areas that it was given, its calls, the numbers of the calls that fail, and the counts
pub record HostState : Type 0 where
  pub given : Areas
  pub calls : List Call
  pub fails : List ℕ
  pub disk_faults : ℕ
  pub print_faults : ℕ
  pub lacked : ℕ

-- the disk and what was printed, after all calls
abbrev pub state_of : HostState → State
state_of host = replay (begin host.given) host.calls

-- both areas, which are told
abbrev pub disk_of : HostState → Option Disk
disk_of host = Some (state_of host).disk

-- what was printed, which is told
abbrev pub printed_of : HostState → Option (List ℕ)
printed_of host = Some (state_of host).printed

-- how many calls there were
abbrev pub clock_of : HostState → ℕ
clock_of host = length host.calls

-- how many calls found no memory
abbrev pub lacked_of : HostState → ℕ
lacked_of host = host.lacked

-- what a stop since there were so many calls could have left
abbrev pub might_of : HostState → ℕ → Left → Type 0
might_of host = MightLeave (begin host.given) host.calls

-- the next call is listed to fail
abbrev pub IsNextListed : HostState → Type 0
IsNextListed host = IsListed host.fails (length host.calls)

-- the host with one call more
abbrev pub with_call : HostState → Call → HostState
with_call host call = record host { calls = host.calls ++ call ∷ [] }

-- the host with one failure of the disk more
abbrev pub disk_failed : HostState → HostState
disk_failed host = record host { disk_faults = raised host.disk_faults }

-- the host with one failure of printing more
abbrev pub print_failed : HostState → HostState
print_failed host = record host { print_faults = raised host.print_faults }

-- the host with one call more that found no memory
abbrev pub with_lack : HostState → HostState
with_lack host = record host { lacked = raised host.lacked }

-- a call that is listed was kept as one that failed
pub record FailsAsListed (failed : HostState → HostState) (call : Call) (old new : HostState) : Type 0 where
  pub listed : IsNextListed old
  pub now : new ≡ failed (with_call old call)

-- How a call went. One that isn't listed is done. A listed one fails. One that finds no memory fails too, and is no call.
pub record Went {T E : Type 0} (call : Bool → Call) (failed : HostState → HostState) (old new : HostState) (result : Result T E) : Type 0 where
  pub unlisted : OnOk result (¬ IsNextListed old)
  pub ok : OnOk result (new ≡ with_call old (call true))
  pub err : OnErr result (FailsAsListed failed (call false) old new ⊎ (new ≡ with_lack (failed old)))

-- the areas that a host was given, of which a copy is kept once they have changed
abbrev pub given_of : Option Areas → Areas → Areas
given_of None areas = areas
given_of (Some given) areas = given

-- the areas read as this state has them, and so much was printed
pub record Keeps (s : State) (areas : Areas) (printed : List ℕ) : Type 0 where
  pub first : s.disk.first.reads ≡ areas.first
  pub second : s.disk.second.reads ≡ areas.second
  pub shown : s.printed ≡ printed

-- the bytes of area 0 or 1
abbrev pub bytes_of : Areas → ℕ → List ℕ
bytes_of areas number = if number == 0 then areas.first else areas.second

-- the areas with other bytes in one
abbrev pub with_bytes : Areas → ℕ → List ℕ → Areas
with_bytes areas number bytes = if number == 0 then (record areas { first = bytes }) else (record areas { second = bytes })
