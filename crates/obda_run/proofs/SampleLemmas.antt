-- The sample over a host that was just made, and what its words name.
use Rattle.std.proofs.Common.{◌≡◌, inl, ℕ, List, [], Option, true, refl, sym, subst, arith}
use Rattle.host_io.specs.Disk.{Disk}
use Rattle.host_io.specs.Memory.{HostState, state_of}
use Rattle.base_store.specs.Area.{KeepsHistory}
use Rattle.base_store.specs.History.{Empty}
use Rattle.script_reader.specs.Requests.{AreRequests}
use Rattle.sample_gen.specs.SampleScript.{sample_script}
use Rattle.script_tally.specs.Tallying.{Tallies}
use Rattle.script_tally.specs.declared.counting.Tally.{Tally}
use Rattle.obda_run.specs.Sample.{IsSampleTally, SampleEnds}
use Rattle.obda_run.specs.declared.status.Status.{Status}
use Rattle.obda_run.specs.declared.status.Status.TheVariants as status

-- areas without bytes keep the empty history
pub keeps_nothing : (host : HostState) → host ≡ record { given = record { first = []; second = [] }; calls = []; fails = []; disk_faults = 0; print_faults = 0; lacked = 0 }
    → KeepsHistory (state_of host).disk.first.reads Empty
keeps_nothing host is = subst (λ (h : HostState). KeepsHistory (state_of h).disk.first.reads Empty) (sym is) (inl (inl (omega arith), refl))

pub sample_tally : (size : ℕ) (script : List ℕ) (disk : Option Disk) (t : Tally) → script ≡ sample_script size → Tallies Empty script disk t → IsSampleTally size t
sample_tally size script disk t is x = record {
  requests = x.requests;
  are = subst (λ (bytes : List ℕ). AreRequests bytes true x.requests) is x.are;
  replies = x.replies;
  state = x.state;
  machine = x.machine;
  is = x.is;
}

pub never_usage : (s : Status) (size : ℕ) (old new : Option (List ℕ)) → SampleEnds s size old new → s ≡ status.Usage → ⊥
never_usage s size old new ends is = subst (λ (x : Status). SampleEnds x size old new) is ends
