-- What `sample` prints.
use Rattle.std.specs.Prelude.{◌≡◌, ℕ, List, ◌++◌, codes, Option, Some, true}
use Rattle.std.specs.Option.{ForSome}
use Rattle.std.specs.Fmt.{decimal}
use Rattle.host_io.specs.Host.{ShowsFront}
use Rattle.base_store.specs.History.{Empty}
use Rattle.reply_text.specs.declared.reply.Reply.{Reply}
use Rattle.script_reader.specs.Requests.{AreRequests}
use Rattle.script_reader.specs.declared.request.Request.{Request}
use Rattle.base_engine.specs.State.{MachineState}
use Rattle.base_engine.specs.Steps.{AreReplies}
use Rattle.sample_gen.specs.SampleScript.{sample_script}
use Rattle.script_tally.specs.Tallying.{tally_of}
use Rattle.script_tally.specs.declared.counting.Tally.{Tally}
use Rattle.obda_run.specs.declared.status.Status.{Status}
use Rattle.obda_run.specs.declared.status.Status.TheVariants.{Done, Refused, Usage, ReadFault, PrintFault, DiskFault, Damaged, NoMemory, InputTooLarge}

-- the tally is that of the machine's replies to the sample script of this size, from the empty history
pub record IsSampleTally (size : ℕ) (t : Tally) : Type 0 where
  pub requests : List Request
  pub are : AreRequests (sample_script size) true requests
  pub replies : List Reply
  pub state : MachineState
  pub machine : AreReplies Empty requests replies state
  pub is : t ≡ tally_of replies

-- `sample N replies R answers A bytes B`, and the line's end
abbrev pub sample_line : ℕ → Tally → List ℕ
sample_line size t = codes "sample " ++ decimal size ++ codes " replies " ++ decimal t.replies ++ codes " answers " ++ decimal t.answers ++ codes " bytes " ++ decimal t.bytes ++ codes "\n"

-- what each ending of a sample says of what is printed, where that is told: the line whole, a front of it, or nothing
abbrev pub SampleEnds : Status → ℕ → Option (List ℕ) → Option (List ℕ) → Type 0
SampleEnds Done size old new = (t : Tally) × IsSampleTally size t × ForSome old (λ before. new ≡ Some (before ++ sample_line size t))
SampleEnds PrintFault size old new = (t : Tally) × IsSampleTally size t × ForSome old (λ before. ShowsFront before (sample_line size t) new)
SampleEnds NoMemory size old new = new ≡ old
SampleEnds (Refused code line) size old new = ⊥
SampleEnds Usage size old new = ⊥
SampleEnds ReadFault size old new = ⊥
SampleEnds DiskFault size old new = ⊥
SampleEnds (Damaged area at) size old new = ⊥
SampleEnds InputTooLarge size old new = ⊥
