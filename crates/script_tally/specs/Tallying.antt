-- The replies to a script, counted.
use Rattle.std.specs.Prelude.{◌≡◌, ◌+◌, ◌*◌, ◌^◌, ◌≤◌, ℕ, List, length, Option, Some, true}
use Rattle.std.specs.List.{sum_by}
use Rattle.host_io.specs.Disk.{Disk}
use Rattle.base_store.specs.History.{History}
use Rattle.reply_text.specs.ReplyText.{text_of_reply}
use Rattle.reply_text.specs.declared.reply.Reply.{Reply}
use Rattle.reply_text.specs.declared.reply.Reply.TheVariants as reply
use Rattle.script_reader.specs.Requests.{AreRequests}
use Rattle.script_reader.specs.declared.request.Request.{Request}
use Rattle.base_engine.specs.Calls.{DiskKeeps}
use Rattle.base_engine.specs.State.{MachineState}
use Rattle.base_engine.specs.Steps.{AreReplies}
use Rattle.run_loop.specs.Serving.{texts}
use Rattle.script_tally.specs.declared.counting.Tally.{Tally}

-- how many answers a reply has: as many as keys, where it has any
abbrev pub answers_in : Reply → ℕ
answers_in reply.Done = 0
answers_in (reply.Committed number added removed) = 0
answers_in (reply.Loaded inclusions) = 0
answers_in (reply.Reopened transactions) = 0
answers_in (reply.Prepared h) = 0
answers_in (reply.Answers keys) = length keys
answers_in reply.Consistent = 0
answers_in (reply.Inconsistent c) = 0
answers_in (reply.Table lines) = 0
answers_in (reply.Error e) = 0

-- how many replies there are, how many answers they have together, and how many bytes their texts have
abbrev pub tally_of : List Reply → Tally
tally_of replies = record { replies = length replies; answers = sum_by answers_in replies; bytes = length (texts replies) }

-- The tally is that of the machine's replies to all requests of the script, from this history, and the disk keeps the history
-- behind them.
pub record Tallies (h : History) (script : List ℕ) (disk : Option Disk) (t : Tally) : Type 0 where
  pub requests : List Request
  pub are : AreRequests script true requests
  pub replies : List Reply
  pub state : MachineState
  pub machine : AreReplies h requests replies state
  pub is : t ≡ tally_of replies
  pub kept : DiskKeeps disk state.history

-- ---- inside a tally

-- one reply more
pub record CountsReply (old : Tally) (r : Reply) (new : Tally) : Type 0 where
  pub replies : new.replies ≡ old.replies + 1
  pub answers : new.answers ≡ old.answers + answers_in r
  pub bytes : new.bytes ≡ old.bytes + length (text_of_reply r)

-- a reply has less than 2^64 answers and bytes, as no list and no text is longer
pub record CountsFit (t : Tally) : Type 0 where
  pub answers : t.answers ≤ t.replies * 2 ^ 64
  pub bytes : t.bytes ≤ t.replies * 2 ^ 64

-- These requests were replied to from the history, the engine stands for the state behind them, whose history the disk keeps, and
-- the tally is that of the replies.
pub record Counted (stands : MachineState → Type 0) (h : History) (requests : List Request) (disk : Option Disk) (t : Tally) : Type 0 where
  pub replies : List Reply
  pub state : MachineState
  pub machine : AreReplies h requests replies state
  pub is : t ≡ tally_of replies
  pub stands_for : stands state
  pub d : Disk
  pub told : disk ≡ Some d
  pub kept : DiskKeeps disk state.history
