-- Laws of tallies.
use Rattle.std.specs.Prelude.{◌≡◌, ◌+◌, ◌≤◌, ℕ, List, [], ◌∷◌, length, codes, true}
use Rattle.reply_text.specs.declared.reply.Reply.TheVariants as reply
use Rattle.script_reader.specs.Requests.{AreRequests}
use Rattle.script_reader.specs.declared.request.Request.{Request}
use Rattle.script_tally.specs.Tallying.{tally_of}

-- a script has at most two requests more than bytes
abbrev pub RequestsAreFew : Type 0
RequestsAreFew = (script : List ℕ) (requests : List Request) → AreRequests script true requests → length requests ≤ length script + 2

-- `ok`, then `answer a`, `answer b` and `end 2`, then `answer a b` and `end 1`
abbrev pub TallyOfThree : Type 0
TallyOfThree = tally_of (reply.Done ∷ reply.Answers ((codes "a" ∷ []) ∷ (codes "b" ∷ []) ∷ []) ∷ reply.Answers ((codes "a" ∷ codes "b" ∷ []) ∷ []) ∷ [])
    ≡ record { replies = 3; answers = 3; bytes = 44 }
