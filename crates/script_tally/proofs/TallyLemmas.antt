-- Replies that are counted one after another.
use Rattle.std.proofs.Common.{◌≡◌, ◌⊎◌, inl, inr, ◌+◌, ℕ, List, [], ◌∷◌, ◌++◌, length, Option, Some, refl, sym, ◌∙◌, ap, subst, arith, length-append}
use Rattle.std.specs.List.{sum_by}
use Rattle.std.proofs.lemmas.List.Sums.{sum_by_push}
use Rattle.host_io.specs.Disk.{Disk}
use Rattle.base_store.specs.History.{History}
use Rattle.reply_text.specs.ReplyText.{text_of_reply}
use Rattle.reply_text.specs.declared.reply.Reply.{Reply}
use Rattle.script_reader.specs.declared.request.Request.{Request}
use Rattle.base_engine.specs.Calls.{DiskKeeps, SecondStays, StaysTold}
use Rattle.base_engine.specs.State.{IsInitial, MachineState}
use Rattle.base_engine.specs.Steps.{StepsTo}
use Rattle.run_loop.specs.Serving.{texts}
use Rattle.run_loop.proofs.RequestLemmas.{replies_more, texts_more}
use Rattle.script_tally.specs.Gathering.{GathersAll}
use Rattle.script_tally.specs.Tallying.{CountsReply, Counted, Tallies, answers_in, tally_of}
use Rattle.script_tally.specs.declared.counting.Tally.{Tally}

-- the tally of the replies with one more
pub tally_more : (rs : List Reply) (r : Reply) (old new : Tally) → old ≡ tally_of rs → CountsReply old r new → new ≡ tally_of (rs ++ r ∷ [])
tally_more rs r old new is adds =
    let replies = adds.replies ∙ ap (λ (t : Tally). t.replies + 1) is ∙ sym (length-append rs (r ∷ [])) in
    let answers = adds.answers ∙ ap (λ (t : Tally). t.answers + answers_in r) is ∙ sym (sum_by_push answers_in rs r) in
    let bytes = adds.bytes ∙ ap (λ (t : Tally). t.bytes + length (text_of_reply r)) is ∙ sym (ap length (texts_more rs r) ∙ length-append (texts rs) (text_of_reply r)) in
    ap (λ (n : ℕ). record new { replies = n }) replies ∙ ap (λ (n : ℕ). record { replies = length (rs ++ r ∷ []); answers = n; bytes = new.bytes }) answers
    ∙ ap (λ (n : ℕ). record { replies = length (rs ++ r ∷ []); answers = sum_by answers_in (rs ++ r ∷ []); bytes = n }) bytes

-- one request more was replied to
pub counted_more : (stands next : MachineState → Type 0) (h : History) (requests : List Request) (q : Request) (r : Reply) (disk disk' : Option Disk) (old new : Tally) (c : Counted stands h requests disk old) (t : MachineState) → StepsTo c.state q r t → next t → DiskKeeps disk' t.history
    → StaysTold disk disk' → CountsReply old r new → Counted next h (requests ++ q ∷ []) disk' new
counted_more stands next h requests q r disk disk' old new c t step stands_for kept told adds =
    let now = told.told c.d c.told in
    record {
      replies = c.replies ++ r ∷ [];
      state = t;
      machine = replies_more h requests c.replies c.state t q r c.machine step;
      is = tally_more c.replies r old new c.is adds;
      stands_for = stands_for;
      d = now.0;
      told = now.1;
      kept = kept;
    }

-- a base is loaded, and nothing is counted yet
pub counted_none : (stands : MachineState → Type 0) (h : History) (s : MachineState) (old disk : Option Disk) (d : Disk) → IsInitial h s → stands s → DiskKeeps disk h → StaysTold old disk → old ≡ Some d
    → Counted stands h [] disk (record { replies = 0; answers = 0; bytes = 0 })
counted_none stands h s old disk d initial stands_for kept told is =
    let now = told.told d is in
    record {
      replies = [];
      state = s;
      machine = record { first = s; initial = initial; steps = (refl, refl) };
      is = refl;
      stands_for = stands_for;
      d = now.0;
      told = now.1;
      kept = subst (DiskKeeps disk) (sym initial.history) kept;
    }

-- the whole script was replied to
pub all_counted : (stands : MachineState → Type 0) (h : History) (script : List ℕ) (requests : List Request) (disk : Option Disk) (t : Tally) → GathersAll script requests → Counted stands h requests disk t → Tallies h script disk t
all_counted stands h script requests disk t g c = record { requests = requests; are = g.are; replies = c.replies; state = c.state; machine = c.machine; is = c.is; kept = c.kept }

-- the second area stays through two calls
pub second_on : (a b c : Option Disk) → SecondStays a b → StaysTold a b → SecondStays b c → SecondStays a c
second_on a b c first told second d is e now = let mid = told.told d is in second mid.0 mid.1 e now ∙ first d is mid.0 mid.1

pub second_same : (a : Option Disk) → SecondStays a a
second_same a d is e now = let same : e ≡ d = (let both : Some e ≡ Some d = sym now ∙ is in cc) in ap (λ (x : Disk). x.second.reads) same

pub nothing_of_length : {X : Type 0} (xs : List X) → length xs ≡ 0 → xs ≡ []
nothing_of_length [] is = refl
nothing_of_length (x ∷ xs) is = absurd (omega (arith, is))

-- the one of two that the other isn't
pub right_of : {A B : Type 0} → A ⊎ B → (A → ⊥) → B
right_of (inl a) never = absurd (never a)
right_of (inr b) never = b
