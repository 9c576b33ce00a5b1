-- Requests that are answered one after another.
use Rattle.std.proofs.Common.{◌≡◌, ◌≢◌, ◌⊎◌, inl, inr, ⊎_elim, ℕ, List, [], ◌∷◌, ◌++◌, Option, Some, Result, Ok, Err, refl, sym, ◌∙◌, ap, subst, append_assoc}
use Rattle.std.specs.Prelude.{MatchResult}
use Rattle.std.proofs.lemmas.List.{append-nil}
use Rattle.std.proofs.lemmas.Grind.{flat_map-append}
use Rattle.host_io.specs.Disk.{Disk, IsImage}
use Rattle.host_io.specs.Host.{ShowsFront}
use Rattle.host_io.specs.Moments.{Left, Leaves, LeavesOnly}
use Rattle.host_io.proofs.Settled.{at_rest_image}
use Rattle.host_io.proofs.Moments.{joined}
use Rattle.base_store.specs.Area.{KeepsHistory}
use Rattle.base_store.specs.History.{History}
use Rattle.reply_text.specs.ReplyText.{text_of_reply, IsAcknowledgement}
use Rattle.reply_text.specs.declared.reply.Reply.{Reply}
use Rattle.reply_text.specs.declared.reply.Reply.TheVariants as reply
use Rattle.script_reader.specs.declared.request.Request.{Request}
use Rattle.base_engine.specs.Calls.{HoldsAtRest, DiskKeeps, StaysTold, StepLeaves, TouchesArea}
use Rattle.base_engine.specs.State.{MachineState}
use Rattle.base_engine.specs.Steps.{StepsTo, AreReplies}
use Rattle.base_engine.proofs.RunLemmas.{steps_go_on, other_replies_leave_history}
use Rattle.run_loop.specs.Printing.{PrintsWhole, PrintsPart}
use Rattle.run_loop.specs.Serving.{IsProperFront, Opening, ShowsReplies, Stopped, HasLeft, Serves, Ended, texts}
use Rattle.run_loop.specs.declared.fault.Fault.{Fault}
use Rattle.run_loop.specs.declared.fault.Fault.TheVariants as fault

-- ---- replies and their texts

pub replies_more : (h : History) (qs : List Request) (rs : List Reply) (t u : MachineState) (q : Request) (r : Reply) → AreReplies h qs rs t → StepsTo t q r u → AreReplies h (qs ++ q ∷ []) (rs ++ r ∷ []) u
replies_more h qs rs t u q r is step = record { first = is.first; initial = is.initial; steps = steps_go_on is.first t u qs rs q r is.steps step }

pub texts_more : (rs : List Reply) (r : Reply) → texts (rs ++ r ∷ []) ≡ texts rs ++ text_of_reply r
texts_more rs r = flat_map-append text_of_reply rs (r ∷ []) ∙ ap (λ (l : List ℕ). texts rs ++ l) (append-nil (text_of_reply r))

pub text_some : (r : Reply) → text_of_reply r ≢ []
text_some reply.Done e = cc
text_some (reply.Committed number added removed) e = cc
text_some (reply.Loaded inclusions) e = cc
text_some (reply.Reopened transactions) e = cc
text_some (reply.Prepared h) e = cc
text_some (reply.Answers []) e = cc
text_some (reply.Answers (k ∷ ks)) e = cc
text_some reply.Consistent e = cc
text_some (reply.Inconsistent c) e = cc
text_some (reply.Table []) e = cc
text_some (reply.Table ([] ∷ lines)) e = cc
text_some (reply.Table ((c ∷ cs) ∷ lines)) e = cc
text_some (reply.Error x) e = cc

-- ---- what was left

pub left_more : (a : Opening) (requests more : List Request) (left : Left) → HasLeft a requests left → HasLeft a (requests ++ more) left
left_more a requests more left (other, inl at) = (other, inl at)
left_more a requests more left (other, inr is) = (
  other,
  inr (record {
    replied = is.replied;
    rest = is.rest ++ more;
    parts = ap (λ (l : List Request). l ++ more) is.parts ∙ append_assoc is.replied is.rest more;
    replies = is.replies;
    state = is.state;
    machine = is.machine;
    part = is.part;
    shown = is.shown;
    now = ⊎_elim inl (λ under. inr (record {
      request = under.request;
      more = under.more ++ more;
      next = ap (λ (l : List Request). l ++ more) under.next;
      reply = under.reply;
      state = under.state;
      step = under.step;
      front = under.front;
      area_keeps = under.area_keeps;
    })) is.now;
  }),
)

module _ (a : Opening) (requests : List Request) (s : MachineState) (q : Request) where
  -- between two requests
  pub stopped_between : (rs : List Reply) → AreReplies a.history requests rs s → (area printed : List ℕ) → printed ≡ a.before ++ texts rs → KeepsHistory area s.history → Stopped a (requests ++ q ∷ []) area printed
  stopped_between rs machine area printed shown keeps = record {
    replied = requests;
    rest = q ∷ [];
    parts = refl;
    replies = rs;
    state = s;
    machine = machine;
    part = [];
    shown = shown ∙ sym (append-nil (a.before ++ texts rs));
    now = inl (refl, keeps);
  }

  -- while the next request is under way
  pub stopped_under_way : (rs : List Reply) → AreReplies a.history requests rs s → (r : Reply) (t : MachineState) → StepsTo s q r t → (area printed part : List ℕ) → printed ≡ (a.before ++ texts rs) ++ part
      → IsProperFront part (text_of_reply r) → KeepsHistory area s.history ⊎ KeepsHistory area t.history → Stopped a (requests ++ q ∷ []) area printed
  stopped_under_way rs machine r t step area printed part shown front keeps = record {
    replied = requests;
    rest = q ∷ [];
    parts = refl;
    replies = rs;
    state = s;
    machine = machine;
    part = part;
    shown = shown;
    now = inr (record { request = q; more = []; next = refl; reply = r; state = t; step = step; front = front; area_keeps = keeps });
  }

  -- inside the step
  pub stopped_in_step : (printed : Option (List ℕ)) (second : List ℕ) (shows : ShowsReplies a requests s printed) (left : Left) → StepLeaves s q printed second left → Stopped a (requests ++ q ∷ []) left.first left.printed
  stopped_in_step printed second shows left is =
      let shown = is.output (a.before ++ texts shows.replies) shows.now in
      ⊎_elim (λ keeps. stopped_between shows.replies shows.machine left.first left.printed shown (inr keeps))
      (λ done. stopped_under_way shows.replies shows.machine done.0 done.1 done.2 left.first left.printed [] (shown ∙ sym (append-nil (a.before ++ texts shows.replies)))
      (record { more = text_of_reply done.0; some = text_some done.0; parts = refl }) (inr (inr done.3))) is.area

  -- while the reply is printed, and the area keeps the history behind the step
  pub stopped_in_print : (rs : List Reply) → AreReplies a.history requests rs s → (r : Reply) (t : MachineState) → StepsTo s q r t → (area seen : List ℕ) → KeepsHistory area t.history
      → ShowsFront (a.before ++ texts rs) (text_of_reply r) (Some seen) → Stopped a (requests ++ q ∷ []) area seen
  stopped_in_print rs machine r t step area seen keeps front = by front.more front.whole
    where
      is_seen : seen ≡ (a.before ++ texts rs) ++ front.shown
      is_seen = let e = front.now in cc

      by : (more : List ℕ) → text_of_reply r ≡ front.shown ++ more → Stopped a (requests ++ q ∷ []) area seen
      by [] whole = record {
        replied = requests ++ q ∷ [];
        rest = [];
        parts = sym (append-nil (requests ++ q ∷ []));
        replies = rs ++ r ∷ [];
        state = t;
        machine = replies_more a.history requests rs s t q r machine step;
        part = [];
        shown = is_seen ∙ ap (λ (l : List ℕ). (a.before ++ texts rs) ++ l) (sym (append-nil front.shown) ∙ sym whole)
            ∙ append_assoc a.before (texts rs) (text_of_reply r) ∙ ap (λ (l : List ℕ). a.before ++ l) (sym (texts_more rs r)) ∙ sym (append-nil (a.before ++ texts (rs ++ r ∷ [])));
        now = inl (refl, keeps);
      }
      by (m ∷ more) whole = stopped_under_way rs machine r t step area seen front.shown is_seen (record { more = m ∷ more; some = λ is. cc; parts = whole }) (inr keeps)

-- ---- a host

module _ {H : Type 0} (disk : H → Option Disk) (printed : H → Option (List ℕ)) (clock : H → ℕ) (might : H → ℕ → Left → Type 0) (start : H) where
  pub moments_on : (a : Opening) (rs qs : List Request) (old new : H) (P : Left → Type 0) → LeavesOnly clock might start old (HasLeft a rs) → LeavesOnly clock might old new P
      → ((left : Left) → HasLeft a rs left → HasLeft a qs left) → ((left : Left) → P left → HasLeft a qs left) → LeavesOnly clock might start new (HasLeft a qs)
  moments_on a rs qs old new P moments run was is = joined clock might start old new (HasLeft a rs) P (HasLeft a qs) moments run was is

  -- The request is done, and its reply isn't printed yet.
  pub record Pending (a : Opening) (requests : List Request) (s : MachineState) (q : Request) (r : Reply) (t : MachineState) (host : H) : Type 0 where
    pub shows : ShowsReplies a requests s (printed host)
    pub step : StepsTo s q r t
    pub d : Disk
    pub told : disk host ≡ Some d
    pub kept : HoldsAtRest d t.history
    pub other : d.second.reads ≡ a.second
    pub moments : LeavesOnly clock might start host (HasLeft a (requests ++ q ∷ []))

  module _ (a : Opening) (requests : List Request) (s : MachineState) (q : Request) (old mid : H) (serves : Serves disk printed clock might start a requests s old)
      (same : printed mid ≡ printed old) (told : StaysTold (disk old) (disk mid)) (others : (d : Disk) → disk old ≡ Some d → (e : Disk) → disk mid ≡ Some e → e.second.reads ≡ d.second.reads)
      (run : LeavesOnly clock might old mid (StepLeaves s q (printed old) serves.replied.d.second.reads)) where
    shows_on : ShowsReplies a requests s (printed mid)
    shows_on = let shows = serves.replied.shows in record { replies = shows.replies; machine = shows.machine; now = same ∙ shows.now }

    moments_step : LeavesOnly clock might start mid (HasLeft a (requests ++ q ∷ []))
    moments_step = moments_on a requests (requests ++ q ∷ []) old mid _ serves.moments run (left_more a requests (q ∷ []))
        (λ left is. (is.other ∙ serves.replied.other, inr (stopped_in_step a requests s q (printed old) serves.replied.d.second.reads serves.replied.shows left is)))

    pub stepped : (r : Reply) (t : MachineState) → StepsTo s q r t → DiskKeeps (disk mid) t.history → Pending a requests s q r t mid
    stepped r t step keeps =
        let to = told.told serves.replied.d serves.replied.told in
        record { shows = shows_on; step = step; d = to.0; told = to.1; kept = keeps to.0 to.1; other = others serves.replied.d serves.replied.told to.0 to.1 ∙ serves.replied.other; moments = moments_step }

    pub step_wanted : DiskKeeps (disk mid) s.history → Ended disk printed clock might start a (requests ++ q ∷ []) fault.Memory mid
    step_wanted keeps =
        let to = told.told serves.replied.d serves.replied.told in
        record {
          left = record { first = requests; rest = q ∷ []; parts = refl; state = s; replied = record { shows = shows_on; d = to.0; told = to.1; kept = keeps to.0 to.1; other = others serves.replied.d serves.replied.told to.0 to.1 ∙ serves.replied.other } };
          moments = moments_step;
        }

    pub step_failed : TouchesArea q → Ended disk printed clock might start a (requests ++ q ∷ []) fault.Disk mid
    step_failed touches = record {
      left = record { first = requests; request = q; parts = refl; touches = touches; state = s; shows = shows_on };
      moments = moments_step;
    }

  module _ (a : Opening) (requests : List Request) (s : MachineState) (q : Request) (r : Reply) (t : MachineState) (mid new : H) (pending : Pending a requests s q r t mid) where
    abbrev pub before : List ℕ
    before = a.before ++ texts pending.shows.replies

    moments_print : LeavesOnly clock might mid new (Leaves (disk mid) (λ seen. ShowsFront before (text_of_reply r) (Some seen))) → LeavesOnly clock might start new (HasLeft a (requests ++ q ∷ []))
    moments_print run = moments_on a (requests ++ q ∷ []) (requests ++ q ∷ []) mid new _ pending.moments run (λ left had. had) (λ left is.
        let images = is.areas pending.d pending.told in
        let second = at_rest_image pending.d.second.reads left.second (subst (λ x. IsImage x left.second) pending.kept.is_settled.second images.1) in
        let area : left.first ≡ pending.d.first.reads = at_rest_image pending.d.first.reads left.first (subst (λ x. IsImage x left.first) pending.kept.is_settled.first images.0) in (
          second ∙ pending.other,
          inr (stopped_in_print a requests s q pending.shows.replies pending.shows.machine r t pending.step left.first left.printed
              (subst (λ (x : List ℕ). KeepsHistory x t.history) (sym area) (inr pending.kept.held)) is.output),
        ))

    pub printed_whole : PrintsWhole disk printed clock might (text_of_reply r) mid new → Serves disk printed clock might start a (requests ++ q ∷ []) t new
    printed_whole prints = record {
      replied = record {
        shows = record {
          replies = pending.shows.replies ++ r ∷ [];
          machine = replies_more a.history requests pending.shows.replies s t q r pending.shows.machine pending.step;
          now = prints.now before pending.shows.now ∙ ap Some (append_assoc a.before (texts pending.shows.replies) (text_of_reply r) ∙ ap (λ (l : List ℕ). a.before ++ l) (sym (texts_more pending.shows.replies r)));
        };
        d = pending.d;
        told = prints.shows.disk_stays ∙ pending.told;
        kept = pending.kept;
        other = pending.other;
      };
      moments = moments_print (prints.shows.moments before pending.shows.now);
    }

    pub print_failed : PrintsPart disk printed clock might (text_of_reply r) mid new → Ended disk printed clock might start a (requests ++ q ∷ []) fault.Print new
    print_failed prints =
        let front = prints.now before pending.shows.now in
        record {
          left = record {
            d = pending.d;
            told = prints.shows.disk_stays ∙ pending.told;
            seen = before ++ front.shown;
            other = pending.other;
            shown = front.now;
            stopped = stopped_in_print a requests s q pending.shows.replies pending.shows.machine r t pending.step pending.d.first.reads (before ++ front.shown) (inr pending.kept.held)
                (record { shown = front.shown; more = front.more; whole = front.whole; now = refl });
          };
          moments = moments_print (prints.shows.moments before pending.shows.now);
        }

  pub print_wanted : (a : Opening) (requests : List Request) (s : MachineState) (q : Request) (r : Reply) (t : MachineState) (mid : H) → Pending a requests s q r t mid → (IsAcknowledgement r → ⊥)
      → Ended disk printed clock might start a (requests ++ q ∷ []) fault.Memory mid
  print_wanted a requests s q r t mid pending silent = record {
    left = record {
      first = requests;
      rest = q ∷ [];
      parts = refl;
      state = s;
      replied = record { shows = pending.shows; d = pending.d; told = pending.told; kept = subst (HoldsAtRest pending.d) (other_replies_leave_history s t q r pending.step silent) pending.kept; other = pending.other };
    };
    moments = pending.moments;
  }

pub kept_told : (disk : Option Disk) (d : Disk) (h : History) → disk ≡ Some d → HoldsAtRest d h → DiskKeeps disk h
kept_told disk d h told kept e is = let same : d ≡ e = cc in subst (λ (x : Disk). HoldsAtRest x h) same kept

-- what a fault leaves, by what it is
pub left_as : (P : Fault → Type 0) (f : Fault) → (f ≡ fault.Disk → P fault.Disk) → (f ≡ fault.Memory → P fault.Memory) → ((area at : ℕ) → f ≡ fault.Damaged area at → ⊥) → (f ≡ fault.Print → ⊥) → P f
left_as P fault.Disk disk memory damaged print = disk refl
left_as P (fault.Damaged area at) disk memory damaged print = absurd (damaged area at refl)
left_as P fault.Print disk memory damaged print = absurd (print refl)
left_as P fault.Memory disk memory damaged print = memory refl

pub stays_same : (disk : Option Disk) → StaysTold disk disk
stays_same disk = record { told = λ d is. (d, is); untold = λ is. is }

pub stays_on : (a b c : Option Disk) → StaysTold a b → StaysTold b c → StaysTold a c
stays_on a b c f s = record { told = λ d is. let to = f.told d is in s.told to.0 to.1; untold = λ is. s.untold (f.untold is) }

pub match_weaker : {T E : Type 0} (r : Result T E) (P R : T → Type 0) (Q S : E → Type 0) → ((v : T) → P v → R v) → ((e : E) → Q e → S e) → MatchResult r P Q → MatchResult r R S
match_weaker (Ok v) P R Q S fromP fromQ is = fromP v is
match_weaker (Err e) P R Q S fromP fromQ is = fromQ e is
