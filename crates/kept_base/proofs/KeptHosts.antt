-- The disk under a step: left alone, or with one entry more.
use Rattle.std.proofs.Common.{◌≡◌, ◌≤◌, ◌+◌, inl, inr, ℕ, List, Option, Some, None, Result, Ok, Err, refl, sym, ◌∙◌, ap, subst, arith}
use Rattle.std.specs.Prelude.{IsErrAnd, IsErrOf}
use Rattle.std.specs.Option.{ForSome}
use Rattle.host_io.specs.Disk.{Disk, IsSettled}
use Rattle.host_io.specs.Moments.{Left, Leaves, LeavesOnly, IsShown}
use Rattle.host_io.proofs.Moments.{started, weaker}
use Rattle.host_io.proofs.Settled.{first_image, second_image}
use Rattle.gated_log.specs.Stops.{AtFirst}
use Rattle.dl_base.proofs.PlaceLemmas.{some_same}
use Rattle.base_store.specs.Area.{HoldsHistory}
use Rattle.base_store.specs.History.{History}
use Rattle.base_store.specs.Store.{HoldsEither, StandsFor, StandsForNext, StoreState}
use Rattle.reply_text.specs.declared.reply.Refusal.{Refusal}
use Rattle.reply_text.specs.declared.reply.Reply.{Reply}
use Rattle.reply_text.specs.declared.reply.Reply.TheVariants as reply
use Rattle.script_reader.specs.declared.request.Request.{Request}
use Rattle.base_engine.specs.Calls.{DiskKeeps, HasKeptState, HoldsAtRest, SecondStays, StaysTold, StepLeaves}
use Rattle.base_engine.specs.State.{MachineState}
use Rattle.base_engine.specs.Steps.{StepsTo}
use Rattle.kept_base.specs.Base.{BaseState, StandsForState}
use Rattle.kept_base.specs.Doing.{DecidesRefusal}

-- ---- a host that isn't called

pub still_second : (disk : Option Disk) → SecondStays disk disk
still_second disk d told e e_told = ap (λ (y : Disk). y.second.reads) (some_same (sym e_told ∙ told))

pub still_told : (disk : Option Disk) → StaysTold disk disk
still_told disk = record { told = λ d told. (d, told); untold = λ none. none }

pub still_moments : {H : Type 0} (clock : H → ℕ) (might : H → ℕ → Left → Type 0) (host : H) (disk : Option Disk) (printed : Option (List ℕ)) → ((left : Left) → might host (clock host) left → Leaves disk (IsShown printed) left)
    → (s : MachineState) (q : Request) (d : Disk) → disk ≡ Some d → DiskKeeps (Some d) s.history → LeavesOnly clock might host host (StepLeaves s q printed d.second.reads)
still_moments clock might host disk printed only_now s q d told keeps = started clock might host _ (λ left here.
    let now = only_now left here in
    let rest = keeps d refl in
    let areas = now.areas d told in
    record {
      area = inl (subst (λ (area : List ℕ). HoldsHistory area s.history) (sym (first_image d left.first rest.is_settled areas.0)) rest.held);
      other = second_image d left.second rest.is_settled areas.1;
      output = now.output;
    })

-- a refusal leaves the base as it was
module _ (old new : BaseState) (disk : Option Disk) (q : Request) (e : Refusal) (is : (new ≡ old) × DecidesRefusal old q (Some e)) where
  pub refused_steps : (s : MachineState) → StandsForState old s → DiskKeeps disk s.history → (t : MachineState) × StepsTo s q (reply.Error e) t × StandsForState new t × DiskKeeps disk t.history
  refused_steps s stands keeps = (s, StepsTo.refused (is.1 s stands), subst (λ (b : BaseState). StandsForState b s) (sym is.0) stands, keeps)

  pub refused_ready : HasKeptState (StandsForState old) disk → HasKeptState (StandsForState new) disk
  refused_ready kept = subst (λ (b : BaseState). HasKeptState (StandsForState b) disk) (sym is.0) kept

  pub refused_one : new.steps ≤ old.steps + 1
  refused_one = (let same : new.steps ≡ old.steps = ap (λ (b : BaseState). b.steps) is.0 in omega (arith, same))

-- ---- a host that is read and written

-- of the second area a read gives what it gave
abbrev pub ReadsOther : Option Disk → Option Disk → Type 0
ReadsOther old new = ForSome old (λ d. (e : Disk) × (new ≡ Some e) × (e.second.reads ≡ d.second.reads))

module _ (old new : Option Disk) (reads : ReadsOther old new) where
  pub other_told : (old ≡ None → new ≡ None) → StaysTold old new
  other_told untold = record { told = λ d told. (let x = reads d told in (x.0, x.1)); untold = untold }

  pub other_second : SecondStays old new
  other_second d told e e_told = (let x = reads d told in ap (λ (y : Disk). y.second.reads) (some_same (sym e_told ∙ x.1)) ∙ x.2)

-- ---- a host that keeps an entry

-- where a disk keeps the history of a state, the base's store stands for it
pub stands_at : (b : BaseState) (s : MachineState) → StandsForState b s → (d : Disk) → HoldsAtRest d s.history → StandsFor b.store d s.history
stands_at b s stands d rest = record {
  at_end = record { is_settled = rest.is_settled; held = rest.held; place = stands.used_is };
  count = stands.count_is;
}

-- from each state that the old base stands for the request has this reply, and leads to one of the new base's whose history is the next
abbrev pub Leads : BaseState → (History → History) → Request → Reply → BaseState → Type 0
Leads old next q r new = (s : MachineState) → StandsForState old s → (t : MachineState) × StepsTo s q r t × StandsForState new t × (t.history ≡ next s.history)

module _ (old : BaseState) (next : History → History) (before after : Option Disk) (store : StoreState) (untold : before ≡ None → after ≡ None)
    (ok : ForSome before (λ d. (e : Disk) × (after ≡ Some e) × IsSettled e × (e.second ≡ d.second) × StandsForNext next old.store d store e)) where
  told_before : (e : Disk) → after ≡ Some e → (d : Disk) × (before ≡ Some d)
  told_before e e_told = by before refl
    where
      by : (o : Option Disk) → before ≡ o → (d : Disk) × (before ≡ Some d)
      by None is = absurd (let x : None ≡ Some e = sym (untold is) ∙ e_told in cc)
      by (Some d) is = (d, is)

  at_next : (s : MachineState) → StandsForState old s → (d e : Disk) → before ≡ Some d → after ≡ Some e → HoldsAtRest d s.history → HoldsAtRest e (next s.history)
  at_next s stands d e told e_told rest =
      let x = ok d told in
      let then = x.4 s.history (stands_at old s stands d rest) in
      let made : HoldsAtRest x.0 (next s.history) = record { is_settled = x.2; held = then.at_end.held } in
      subst (λ (y : Disk). HoldsAtRest y (next s.history)) (some_same (sym x.1 ∙ e_told)) made

  pub keeps_next : (s : MachineState) → StandsForState old s → DiskKeeps before s.history → DiskKeeps after (next s.history)
  keeps_next s stands keeps e e_told = (let b = told_before e e_told in at_next s stands b.0 e b.1 e_told (keeps b.0 b.1))

  pub steps_next : (q : Request) (r : Reply) (new : BaseState) → Leads old next q r new → (s : MachineState) → StandsForState old s → DiskKeeps before s.history
      → (t : MachineState) × StepsTo s q r t × StandsForState new t × DiskKeeps after t.history
  steps_next q r new leads s stands keeps = (let t = leads s stands in (t.0, t.1, t.2, subst (DiskKeeps after) (sym t.3) (keeps_next s stands keeps)))

  pub ready_next : (q : Request) (r : Reply) (new : BaseState) → Leads old next q r new → HasKeptState (StandsForState old) before → HasKeptState (StandsForState new) after
  ready_next q r new leads kept e e_told =
      let b = told_before e e_told in
      let s = kept b.0 b.1 in
      let t = leads s.0 s.1 in
      (t.0, t.2, subst (HoldsAtRest e) (sym t.3) (at_next s.0 s.1 b.0 e b.1 e_told s.2))

-- a stop leaves the history from before, or the next one
pub next_moments : {H : Type 0} (clock : H → ℕ) (might : H → ℕ → Left → Type 0) (was is : H) (printed : Option (List ℕ)) (old new : BaseState) (next : History → History) (q : Request) (r : Reply) → Leads old next q r new
    → (s : MachineState) → StandsForState old s → (d : Disk) → DiskKeeps (Some d) s.history
    → LeavesOnly clock might was is (AtFirst d printed (HoldsEither next d.first.reads)) → LeavesOnly clock might was is (StepLeaves s q printed d.second.reads)
next_moments clock might was is printed old new next q r leads s stands d keeps only = weaker clock might was is _ _ only (λ left a.
    let t = leads s stands in
    record {
      area = elim (a.first s.history (keeps d refl).held) [
        | inl before ↦ inl before
        | inr after ↦ inr (r, t.0, t.1, subst (HoldsHistory left.first) (sym t.3) after)
      ];
      other = a.second;
      output = a.output;
    })

-- ---- faults that are handed on

same_fault : {U E : Type 0} (r : Result U E) (f g : E) → r ≡ Err f → r ≡ Err g → f ≡ g
same_fault r f g was is = cc

pub handed_on : {T U E : Type 0} (result : Result T E) (f g : E) → IsErrAnd result (λ e. e ≡ f) → IsErrOf {T = U} (Err f) g → IsErrOf result g
handed_on (Ok v) f g is of = absurd is
handed_on {U = U} {E = E} (Err e) f g is of = ap (λ (x : E). Err x) (is ∙ same_fault {U = U} (Err f) f g refl of)
