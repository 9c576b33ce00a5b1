-- A base that is loaded, and the run over it.
use Rattle.std.proofs.Common.{◌≡◌, ◌⊎◌, inl, inr, ⊎_elim, ◌≤◌, ℕ, List, [], ◌++◌, length, Option, Some, None, false, refl, sym, ◌∙◌, ap, subst, arith, length-append}
use Rattle.std.proofs.lemmas.List.{append-nil}
use Rattle.host_io.specs.Disk.{Disk, IsImage}
use Rattle.host_io.specs.Moments.{Left, Leaves, LeavesOnly, IsShown}
use Rattle.host_io.proofs.Moments.{started, joined, weaker}
use Rattle.host_io.proofs.Settled.{at_rest_image}
use Rattle.gated_log.specs.Stops.{LeavesImages}
use Rattle.base_store.specs.Area.{KeepsHistory}
use Rattle.base_store.specs.History.{History}
use Rattle.base_engine.specs.Calls.{DiskKeeps, HoldsAtRest, IsSynced, LeavesKept, StaysTold}
use Rattle.base_engine.specs.State.{IsInitial, MachineState}
use Rattle.base_engine.specs.declared.engine.EndFault.{EndFault}
use Rattle.base_engine.specs.declared.engine.EndFault.TheVariants as end
use Rattle.run_loop.specs.Serving.{Opening, HasLeft, Serves, IsFaultOfEnd}
use Rattle.run_loop.specs.Run.{input_limit, AreFirstRead, Ends, MayBeLeft, Ran, RanOpened, IsComplete, IsEndingOf}
use Rattle.run_loop.specs.declared.fault.Fault.{Fault}
use Rattle.run_loop.specs.declared.fault.Fault.TheVariants as fault
use Rattle.run_loop.specs.declared.ending.Ending.{Ending}
use Rattle.run_loop.specs.declared.ending.Ending.TheVariants as ending
use Rattle.run_loop.proofs.ScriptLemmas.{nothing_held}
use Rattle.run_loop.proofs.ByteLemmas.{first_open, open_requests}

-- no request stands first in any bytes
pub first_none : (bytes rest : List ℕ) → AreFirstRead bytes rest []
first_none bytes rest = record {
  ended = false;
  at_end = λ is. absurd cc;
  first = first_open [] bytes false [] (open_requests [] [] [] [] None (record { joined = refl; none_inside = tt; none_behind = tt }) nothing_held);
}

module _ {H : Type 0} (disk : H → Option Disk) (printed : H → Option (List ℕ)) (clock : H → ℕ) (might : H → ℕ → Left → Type 0) where
  -- there was no memory for the buffers
  pub ran_none : (start : H) (a : Opening) (s : MachineState) (input : List ℕ) (left : Option (List ℕ)) (host : H) → Serves disk printed clock might start a [] s host → left ≡ Some input → Ran disk printed clock might a ending.NoMemory input left start host
  ran_none start a s input left host serves told = record {
    read = [];
    rest = input;
    parts = refl;
    is_left = told;
    ends = record {
      few = omega arith;
      requests = [];
      first = first_none [] input;
      left = record { first = []; rest = []; parts = refl; state = s; replied = serves.replied };
    };
    moments = weaker clock might start host (HasLeft a []) (MayBeLeft a [] input) serves.moments (λ l has. record { requests = []; first = first_none [] input; has = has });
  }

  module _ (h : History) (before second : List ℕ) where
    abbrev pub opening : Opening
    opening = record { history = h; second = second; before = before }

    -- the machine is in its first state
    pub opened : (s : MachineState) (old mid : H) (d : Disk) → IsInitial h s → DiskKeeps (disk mid) h → StaysTold (disk old) (disk mid) → ((e : Disk) → disk mid ≡ Some e → e.second.reads ≡ second) → disk old ≡ Some d → printed old ≡ Some before → printed mid ≡ printed old
        → ((l : Left) → might mid (clock mid) l → Leaves (disk mid) (IsShown (printed mid)) l) → Serves disk printed clock might mid opening [] s mid
    opened s old mid d initial keeps told others is shown same only_now =
        let to = told.told d is in
        let kept = keeps to.0 to.1 in
        record {
          replied = record {
            shows = record { replies = []; machine = record { first = s; initial = initial; steps = (refl, refl) }; now = same ∙ shown ∙ ap Some (sym (append-nil before)) };
            d = to.0;
            told = to.1;
            kept = subst (HoldsAtRest to.0) (sym initial.history) kept;
            other = others to.0 to.1;
          };
          moments = started clock might mid (HasLeft opening []) (λ l now.
              let leaves = only_now l now in
              let image = (leaves.areas to.0 to.1).0 in
              let area : l.first ≡ to.0.first.reads = at_rest_image to.0.first.reads l.first (subst (λ x. IsImage x l.first) kept.is_settled.first image) in
              let image1 = (leaves.areas to.0 to.1).1 in
              let other : l.second ≡ to.0.second.reads = at_rest_image to.0.second.reads l.second (subst (λ x. IsImage x l.second) kept.is_settled.second image1) in
              (other ∙ others to.0 to.1, inl (record { shown = leaves.output before (same ∙ shown); keeps = subst (λ (x : List ℕ). KeepsHistory x h) (sym area) (inr kept.held) })));
        }

    may_be_open : (read rest : List ℕ) (l : Left) → LeavesKept h (Some before) second l → MayBeLeft opening read rest l
    may_be_open read rest l is = record { requests = []; first = first_none read rest; has = (is.other, inl (record { shown = is.output before refl; keeps = is.area })) }

  pub ran_opened : (h : History) (before : List ℕ) (d : Disk) (e : Ending) (input : List ℕ) (left : Option (List ℕ)) (old mid new : H) → LeavesOnly clock might old mid (λ l. LeavesImages d (Some before) l ⊎ LeavesKept h (Some before) d.second.reads l) → IsSynced clock might (Some before) d.second.reads h old mid
      → Ran disk printed clock might (opening h before d.second.reads) e input left mid new
      → ((t : ℕ) (l : Left) → t ≤ clock new → Leaves (disk new) (IsShown (printed new)) l → might new t l) → ((e : Disk) → disk new ≡ Some e → IsImage e.first e.first.reads × IsImage e.second e.second.reads)
      → RanOpened disk printed clock might d h before e input left old new
  ran_opened h before d e input left old mid new first synced ran counts_now reads_now = record {
    read = ran.read;
    rest = ran.rest;
    parts = ran.parts;
    is_left = ran.is_left;
    ends = ran.ends;
    earlier = joined clock might old mid new _ _ (λ l. LeavesImages d (Some before) l ⊎ MayBeLeft (opening h before d.second.reads) ran.read ran.rest l) first ran.moments (λ l is. ⊎_elim inl (λ was. inr (may_be_open h before d.second.reads ran.read ran.rest l was)) is) (λ l is. inr is);
    since = synced.since;
    later = synced.later;
    past = omega (arith, synced.past, ran.moments.later);
    moments = λ l had. ⊎_elim (λ was. may_be_open h before d.second.reads ran.read ran.rest l (synced.each l was)) (λ is. is) (ran.moments.before synced.since l synced.past had);
    at_end = λ e told p shown.
        let images = reads_now e told in
        let now = counts_now synced.since (record { first = e.first.reads; second = e.second.reads; printed = p }) (omega (arith, synced.past, ran.moments.later)) (record {
          areas = λ x is. let same : e ≡ x = cc in subst (λ (y : Disk). IsImage y.first e.first.reads × IsImage y.second e.second.reads) same images;
          output = λ q is. let same : p ≡ q = cc in same;
        }) in
        ⊎_elim (λ was. may_be_open h before d.second.reads ran.read ran.rest _ (synced.each _ was)) (λ is. is) (ran.moments.before synced.since _ synced.past now);
  }

pub complete_opened : (e : Ending) (a : Opening) (read rest input : List ℕ) (disk : Option Disk) (printed : Option (List ℕ)) → input ≡ read ++ rest → length input ≤ input_limit → Ends e a read rest disk printed → IsComplete e
complete_opened ending.Done a read rest input disk printed parts few ends = inl refl
complete_opened ending.ReadFault a read rest input disk printed parts few ends = inr (inl refl)
complete_opened ending.PrintFault a read rest input disk printed parts few ends = inr (inr (inl refl))
complete_opened ending.DiskFault a read rest input disk printed parts few ends = inr (inr (inr (inl refl)))
complete_opened ending.NoMemory a read rest input disk printed parts few ends = inr (inr (inr (inr refl)))
complete_opened (ending.Damaged area at) a read rest input disk printed parts few ends = absurd ends
complete_opened ending.InputTooLarge a read rest input disk printed parts few ends = absurd (omega (arith, ends.0, ap length parts, length-append read rest))

-- what an e says that comes of a fault while the base is opened
pub complete_not : (e : Ending) → (e ≡ ending.NoMemory) ⊎ (e ≡ ending.DiskFault) → IsComplete e
complete_not e (inl is) = inr (inr (inr (inr is)))
complete_not e (inr is) = inr (inr (inr (inl is)))

pub cause_of : (e : Ending) (f : Fault) → IsEndingOf e f → (f ≡ fault.Print → ⊥) → ((area at : ℕ) → f ≡ fault.Damaged area at → ⊥) → (e ≡ ending.NoMemory) ⊎ (e ≡ ending.DiskFault)
cause_of e fault.Disk is print damaged = inr is
cause_of e fault.Memory is print damaged = inl is
cause_of e fault.Print is print damaged = absurd (print refl)
cause_of e (fault.Damaged area at) is print damaged = absurd (damaged area at refl)

pub ending_of : (given_up : EndFault) (f : Fault) (e : Ending) (at : ℕ) → IsFaultOfEnd given_up f → IsEndingOf e f → (given_up ≡ end.Damaged 0 at) ⊎ (given_up ≡ end.DiskFault) ⊎ (given_up ≡ end.NoMemory)
    → (e ≡ ending.Damaged 0 at) ⊎ (e ≡ ending.DiskFault) ⊎ (e ≡ ending.NoMemory)
ending_of given_up f e at of is (inl same) = inl (subst (IsEndingOf e) (subst (λ (x : EndFault). IsFaultOfEnd x f) same of) is)
ending_of given_up f e at of is (inr (inl same)) = inr (inl (subst (IsEndingOf e) (subst (λ (x : EndFault). IsFaultOfEnd x f) same of) is))
ending_of given_up f e at of is (inr (inr same)) = inr (inr (subst (IsEndingOf e) (subst (λ (x : EndFault). IsFaultOfEnd x f) same of) is))
