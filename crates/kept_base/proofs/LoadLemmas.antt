-- What a base owes of its load, from what the store hands on.
use Rattle.std.proofs.Common.{◌≡◌, inl, inr, ℕ, List, [], Option, Some, None, refl, sym, ◌∙◌, ap, subst}
use Rattle.std.specs.Prelude.{Result, Ok, IsErrAnd}
use Rattle.std.specs.Option.{ForSome}
use Rattle.host_io.specs.Disk.{Disk}
use Rattle.host_io.specs.Moments.{Left}
use Rattle.gated_log.specs.Entries.{IsFresh, within}
use Rattle.gated_log.specs.Stops.{HoldsNothing, IsOpening, LeavesImages, LeavesThen, WhileOpened}
use Rattle.gated_log.proofs.LawLemmas.{fresh_has_no_header}
use Rattle.gated_log.proofs.Running.{was_ok}
use Rattle.gated_log.proofs.Runs.{same_some}
use Rattle.gated_log.proofs.Since.{came, failed_so, weaker_then}
use Rattle.base_store.specs.Area.{KeepsHistory, area_limit}
use Rattle.base_store.specs.History.{History, Empty}
use Rattle.base_engine.specs.Calls.{LeavesKept, Loads, SecondStays, StaysTold, StillKeeps}

-- ---- areas

only_empty : (area : List ℕ) (h : History) → IsFresh area → KeepsHistory area h → h ≡ Empty
only_empty area h fresh (inl kept) = kept.1
only_empty area h fresh (inr held) = absurd (fresh_has_no_header (within area_limit) area held.entries _ held.stands.begins fresh)

keeps_nothing : (area : List ℕ) → HoldsNothing (within area_limit) area → KeepsHistory area Empty
keeps_nothing area (inl fresh) = inl (fresh, refl)
keeps_nothing area (inr stands) = inr (record { entries = []; stands = stands; told = refl })

-- an area that is opened keeps its history meanwhile
pub keeps_opening : (old new : List ℕ) (h : History) → IsOpening (within area_limit) old new → KeepsHistory old h → KeepsHistory new h
keeps_opening old new h (inl same) keeps = subst (λ (area : List ℕ). KeepsHistory area h) (sym same) keeps
keeps_opening old new h (inr opened) keeps = subst (KeepsHistory new) (sym (only_empty old h opened.0 keeps)) (keeps_nothing new opened.1)

-- ---- the disk behind a load, whatever it answers

abbrev pub IsRead : Option Disk → Option Disk → Type 0
IsRead old new = ForSome old (λ d. (e : Disk) × (new ≡ Some e) × (e.second.reads ≡ d.second.reads) × IsOpening (within area_limit) d.first.reads e.first.reads)

module _ (old new : Option Disk) (is : IsRead old new) where
  pub stays_told : (old ≡ None → new ≡ None) → StaysTold old new
  stays_told untold = record { told = λ d told. (let x = is d told in (x.0, x.1)); untold = untold }

  pub second_stays : SecondStays old new
  second_stays d told e e_told = (let x = is d told in ap (λ (y : Disk). y.second.reads) (same_some (sym e_told ∙ x.1)) ∙ x.2)

  pub still_keeps : ForSome old (λ d. (h : History) → KeepsHistory d.first.reads h → StillKeeps new h)
  still_keeps d told h keeps e e_told = (let x = is d told in
      subst (λ (y : Disk). KeepsHistory y.first.reads h) (same_some (sym x.1 ∙ e_told)) (keeps_opening d.first.reads x.0.first.reads h x.3 keeps))

-- ---- moments

module _ {H : Type 0} (clock : H → ℕ) (might : H → ℕ → Left → Type 0) (d : Disk) (printed : Option (List ℕ)) (h : History) (keeps : KeepsHistory d.first.reads h) where
  leaves_kept : (l : Left) → WhileOpened (within area_limit) d printed l → LeavesKept h printed d.second.reads l
  leaves_kept l a = record { area = keeps_opening d.first.reads l.first h a.first keeps; other = a.second; output = a.output }

  -- the moments of the store's load are those of the base's
  pub loads : {T E : Type 0} (result : Result T E) (old new : H) → LeavesThen clock might (LeavesImages d printed) (WhileOpened (within area_limit) d printed) result old new → Loads clock might d printed h result old new
  loads result old new then = weaker_then clock might (LeavesImages d printed) (WhileOpened (within area_limit) d printed) (LeavesKept h printed d.second.reads) result old new then leaves_kept

  -- the store was loaded, and the host isn't called behind that, whatever the base answers
  pub loads_behind : {T E U F : Type 0} (first : Result T E) (v : T) (result : Result U F) (old new : H) → first ≡ Ok v → LeavesThen clock might (LeavesImages d printed) (WhileOpened (within area_limit) d printed) first old new → Loads clock might d printed h result old new
  loads_behind first v result old new was then = let base = loads first old new then in came clock might (LeavesImages d printed) (LeavesKept h printed d.second.reads) result old new base.moments (was_ok first v was base.synced)

  -- the store wasn't loaded, and its fault is handed on
  pub loads_fault : {T E U F : Type 0} (first : Result T E) (result : Result U F) (old new : H) → IsErrAnd first (λ e. Unit {0}) → IsErrAnd result (λ e. Unit {0})
      → LeavesThen clock might (LeavesImages d printed) (WhileOpened (within area_limit) d printed) first old new → Loads clock might d printed h result old new
  loads_fault first result old new was is then = failed_so clock might (LeavesImages d printed) (LeavesKept h printed d.second.reads) first result old new was is (loads first old new then)
