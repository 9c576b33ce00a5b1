-- What a base that is loaded, or loaded again, says of the disk.
use Rattle.std.proofs.Common.{◌≡◌, ◌⊎◌, inl, inr, ℕ, List, Option, Some, None, Result, Ok, Err, refl, sym, ◌∙◌, ap, subst}
use Rattle.std.specs.Prelude.{IsErrAnd}
use Rattle.std.specs.Option.{ForSome}
use Rattle.host_io.specs.Disk.{Disk, IsSettled, settled}
use Rattle.host_io.specs.Moments.{Left, LeavesOnly}
use Rattle.host_io.proofs.Settled.{first_image, second_image}
use Rattle.gated_log.specs.Entries.{IsFresh, within}
use Rattle.gated_log.specs.Stops.{AtOpening}
use Rattle.gated_log.proofs.LawLemmas.{fresh_has_no_header}
use Rattle.dl_base.proofs.PlaceLemmas.{some_same}
use Rattle.base_store.specs.Area.{HoldsHistory, IsDamaged, KeepsHistory, area_limit}
use Rattle.base_store.specs.History.{History, transaction_count}
use Rattle.base_store.specs.Loaded.{LoadFaultSays, LoadsFrom}
use Rattle.base_store.specs.Store.{StoreState}
use Rattle.base_store.specs.declared.load.Loaded.{Loaded}
use Rattle.base_store.specs.declared.load.LoadFault.{LoadFault}
use Rattle.base_store.specs.declared.load.LoadFault.TheVariants as load
use Rattle.base_store.proofs.Areas.{damaged_once, keeps_once, keeps_or_is_damaged}
use Rattle.reply_text.specs.declared.reply.Reply.TheVariants as reply
use Rattle.script_reader.specs.declared.command.Command.TheVariants as command
use Rattle.script_reader.specs.declared.request.Request.TheVariants as request
use Rattle.kept_base.specs.Base.{BaseState, StandsForState}
use Rattle.base_engine.specs.Calls.{BothStay, DiskKeeps, HasKeptState, HoldsAtRest, SecondStays, StepLeaves}
use Rattle.base_engine.specs.Faults.{end_of_load}
use Rattle.kept_base.specs.Opening.{StandsFromLoad}
use Rattle.base_engine.specs.State.{IsInitial, MachineState}
use Rattle.base_engine.specs.Steps.{Does, StepsTo}
use Rattle.base_engine.proofs.RefusalTable.{others_accepted}
use Rattle.base_engine.specs.declared.engine.EndFault.{EndFault}
use Rattle.base_engine.specs.declared.engine.EndFault.TheVariants as end

-- an area that holds a history isn't fresh
holds_not_fresh : (area : List ℕ) (h : History) → HoldsHistory area h → IsFresh area → ⊥
holds_not_fresh area h holds = fresh_has_no_header (within area_limit) area holds.entries _ holds.stands.begins

-- nor is one that offends
pub damaged_not_fresh : (area : List ℕ) (at : ℕ) → IsDamaged area at → IsFresh area → ⊥
damaged_not_fresh area at (inl top) = top.not_fresh
damaged_not_fresh area at (inr behind) = fresh_has_no_header (within area_limit) area behind.entries behind.rest behind.begins

-- what is written into an area that isn't fresh: nothing
abbrev pub IsUnwritten : Option Disk → Option Disk → Type 0
IsUnwritten old new = ForSome old (λ d. (IsFresh d.first.reads → ⊥) → (new ≡ Some d) ⊎ (new ≡ Some (settled d)))

module _ (old new : Option Disk) (unwritten : IsUnwritten old new) where
  pub both_stay : (d : Disk) → old ≡ Some d → (IsFresh d.first.reads → ⊥) → BothStay old new
  both_stay d told other x x_told e e_told = elim (unwritten d told other) [
    | inl kept ↦ (let one : e ≡ d = some_same (sym e_told ∙ kept) in let two : x ≡ d = some_same (sym x_told ∙ told) in
        (ap (λ (y : Disk). y.first.reads) one ∙ ap (λ (y : Disk). y.first.reads) (sym two), ap (λ (y : Disk). y.second.reads) one ∙ ap (λ (y : Disk). y.second.reads) (sym two)))
    | inr rest ↦ (let one : e ≡ settled d = some_same (sym e_told ∙ rest) in let two : x ≡ d = some_same (sym x_told ∙ told) in
        (ap (λ (y : Disk). y.first.reads) one ∙ ap (λ (y : Disk). y.first.reads) (sym two), ap (λ (y : Disk). y.second.reads) one ∙ ap (λ (y : Disk). y.second.reads) (sym two)))
  ]

  -- a disk whose reads are its only images stays as it is
  pub rest_stays : (d : Disk) → old ≡ Some d → IsSettled d → (IsFresh d.first.reads → ⊥) → new ≡ old
  rest_stays d told at other = elim (unwritten d told other) [
    | inl kept ↦ kept ∙ sym told
    | inr rest ↦ rest ∙ (ap (λ (x : Disk). Some x) (λ i. record { first = sym at.first i; second = sym at.second i }) ∙ sym told)
  ]

-- ---- a base behind its load

module _ (old new : Option Disk) (store : StoreState) (l : Loaded) (b : BaseState) (stands : StandsFromLoad store l b)
    (ok : ForSome old (λ d. (e : Disk) × (new ≡ Some e) × (e.second.reads ≡ d.second.reads) × LoadsFrom d.first.reads e store l)) where
  begins : (d e : Disk) (from : LoadsFrom d.first.reads e store l) → (s : MachineState) × IsInitial from.history s × StandsForState b s
  begins d e from = stands from.history from.loaded from.stands.at_end.place from.stands.count

  at_rest_with : (d e : Disk) (from : LoadsFrom d.first.reads e store l) (h : History) → from.history ≡ h → HoldsAtRest e h
  at_rest_with d e from h is = record { is_settled = from.stands.at_end.is_settled; held = subst (HoldsHistory e.first.reads) is from.stands.at_end.held }

  pub loaded_initial : ForSome old (λ d. (h : History) → KeepsHistory d.first.reads h → (s : MachineState) × IsInitial h s × StandsForState b s × DiskKeeps new h)
  loaded_initial d told h keeps =
      let x = ok d told in
      let is : x.3.history ≡ h = keeps_once d.first.reads x.3.history h x.3.kept keeps in
      let s = begins d x.0 x.3 in
      (s.0, subst (λ (k : History). IsInitial k s.0) is s.1, s.2, λ e e_told. subst (λ (y : Disk). HoldsAtRest y h) (some_same (sym x.1 ∙ e_told)) (at_rest_with d x.0 x.3 h is))

  pub loaded_ready : (old ≡ None → new ≡ None) → HasKeptState (StandsForState b) new
  loaded_ready untold e e_told = by old refl
    where
      by : (o : Option Disk) → old ≡ o → (s : MachineState) × StandsForState b s × HoldsAtRest e s.history
      by None none = absurd (let no : None ≡ Some e = sym (untold none) ∙ e_told in cc)
      by (Some d) told =
          let x = ok d told in
          let s = begins d x.0 x.3 in
          let here : HoldsAtRest x.0 s.0.history = at_rest_with d x.0 x.3 s.0.history (sym s.1.history) in
          (s.0, s.2, subst (λ (y : Disk). HoldsAtRest y s.0.history) (some_same (sym x.1 ∙ e_told)) here)

  pub loaded_second : SecondStays old new
  loaded_second d told e e_told = (let x = ok d told in ap (λ (y : Disk). y.second.reads) (sym (some_same (sym x.1 ∙ e_told))) ∙ x.2)

  -- an area that offends isn't loaded
  pub loaded_undamaged : ForSome old (λ d. (at : ℕ) → IsDamaged d.first.reads at → ⊥)
  loaded_undamaged d told at damaged = (let x = ok d told in keeps_or_is_damaged d.first.reads x.3.history at x.3.kept damaged)

  -- the step of a base that is loaded again
  pub reopen_steps : (s : MachineState) (d : Disk) → old ≡ Some d → HoldsAtRest d s.history
      → (t : MachineState) × StepsTo s (request.Plain command.Reopen) (reply.Reopened l.transactions) t × StandsForState b t × DiskKeeps new t.history
  reopen_steps s d told rest =
      let x = ok d told in
      let is : x.3.history ≡ s.history = keeps_once d.first.reads x.3.history s.history x.3.kept (inr rest.held) in
      let t = begins d x.0 x.3 in
      let initial : IsInitial s.history t.0 = subst (λ (h : History). IsInitial h t.0) is t.1 in
      let count : l.transactions ≡ transaction_count s.history = x.3.loaded.transactions ∙ ap transaction_count is in (
        t.0,
        subst (λ (n : ℕ). StepsTo s (request.Plain command.Reopen) (reply.Reopened n) t.0) (sym count) (StepsTo.done (others_accepted s).3 (Does.reopen initial)),
        t.2,
        λ e e_told. subst (λ (y : Disk). HoldsAtRest y t.0.history) (some_same (sym x.1 ∙ e_told)) (at_rest_with d x.0 x.3 t.0.history (is ∙ sym initial.history)),
      )

-- ---- moments

-- a stop while a base is loaded again leaves the history
pub reopen_moments : {H : Type 0} (clock : H → ℕ) (might : H → ℕ → Left → Type 0) (old new : H) (printed : Option (List ℕ)) (s : MachineState) (d : Disk) → HoldsAtRest d s.history
    → LeavesOnly clock might old new (AtOpening (within area_limit) d printed) → LeavesOnly clock might old new (StepLeaves s (request.Plain command.Reopen) printed d.second.reads)
reopen_moments clock might old new printed s d rest only = record {
  later = only.later;
  each = λ l left. at l (only.each l left);
  before = λ moment l le left. elim (only.before moment l le left) [ inl was ↦ inl was | inr is ↦ inr (at l is) ];
}
  where
    at : (l : Left) → AtOpening (within area_limit) d printed l → StepLeaves s (request.Plain command.Reopen) printed d.second.reads l
    at l a = record {
      area = elim a.first [
        | inl image ↦ inl (subst (λ (area : List ℕ). HoldsHistory area s.history) (sym (first_image d l.first rest.is_settled image)) rest.held)
        | inr fresh ↦ absurd (holds_not_fresh d.first.reads s.history rest.held fresh.0)
      ];
      other = second_image d l.second rest.is_settled a.second;
      output = a.output;
    }

-- ---- damage

-- what the store tells of an area that offends, handed on
damage_told : {T : Type 0} (result : Result T EndFault) (f : LoadFault) → result ≡ Err (end_of_load f) → (at : ℕ) (area : List ℕ) → IsDamaged area at → LoadFaultSays (IsDamaged area) f
    → (result ≡ Err (end.Damaged 0 at)) ⊎ ((result ≡ Err end.DiskFault) ⊎ (result ≡ Err end.NoMemory))
damage_told result load.DiskFault is at area damaged says = inr (inl is)
damage_told result (load.Damaged number place) is at area damaged says =
    let same : place ≡ at = damaged_once area place at says.1 damaged in
    inl (is ∙ (λ i. Err (end.Damaged (says.0 i) (same i))))
damage_told result load.NoMemory is at area damaged says = inr (inr is)

pub damage_handed : {T : Type 0} (result : Result T EndFault) (f : LoadFault) → IsErrAnd result (λ e. e ≡ end_of_load f) → (at : ℕ) (area : List ℕ) → IsDamaged area at → LoadFaultSays (IsDamaged area) f
    → (result ≡ Err (end.Damaged 0 at)) ⊎ ((result ≡ Err end.DiskFault) ⊎ (result ≡ Err end.NoMemory))
damage_handed (Ok v) f is at area damaged says = absurd is
damage_handed (Err e) f is at area damaged says = damage_told (Err e) f (ap (λ (x : EndFault). Err x) is) at area damaged says

-- an area that is loaded doesn't offend
pub undamaged : (old new : Option Disk) (store : StoreState) (l : Loaded) → ForSome old (λ d. (e : Disk) × (new ≡ Some e) × (e.second.reads ≡ d.second.reads) × LoadsFrom d.first.reads e store l)
    → ForSome old (λ d. (at : ℕ) → IsDamaged d.first.reads at → ⊥)
undamaged old new store l ok d told at damaged = (let x = ok d told in keeps_or_is_damaged d.first.reads x.3.history at x.3.kept damaged)

-- ---- a base that is loaded again

not_damaged : {T : Type 0} (result : Result T EndFault) (x y : EndFault) (area at : ℕ) → result ≡ Err x → result ≡ Err (end.Damaged area at) → x ≡ y → (y ≡ end.Damaged area at → ⊥) → ⊥
not_damaged {T} result x y area at one two same other =
    let z : x ≡ end.Damaged area at = let both = sym one ∙ two in cc in
    other (sym same ∙ z)

-- damage that the store tells is that of the first area, and so is what is handed on
pub damage_first : {T : Type 0} (result : Result T EndFault) (f : LoadFault) → IsErrAnd result (λ e. e ≡ end_of_load f) → LoadFaultSays (λ at. Unit {0}) f
    → (area at : ℕ) → result ≡ Err (end.Damaged area at) → area ≡ 0
damage_first (Ok v) f is says area at e = absurd is
damage_first (Err x) load.DiskFault is says area at e = absurd (not_damaged (Err x) x end.DiskFault area at refl e is (λ z. cc))
damage_first (Err x) (load.Damaged number place) is says area at e =
    let told : x ≡ end.Damaged area at = let f : Err x ≡ Err (end.Damaged area at) = e in cc in
    let both : end.Damaged number place ≡ end.Damaged area at = sym is ∙ told in
    let same : number ≡ area = cc in
    sym same ∙ says.0
damage_first (Err x) load.NoMemory is says area at e = absurd (not_damaged (Err x) x end.NoMemory area at refl e is (λ z. cc))

module _ (stands : MachineState → Type 0) (old new : Option Disk) (kept : HasKeptState stands old) where
  kept_not_fresh : (d : Disk) → old ≡ Some d → IsFresh d.first.reads → ⊥
  kept_not_fresh d told = (let k = kept d told in holds_not_fresh d.first.reads k.0.history k.2.held)

  pub reopen_second : IsUnwritten old new → SecondStays old new
  reopen_second unwritten d told e e_told = (both_stay old new unwritten d told (kept_not_fresh d told) d told e e_told).1

  pub reopen_stays : IsUnwritten old new → (old ≡ None → new ≡ None) → new ≡ old
  reopen_stays unwritten untold = by old refl
    where
      by : (o : Option Disk) → old ≡ o → new ≡ old
      by None none = untold none ∙ sym none
      by (Some d) told = rest_stays old new unwritten d told (kept d told).2.is_settled (kept_not_fresh d told)

  pub reopen_damage : {T : Type 0} (result : Result T EndFault) (f : LoadFault) → IsErrAnd result (λ e. e ≡ end_of_load f) → ForSome old (λ d. LoadFaultSays (IsDamaged d.first.reads) f)
      → (area at : ℕ) → result ≡ Err (end.Damaged area at) → old ≡ None
  reopen_damage (Ok v) f is says area at e = absurd is
  reopen_damage (Err x) f is says area at e = by old refl f is says
    where
      by : (o : Option Disk) → old ≡ o → (g : LoadFault) → x ≡ end_of_load g → ForSome old (λ d. LoadFaultSays (IsDamaged d.first.reads) g) → old ≡ None
      by None none g same told = none
      by (Some d) there load.DiskFault same told = absurd (not_damaged (Err x) x end.DiskFault area at refl e same (λ z. cc))
      by (Some d) there (load.Damaged number place) same told = absurd (let k = kept d there in keeps_or_is_damaged d.first.reads k.0.history place (inr k.2.held) (told d there).1)
      by (Some d) there load.NoMemory same told = absurd (not_damaged (Err x) x end.NoMemory area at refl e same (λ z. cc))
