-- An area before and after it was opened.
use Rattle.std.proofs.Common.{◌≡◌, ◌⊎◌, ◌<◌, inl, inr, ℕ, List, [], length, get_or, Option, Some, refl, sym, ◌∙◌, ap, subst, arith}
use Rattle.std.specs.Prelude.{IfErr, IsErrAnd, Result, Ok, Err}
use Rattle.std.proofs.lemmas.Bool.{cases_order}
use Rattle.host_io.specs.Disk.{Disk, IsImage}
use Rattle.host_io.specs.Moments.{Left, LeavesOnly}
use Rattle.host_io.proofs.Moments.{joined, weaker}
use Rattle.gated_log.specs.Entries.{IsFresh, Stands, within}
use Rattle.gated_log.specs.Opening.{Opens}
use Rattle.gated_log.specs.State.{LogState}
use Rattle.gated_log.specs.Stops.{AtFirst, AtOpening, IsOpening, LeavesImages, LeavesThen, WhileOpened}
use Rattle.gated_log.proofs.Fresh.{nothing_stands}
use Rattle.gated_log.proofs.Running.{was_ok}
use Rattle.gated_log.proofs.Since.{came_on}
use Rattle.base_store.specs.History.{History, Empty, transaction_count, used}
use Rattle.base_store.specs.Area.{HoldsHistory, IsDamaged, IsDamagedBehind, KeepsHistory, area_limit}
use Rattle.base_store.specs.Loaded.{LoadFaultSays, HasNumbersOf, LoadsFrom}
use Rattle.base_store.specs.Loading.{HasAllOf, HasReadAll}
use Rattle.base_store.specs.Store.{StoreState}
use Rattle.base_store.specs.declared.load.Loaded.{Loaded}
use Rattle.base_store.specs.declared.load.LoadFault.{LoadFault}
use Rattle.base_store.specs.declared.load.LoadFault.TheVariants as load
use Rattle.base_store.specs.declared.loading.Loading.{Loading}
use Rattle.base_store.proofs.Areas.{held_once, keeps_or_is_damaged}
use Rattle.base_store.proofs.Counts.{few_uncrowded}
use Rattle.base_store.proofs.LoadedRows.{is_loaded}

fresh_or_not : (area : List ℕ) → IsFresh area ⊎ (IsFresh area → ⊥)
fresh_or_not area = elim (cases_order (length area) 1) [
  | inl same ↦ inl (inl (omega (arith, same)))
  | inr either ↦ elim either [ inl less ↦ inl (inl (omega (arith, less))) | inr more ↦ by_gate (cases_order (get_or area 0 0) 1) more ]
]
  where
    by_gate : (get_or area 0 0 ≡ 1) ⊎ ((get_or area 0 0 < 1) ⊎ (1 < get_or area 0 0)) → 1 < length area → IsFresh area ⊎ (IsFresh area → ⊥)
    by_gate (inl same) more = inr (λ fresh. elim fresh [ inl short ↦ omega (arith, short, more) | inr shut ↦ shut same ])
    by_gate (inr (inl less)) more = inl (inr (λ e. omega (arith, e, less)))
    by_gate (inr (inr above)) more = inl (inr (λ e. omega (arith, e, above)))

module _ (old new : List ℕ) (opens : Opens (within area_limit) old new) where
  nothing : IsFresh old → Stands (within area_limit) new []
  nothing fresh = subst (λ (area : List ℕ). Stands (within area_limit) area []) (sym (opens.fresh fresh)) (nothing_stands (within area_limit) old)

  held : IsFresh old → HoldsHistory new Empty
  held fresh = record { entries = []; stands = nothing fresh; told = refl }

  pub kept_before : (h : History) → HoldsHistory new h → KeepsHistory old h
  kept_before h holds = elim (fresh_or_not old) [
    | inl fresh ↦ inl (fresh, held_once new h Empty holds (held fresh))
    | inr other ↦ inr (subst (λ (area : List ℕ). HoldsHistory area h) (opens.other other) holds)
  ]

  pub is_opening : IsOpening (within area_limit) old new
  is_opening = elim (fresh_or_not old) [ inl fresh ↦ inr (fresh, inr (nothing fresh)) | inr other ↦ inl (opens.other other) ]

  pub damaged_before : (at : ℕ) → IsDamagedBehind new at → IsDamaged old at
  damaged_before at damage = elim (fresh_or_not old) [
    | inl fresh ↦ absurd (keeps_or_is_damaged new Empty at (inr (held fresh)) (inr damage))
    | inr other ↦ inr (subst (λ (area : List ℕ). IsDamagedBehind area at) (opens.other other) damage)
  ]

  pub damage_says : (f : LoadFault) → LoadFaultSays (IsDamagedBehind new) f → LoadFaultSays (IsDamaged old) f
  damage_says load.DiskFault says = tt
  damage_says (load.Damaged area at) says = (says.0, damaged_before at says.1)
  damage_says load.NoMemory says = tt

-- what a stop leaves while the area is opened and then read
module _ {H : Type 0} (printed : H → Option (List ℕ)) (clock : H → ℕ) (might : H → ℕ → Left → Type 0) where
  pub read_moments : (old mid new : H) (d e : Disk) → Opens (within area_limit) d.first.reads e.first.reads → e.second.reads ≡ d.second.reads → IsImage d.first d.first.reads × IsImage d.second d.second.reads
      → printed mid ≡ printed old → LeavesOnly clock might old mid (AtOpening (within area_limit) d (printed old)) → LeavesOnly clock might mid new (AtFirst e (printed mid) (λ c. c ≡ e.first.reads))
      → LeavesOnly clock might old new (AtOpening (within area_limit) d (printed old))
  read_moments old mid new d e opens second reads shown opening reading = joined clock might old mid new _ _ _ opening reading (λ l a. a) (λ l a. record {
    first = elim (fresh_or_not d.first.reads) [
      | inl fresh ↦ inr (fresh, inr (subst (λ (area : List ℕ). Stands (within area_limit) area []) (sym a.first) (nothing d.first.reads e.first.reads opens fresh)))
      | inr other ↦ inl (subst (IsImage d.first) (sym (a.first ∙ opens.other other)) reads.0)
    ];
    second = subst (IsImage d.second) (sym (a.second ∙ second)) reads.1;
    output = λ before is. a.output before (shown ∙ is);
  })

  pub read_behind : {T E U F : Type 0} (first : Result T E) (v : T) (result : Result U F) (old mid new : H) (d e : Disk) → first ≡ Ok v → Opens (within area_limit) d.first.reads e.first.reads → e.second.reads ≡ d.second.reads
      → printed mid ≡ printed old → LeavesThen clock might (LeavesImages d (printed old)) (WhileOpened (within area_limit) d (printed old)) first old mid
      → LeavesOnly clock might mid new (AtFirst e (printed mid) (λ c. c ≡ e.first.reads))
      → LeavesThen clock might (LeavesImages d (printed old)) (WhileOpened (within area_limit) d (printed old)) result old new
  read_behind first v result old mid new d e was opens second shown opening reading = came_on clock might _ (WhileOpened (within area_limit) d (printed old)) result old mid new opening.moments
      (was_ok first v was opening.synced)
      (weaker clock might mid new _ _ reading (λ l a. record {
        first = subst (IsOpening (within area_limit) d.first.reads) (sym a.first) (is_opening d.first.reads e.first.reads opens);
        second = a.second ∙ second;
        output = λ before is. a.output before (shown ∙ is);
      }))

-- ---- what the store has

module _ (disk : Option Disk) (log : LogState) (l : Loading) (loaded : Loaded) (s : StoreState) (all : HasReadAll disk log l) (has : HasAllOf l loaded) (is : s ≡ record { used = log.end; transactions = l.transactions }) where
  used_is : s.used ≡ used all.history
  used_is = ap (λ (t : StoreState). t.used) is ∙ all.place

  count_is : s.transactions ≡ transaction_count all.history
  count_is = ap (λ (t : StoreState). t.transactions) is ∙ all.keeps.transactions

  pub has_numbers : HasNumbersOf s loaded
  has_numbers = record {
    history = all.history;
    loaded = is_loaded l loaded all.history has all.keeps;
    uncrowded = few_uncrowded all.history l.individuals l.rows all.keeps.rows all.keeps.few;
    used_is = used_is;
    count = count_is;
  }

  pub loads_from : (d e : Disk) → disk ≡ Some e → Opens (within area_limit) d.first.reads e.first.reads → LoadsFrom d.first.reads e s loaded
  loads_from d e told opens =
      let a = all.area e told in
      record {
        history = all.history;
        kept = kept_before d.first.reads e.first.reads opens all.history a.1;
        stands = record { at_end = record { is_settled = a.0; held = a.1; place = used_is }; count = count_is };
        loaded = is_loaded l loaded all.history has all.keeps;
      }

-- what is said of a fault is said of the answer that hands it on
pub err_same : {T : Type 0} (result : Result T LoadFault) (f : LoadFault) (Q : LoadFault → Type 0) → IsErrAnd result (λ e. e ≡ f) → Q f → IfErr result Q
err_same (Ok v) f Q is says = tt
err_same (Err e) f Q is says = subst Q (sym is) says
