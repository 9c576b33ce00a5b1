-- What a refusal to keep an entry says.
use Rattle.std.specs.Prelude.{◌≡◌, ℕ}
use Rattle.base_store.specs.Store.{StoreState}
use Rattle.base_store.specs.declared.store.KeepFault.{KeepFault}
use Rattle.base_store.specs.declared.store.KeepFault.TheVariants.{DiskFault, Full, NoMemory}

abbrev pub IsStoreFull : KeepFault → Type 0
IsStoreFull DiskFault = ⊥
IsStoreFull (Full store end size) = Unit {0}
IsStoreFull (NoMemory store) = ⊥

-- the store is handed back, as it was, and where there is no room also the place behind its history and the entry's size
abbrev pub HandsBack : StoreState → ℕ → KeepFault → Type 0
HandsBack old n DiskFault = ⊥
HandsBack old n (Full store end size) = (store ≡ old) × (end ≡ old.used) × (size ≡ n)
HandsBack old n (NoMemory store) = store ≡ old
