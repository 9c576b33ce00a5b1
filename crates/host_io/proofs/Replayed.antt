-- One call more behind those that a host in memory went through.
use Rattle.std.proofs.Common.{◌≡◌, ◌≤◌, ◌++◌, ◌∷◌, [], ℕ, Bool, true, false, List, length, take, min, refl, sym, ◌∙◌, ap, subst, arith, if◌then◌else◌, ◌==◌, Result, Ok, Err, OnOk, OnErr}
use Rattle.host_io.specs.Disk.{Area, put, area_of, with_area}
use Rattle.host_io.specs.Memory.{Keeps, bytes_of, with_bytes}
use Rattle.host_io.specs.Replay.{State, begin, after, replay, written, cut_to}
use Rattle.host_io.specs.declared.areas.Areas.{Areas}
use Rattle.host_io.specs.declared.call.Call.{Call}
use Rattle.host_io.specs.declared.call.Call.TheVariants.{Write, Cut, Sync, Print}

pub replay-push : (s : State) (calls : List Call) (call : Call) → replay s (calls ++ call ∷ []) ≡ after (replay s calls) call
replay-push s [] call = refl
replay-push s (c ∷ calls) call = replay-push (after s c) calls call

-- an area reads as the host has it
pub area_reads : (s : State) (areas : Areas) (printed : List ℕ) (k : ℕ) → Keeps s areas printed → (area_of s.disk k).reads ≡ bytes_of areas k
area_reads s areas printed k h = elim (k == 0) as (λ t. let a : Area = if t then s.disk.first else s.disk.second in a.reads ≡ (if t then areas.first else areas.second)) [ true ↦ h.first | false ↦ h.second ]

-- one area is exchanged
exchanged : (s : State) (areas : Areas) (printed : List ℕ) (k : ℕ) (a : Area) (bytes : List ℕ) → Keeps s areas printed → a.reads ≡ bytes
    → Keeps (record { disk = with_area s.disk k a; printed = s.printed }) (with_bytes areas k bytes) printed
exchanged s areas printed k a bytes h is = elim (k == 0) as (λ t. Keeps (record { disk = if t then (record s.disk { first = a }) else (record s.disk { second = a }); printed = s.printed }) (if t then (record areas { first = bytes }) else (record areas { second = bytes })) printed) [
  | true ↦ record { first = is; second = h.second; shown = h.shown }
  | false ↦ record { first = h.first; second = is; shown = h.shown }
]

-- one area is touched, and reads as before
touched : (s : State) (areas : Areas) (printed : List ℕ) (k : ℕ) (change : Area → Area) → ((a : Area) → (change a).reads ≡ a.reads) → Keeps s areas printed
    → Keeps (record { disk = with_area s.disk k (change (area_of s.disk k)); printed = s.printed }) areas printed
touched s areas printed k change same h = elim (k == 0) as (λ t. Keeps (record { disk = if t then (record s.disk { first = change (if t then s.disk.first else s.disk.second) }) else (record s.disk { second = change (if t then s.disk.first else s.disk.second) }); printed = s.printed }) areas printed) [
  | true ↦ record { first = same s.disk.first ∙ h.first; second = h.second; shown = h.shown }
  | false ↦ record { first = h.first; second = same s.disk.second ∙ h.second; shown = h.shown }
]

place_within : (at : ℕ) (bytes : List ℕ) → at ≤ length bytes → min at (length bytes) ≡ at
place_within at bytes le = omega arith

pub keeps_write : (s : State) (areas : Areas) (printed : List ℕ) (k at : ℕ) (bytes : List ℕ) (done : Bool) → at ≤ length (bytes_of areas k) → Keeps s areas printed
    → Keeps (after s (Write k at bytes done)) (if done then with_bytes areas k (put at bytes (bytes_of areas k)) else areas) printed
keeps_write s areas printed k at bytes true le h =
    let reads = area_reads s areas printed k h in
    let place : min at (length (area_of s.disk k).reads) ≡ at = ap (λ (b : List ℕ). min at (length b)) reads ∙ place_within at (bytes_of areas k) le in
    exchanged s areas printed k (written true at bytes (area_of s.disk k)) (put at bytes (bytes_of areas k)) h
    (ap (λ (n : ℕ). put n bytes (area_of s.disk k).reads) place ∙ ap (put at bytes) reads)
keeps_write s areas printed k at bytes false le h = touched s areas printed k (written false at bytes) (λ a. refl) h

pub keeps_cut : (s : State) (areas : Areas) (printed : List ℕ) (k len : ℕ) (done : Bool) → Keeps s areas printed
    → Keeps (after s (Cut k len done)) (if done then with_bytes areas k (take len (bytes_of areas k)) else areas) printed
keeps_cut s areas printed k len true h = exchanged s areas printed k (cut_to true len (area_of s.disk k)) (take len (bytes_of areas k)) h (ap (take len) (area_reads s areas printed k h))
keeps_cut s areas printed k len false h = touched s areas printed k (cut_to false len) (λ a. refl) h

pub keeps_sync : (s : State) (areas : Areas) (printed : List ℕ) (done : Bool) → Keeps s areas printed → Keeps (after s (Sync done)) areas printed
keeps_sync s areas printed true h = record { first = h.first; second = h.second; shown = h.shown }
keeps_sync s areas printed false h = record { first = h.first; second = h.second; shown = h.shown }

pub keeps_print : (s : State) (areas : Areas) (printed bytes : List ℕ) (done : Bool) → Keeps s areas printed → Keeps (after s (Print bytes done)) areas (if done then printed ++ bytes else printed)
keeps_print s areas printed bytes true h = record { first = h.first; second = h.second; shown = ap (λ (l : List ℕ). l ++ bytes) h.shown }
keeps_print s areas printed bytes false h = h

-- A call was kept, or nothing has changed. The areas and what is printed are as the call leaves them.
pub keeps_next : {T E : Type 0} (result : Result T E) (given given' : Areas) (calls calls' : List Call) (call : Call) (areas areas' next : Areas) (printed printed' shown : List ℕ)
    → given' ≡ given → OnOk result (calls' ≡ calls ++ call ∷ []) → OnErr result (calls' ≡ calls)
    → OnOk result (areas' ≡ next) → OnErr result (areas' ≡ areas) → OnOk result (printed' ≡ shown) → OnErr result (printed' ≡ printed)
    → Keeps (replay (begin given) calls) areas printed → Keeps (after (replay (begin given) calls) call) next shown
    → Keeps (replay (begin given') calls') areas' printed'
keeps_next (Ok v) given given' calls calls' call areas areas' next printed printed' shown same kept _ there _ out _ before now =
    let state : replay (begin given') calls' ≡ after (replay (begin given) calls) call = ap (λ (g : Areas). replay (begin g) calls') same ∙ ap (replay (begin given)) kept ∙ replay-push (begin given) calls call in
    subst (λ (x : State). Keeps x areas' printed') (sym state)
    (subst (λ (a : Areas). Keeps (after (replay (begin given) calls) call) a printed') (sym there)
    (subst (λ (p : List ℕ). Keeps (after (replay (begin given) calls) call) next p) (sym out) now))
keeps_next (Err e) given given' calls calls' call areas areas' next printed printed' shown same _ kept _ there _ out before now =
    let state : replay (begin given') calls' ≡ replay (begin given) calls = ap (λ (g : Areas). replay (begin g) calls') same ∙ ap (replay (begin given)) kept in
    subst (λ (x : State). Keeps x areas' printed') (sym state)
    (subst (λ (a : Areas). Keeps (replay (begin given) calls) a printed') (sym there)
    (subst (λ (p : List ℕ). Keeps (replay (begin given) calls) areas p) (sym out) before))

pub on_ok : {T E : Type 0} (result : Result T E) {P : Type 0} → P → OnOk result P
on_ok (Ok v) p = p
on_ok (Err e) p = tt

pub on_err : {T E : Type 0} (result : Result T E) {P : Type 0} → P → OnErr result P
on_err (Ok v) p = tt
on_err (Err e) p = p

-- a call was kept that leaves what a read gives and what was printed, or nothing has changed
pub keeps_same : {T E : Type 0} (result : Result T E) (given given' : Areas) (calls calls' : List Call) (call : Call) (areas : Areas) (printed : List ℕ)
    → given' ≡ given → OnOk result (calls' ≡ calls ++ call ∷ []) → OnErr result (calls' ≡ calls)
    → Keeps (replay (begin given) calls) areas printed → Keeps (after (replay (begin given) calls) call) areas printed
    → Keeps (replay (begin given') calls') areas printed
keeps_same result given given' calls calls' call areas printed same ok err before now =
    keeps_next result given given' calls calls' call areas areas areas printed printed printed same ok err (on_ok result refl) (on_err result refl) (on_ok result refl) (on_err result refl) before now
