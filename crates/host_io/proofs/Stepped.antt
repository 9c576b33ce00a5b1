-- One call of a host in memory, as the trait has it.
use Rattle.std.proofs.Common.{◌≡◌, ◌⊎◌, ◌≤◌, ◌==◌, ◌++◌, ◌∷◌, [], inl, inr, ⊎_elim, ℕ, zero, suc, Bool, true, false, List, length, min, refl, sym, ◌∙◌, ap, subst, arith, if◌then◌else◌, length-append, Some, None, Result, Ok, Err, OnOk}
use Rattle.std.proofs.lemmas.List.{append-nil}
use Rattle.host_io.specs.Disk.{Area, Disk, IsImage, OnArea, Writes, Cuts, TakesStep, put, touch, area_of, with_area}
use Rattle.host_io.specs.Host.{Prints, ShowsFront}
use Rattle.host_io.specs.Memory.{HostState, Went, clock_of, disk_failed, disk_of, might_of, print_failed, printed_of, state_of, with_call, with_lack}
use Rattle.host_io.specs.Moments.{Elapses, IsShowing, IsShown, Leaves, Left}
use Rattle.host_io.specs.Reached.{now_told}
use Rattle.host_io.specs.Replay.{State, begin, after, replay, written, cut_to, AreImages, LeavesNow, LeavesInPrint, LeavesInside, LeavesSince, MightLeave}
use Rattle.host_io.specs.declared.call.Call.{Call}
use Rattle.host_io.specs.declared.call.Call.TheVariants.{Quiet, Write, Cut, Sync, Print}
use Rattle.host_io.proofs.Replayed.{replay-push}

same_some : {A : Type 0} {x y : A} → Some x ≡ Some y → x ≡ y
same_some is = cc

never_none : {A : Type 0} {x : A} → Some x ≡ None → ⊥
never_none is = cc

-- ---- moments

split : (t : ℕ) (s : State) (calls : List Call) (call : Call) (l : Left) → LeavesSince t s (calls ++ call ∷ []) l → LeavesSince t s calls l ⊎ LeavesInside (replay s calls) call l
split zero s [] call l there = ⊎_elim inr (λ none. absurd none) there
split (suc t) s [] call l none = absurd none
split zero s (c ∷ calls) call l there = ⊎_elim (λ here. inl (inl here)) (λ later. ⊎_elim (λ had. inl (inr had)) inr (split zero (after s c) calls call l later)) there
split (suc t) s (c ∷ calls) call l there = split t (after s c) calls call l there

kept : (t : ℕ) (s : State) (calls : List Call) (call : Call) (l : Left) → LeavesSince t s calls l → LeavesSince t s (calls ++ call ∷ []) l
kept t s [] call l none = absurd none
kept zero s (c ∷ calls) call l there = ⊎_elim inl (λ later. inr (kept zero (after s c) calls call l later)) there
kept (suc t) s (c ∷ calls) call l there = kept t (after s c) calls call l there

newest : (t : ℕ) (s : State) (calls : List Call) (call : Call) (l : Left) → t ≤ length calls → LeavesInside (replay s calls) call l → LeavesSince t s (calls ++ call ∷ []) l
newest zero s [] call l le here = inl here
newest (suc t) s [] call l le here = absurd (omega arith)
newest zero s (c ∷ calls) call l le here = inr (newest zero (after s c) calls call l (omega arith) here)
newest (suc t) s (c ∷ calls) call l le here = newest t (after s c) calls call l (omega arith) here

-- what a stop inside a call may leave, beside what the trait says of the states around it
pub record Fits (s : State) (call : Call) (between : Left → Type 0) : Type 0 where
  pub begins : (l : Left) → LeavesNow s l → LeavesInside s call l
  pub ends : (l : Left) → LeavesNow (after s call) l → between l
  pub told : (l : Left) → LeavesInside s call l → LeavesNow s l ⊎ between l

elapses_push : (s : State) (calls : List Call) (call : Call) (between : Left → Type 0) → Fits (replay s calls) call between
    → Elapses (length calls) (length (calls ++ call ∷ [])) (MightLeave s calls) (MightLeave s (calls ++ call ∷ [])) between
elapses_push s calls call between fits = record {
  later = omega (arith, length-append calls (call ∷ []));
  nothing_else = λ t l le since. ⊎_elim
      (λ now. inr (fits.ends l (subst (λ (x : State). LeavesNow x l) (replay-push s calls call) now)))
      (λ had. ⊎_elim (λ old. inl (inr old)) (λ inside. ⊎_elim (λ now. inl (inl now)) inr (fits.told l inside)) (split t s calls call l had))
      since;
  keeps = λ t l le past. inr (⊎_elim (λ now. newest t s calls call l le (fits.begins l now)) (kept t s calls call l) past);
}

-- what the trait says of a stop in this state
abbrev Shown : State → Left → Type 0
Shown s = Leaves (Some s.disk) (IsShown (Some s.printed))

images_with : (d : Disk) (k : ℕ) (change : Area → Area) (l : Left) → ((a : Area) (b : List ℕ) → IsImage a b → IsImage (change a) b) → AreImages d l → AreImages (with_area d k (change (area_of d k))) l
images_with d k change l grows images = elim (k == 0) as (λ t. AreImages (if t then (record d { first = change (if t then d.first else d.second) }) else (record d { second = change (if t then d.first else d.second) })) l) [
  | true ↦ record { first = grows d.first l.first images.first; second = images.second }
  | false ↦ record { first = images.first; second = grows d.second l.second images.second }
]

write_grows : (done : Bool) (at : ℕ) (bytes : List ℕ) (a : Area) (b : List ℕ) → IsImage a b → IsImage (written done at bytes a) b
write_grows done at bytes a b image = record { no_shorter = image.no_shorter; no_longer = omega (arith, image.no_longer); outside = λ i lt out. image.outside i lt out.1 }

cut_grows : (done : Bool) (n : ℕ) (a : Area) (b : List ℕ) → IsImage a b → IsImage (cut_to done n a) b
cut_grows done n a b image = record { no_shorter = omega (arith, image.no_shorter); no_longer = image.no_longer; outside = λ i lt out. image.outside i lt out.1 }

pub fits_quiet : (s : State) → Fits s Quiet (Shown s)
fits_quiet s = record { begins = λ l now. now; ends = now_told s; told = λ l now. inr (now_told s l now) }

pub fits_write : (s : State) (k at : ℕ) (bytes : List ℕ) (done : Bool) → Fits s (Write k at bytes done) (Shown (after s (Write k at bytes done)))
fits_write s k at bytes done = record {
  begins = λ l now. record { images = images_with s.disk k (written done at bytes) l (write_grows done at bytes) now.images; output = now.output };
  ends = now_told (after s (Write k at bytes done));
  told = λ l now. inr (now_told (after s (Write k at bytes done)) l now);
}

pub fits_cut : (s : State) (k n : ℕ) (done : Bool) → Fits s (Cut k n done) (Shown (after s (Cut k n done)))
fits_cut s k n done = record {
  begins = λ l now. record { images = images_with s.disk k (cut_to done n) l (cut_grows done n) now.images; output = now.output };
  ends = now_told (after s (Cut k n done));
  told = λ l now. inr (now_told (after s (Cut k n done)) l now);
}

pub fits_sync : (s : State) (done : Bool) → Fits s (Sync done) (Shown (after s (Sync done)))
fits_sync s done = record { begins = λ l now. now; ends = now_told (after s (Sync done)); told = λ l now. inl now }

pub shows_none : (before bytes seen : List ℕ) → seen ≡ before → ShowsFront before bytes (Some seen)
shows_none before bytes seen is = record { shown = []; more = bytes; whole = refl; now = ap Some is ∙ ap Some (sym (append-nil before)) }

shows_all : (before bytes seen : List ℕ) → seen ≡ before ++ bytes → ShowsFront before bytes (Some seen)
shows_all before bytes seen is = record { shown = bytes; more = []; whole = sym (append-nil bytes); now = ap Some is }

-- as a host in memory has a stop inside a print, and as the trait has it
print_told : (s : State) (bytes : List ℕ) (l : Left) → LeavesInPrint s bytes l → Leaves (Some s.disk) (IsShowing (Some s.printed) bytes) l
print_told s bytes l inside = record {
  areas = λ d is. subst (λ (x : Disk). IsImage x.first l.first × IsImage x.second l.second) (same_some is) (inside.images.first, inside.images.second);
  output = λ before is. subst (λ (x : List ℕ). ShowsFront x bytes (Some l.printed)) (same_some is) inside.output;
}

told_print : (s : State) (bytes : List ℕ) (l : Left) → Leaves (Some s.disk) (IsShowing (Some s.printed) bytes) l → LeavesInPrint s bytes l
told_print s bytes l told =
    let both = told.areas s.disk refl in
    record { images = record { first = both.0; second = both.1 }; output = told.output s.printed refl }

ended : (s : State) (bytes : List ℕ) (done : Bool) (l : Left) → LeavesNow (after s (Print bytes done)) l → LeavesInPrint s bytes l
ended s bytes true l now = record { images = now.images; output = shows_all s.printed bytes l.printed now.output }
ended s bytes false l now = record { images = now.images; output = shows_none s.printed bytes l.printed now.output }

fits_print : (s : State) (bytes : List ℕ) (done : Bool) → Fits s (Print bytes done) (Leaves (Some s.disk) (IsShowing (Some s.printed) bytes))
fits_print s bytes done = record {
  begins = λ l now. record { images = now.images; output = shows_none s.printed bytes l.printed now.output };
  ends = λ l now. print_told s bytes l (ended s bytes done l now);
  told = λ l inside. inr (print_told s bytes l inside);
}

-- ---- how a call went

-- what holds of each of the three ways in which a call may go
went_cases : {T E : Type 0} (call : Bool → Call) (failed : HostState → HostState) (old new : HostState) (result : Result T E) (P : Result T E → HostState → Type 0)
    → ((v : T) → P (Ok v) (with_call old (call true))) → ((e : E) → P (Err e) (failed (with_call old (call false)))) → ((e : E) → P (Err e) (with_lack (failed old)))
    → Went call failed old new result → P result new
went_cases call failed old new (Ok v) P done listed lack w = subst (P (Ok v)) (sym w.ok) (done v)
went_cases call failed old new (Err e) P done listed lack w = ⊎_elim (λ f. subst (P (Err e)) (sym f.now) (listed e)) (λ l. subst (P (Err e)) (sym l) (lack e)) w.err

-- ---- the trait's clauses

-- the state with one call more
stepped : (old : HostState) (call : Call) → state_of (with_call old call) ≡ after (state_of old) call
stepped old call = replay-push (begin old.given) old.calls call

no_time : (calls : ℕ) (past : ℕ → Left → Type 0) (between : Left → Type 0) → Elapses calls calls past past between
no_time calls past between = record { later = omega arith; nothing_else = λ t l le left. inl left; keeps = λ t l le left. left }

time_with : (old : HostState) (call : Call) (between : Left → Type 0) → Fits (state_of old) call between → Elapses (clock_of old) (clock_of (with_call old call)) (might_of old) (might_of (with_call old call)) between
time_with old call between fits = elapses_push (begin old.given) old.calls call between fits

takes_step : (Step : Disk → Disk → Type 0) (d e : Disk) → Step d e → TakesStep Step (Some d) (Some e)
takes_step Step d e is = record {
  told = λ x same. (e, refl, subst (λ (y : Disk). Step y e) (same_some same) is);
  untold = λ none. absurd (never_none none);
}

module _ {T E : Type 0} (call : Bool → Call) (old new : HostState) (result : Result T E) where
  pub disk_stays : ((done : Bool) → (after (state_of old) (call done)).disk ≡ (state_of old).disk) → Went call disk_failed old new result → disk_of new ≡ disk_of old
  disk_stays same w = went_cases call disk_failed old new result (λ r h. disk_of h ≡ disk_of old) (λ v. called true) (λ e. called false) (λ e. refl) w
    where
      called : (done : Bool) → disk_of (with_call old (call done)) ≡ disk_of old
      called done = ap (λ (x : State). Some x.disk) (stepped old (call done)) ∙ ap Some (same done)

  pub disk_steps : (Step : Result T E → Disk → Disk → Type 0) → ((v : T) → Step (Ok v) (state_of old).disk (after (state_of old) (call true)).disk) → ((e : E) → Step (Err e) (state_of old).disk (after (state_of old) (call false)).disk)
      → ((e : E) → Step (Err e) (state_of old).disk (state_of old).disk) → Went call disk_failed old new result → TakesStep (Step result) (disk_of old) (disk_of new)
  disk_steps Step done listed lack w = went_cases call disk_failed old new result (λ r h. TakesStep (Step r) (disk_of old) (disk_of h))
      (λ v. takes_step (Step (Ok v)) (state_of old).disk _ (moved true (Step (Ok v)) (done v)))
      (λ e. takes_step (Step (Err e)) (state_of old).disk _ (moved false (Step (Err e)) (listed e)))
      (λ e. takes_step (Step (Err e)) (state_of old).disk (state_of old).disk (lack e))
      w
    where
      moved : (done : Bool) (S : Disk → Disk → Type 0) → S (state_of old).disk (after (state_of old) (call done)).disk → S (state_of old).disk (state_of (with_call old (call done))).disk
      moved done S is = subst (λ (x : State). S (state_of old).disk x.disk) (sym (stepped old (call done))) is

  pub printed_stays : ((done : Bool) → (after (state_of old) (call done)).printed ≡ (state_of old).printed) → Went call disk_failed old new result → printed_of new ≡ printed_of old
  printed_stays same w = went_cases call disk_failed old new result (λ r h. printed_of h ≡ printed_of old) (λ v. called true) (λ e. called false) (λ e. refl) w
    where
      called : (done : Bool) → printed_of (with_call old (call done)) ≡ printed_of old
      called done = ap (λ (x : State). Some x.printed) (stepped old (call done)) ∙ ap Some (same done)

  pub disk_time : ((done : Bool) → Fits (state_of old) (call done) (Shown (after (state_of old) (call done)))) → Went call disk_failed old new result
      → Elapses (clock_of old) (clock_of new) (might_of old) (might_of new) (Leaves (disk_of new) (IsShown (printed_of new)))
  disk_time fits w = went_cases call disk_failed old new result (λ r h. Elapses (clock_of old) (clock_of h) (might_of old) (might_of h) (Leaves (disk_of h) (IsShown (printed_of h))))
      (λ v. called true) (λ e. called false) (λ e. no_time (clock_of old) (might_of old) _) w
    where
      called : (done : Bool) → let h = with_call old (call done) in Elapses (clock_of old) (clock_of h) (might_of old) (might_of h) (Leaves (disk_of h) (IsShown (printed_of h)))
      called done = subst (λ (x : State). Elapses (clock_of old) (clock_of (with_call old (call done))) (might_of old) (might_of (with_call old (call done))) (Shown x)) (sym (stepped old (call done)))
          (time_with old (call done) (Shown (after (state_of old) (call done))) (fits done))

-- ---- the steps of the disk

area_with : (d : Disk) (k : ℕ) (a : Area) → area_of (with_area d k a) k ≡ a
area_with d k a = elim (k == 0) as (λ t. let e : Disk = if t then (record d { first = a }) else (record d { second = a }) in (if t then e.first else e.second) ≡ a) [ true ↦ refl | false ↦ refl ]

with_same : (d : Disk) (k : ℕ) → d ≡ with_area d k (area_of d k)
with_same d k = elim (k == 0) as (λ t. d ≡ (if t then (record d { first = if t then d.first else d.second }) else (record d { second = if t then d.first else d.second }))) [ true ↦ refl | false ↦ refl ]

on_area : (d : Disk) (k : ℕ) (a : Area) (step : Area → Area → Type 0) → step (area_of d k) a → OnArea k step d (with_area d k a)
on_area d k a step is = record {
  changed = subst (λ (x : Area). step (area_of d k) x) (sym (area_with d k a)) is;
  other = ap (with_area d k) (sym (area_with d k a));
}

no_step : (d : Disk) (k : ℕ) (step : Area → Area → Type 0) → step (area_of d k) (area_of d k) → OnArea k step d d
no_step d k step is = record { changed = is; other = with_same d k }

place_within : (at len : ℕ) → at ≤ len → min at len ≡ at
place_within at len le = omega arith

module _ {T E : Type 0} (d : Disk) (k at : ℕ) (bytes : List ℕ) (within : at ≤ length (area_of d k).reads) where
  pub write_done : (v : T) → OnArea k (Writes {T = T} {E = E} at bytes (Ok v)) d (with_area d k (written true at bytes (area_of d k)))
  write_done v = on_area d k (written true at bytes (area_of d k)) (Writes {T = T} {E = E} at bytes (Ok v)) (record {
    ok = ap (λ (n : ℕ). touch n (length bytes) (put n bytes (area_of d k).reads) (area_of d k)) (place_within at (length (area_of d k).reads) within);
    err = tt;
  })

  pub write_listed : (e : E) → OnArea k (Writes {T = T} {E = E} at bytes (Err e)) d (with_area d k (written false at bytes (area_of d k)))
  write_listed e = on_area d k (written false at bytes (area_of d k)) (Writes {T = T} {E = E} at bytes (Err e)) (record {
    ok = tt;
    err = inr (record {
      disk = ap (λ (n : ℕ). touch n (length bytes) (area_of d k).reads (area_of d k)) (place_within at (length (area_of d k).reads) within);
      torn = record { before = refl; after = refl; no_shorter = omega arith; no_longer = omega arith };
    });
  })

  pub write_none : (e : E) → OnArea k (Writes {T = T} {E = E} at bytes (Err e)) d d
  write_none e = no_step d k (Writes {T = T} {E = E} at bytes (Err e)) (record { ok = tt; err = inl refl })

module _ {T E : Type 0} (d : Disk) (k len : ℕ) (within : len ≤ length (area_of d k).reads) where
  pub cut_done : (v : T) → OnArea k (Cuts {T = T} {E = E} len (Ok v)) d (with_area d k (cut_to true len (area_of d k)))
  cut_done v = on_area d k (cut_to true len (area_of d k)) (Cuts {T = T} {E = E} len (Ok v)) (record { ok = refl; err = tt })

  pub cut_listed : (e : E) → OnArea k (Cuts {T = T} {E = E} len (Err e)) d (with_area d k (cut_to false len (area_of d k)))
  cut_listed e = on_area d k (cut_to false len (area_of d k)) (Cuts {T = T} {E = E} len (Err e)) (record {
    ok = tt;
    err = inr (record { disk = refl; before = refl; no_shorter = within; no_longer = omega arith });
  })

  pub cut_none : (e : E) → OnArea k (Cuts {T = T} {E = E} len (Err e)) d d
  cut_none e = no_step d k (Cuts {T = T} {E = E} len (Err e)) (record { ok = tt; err = inl refl })

-- ---- a print

prints_done : {T E : Type 0} (v : T) (before bytes : List ℕ) → Prints {T = T} {E = E} bytes (Ok v) (Some before) (Some (before ++ bytes))
prints_done v before bytes = record {
  ok = λ p is. ap (λ (x : List ℕ). Some (x ++ bytes)) (same_some is);
  told = λ p is. subst (λ (x : List ℕ). ShowsFront x bytes (Some (before ++ bytes))) (same_some is) (shows_all before bytes (before ++ bytes) refl);
  untold = λ none. absurd (never_none none);
}

prints_none : {T E : Type 0} (e : E) (before bytes : List ℕ) → Prints {T = T} {E = E} bytes (Err e) (Some before) (Some before)
prints_none e before bytes = record {
  ok = tt;
  told = λ p is. subst (λ (x : List ℕ). ShowsFront x bytes (Some before)) (same_some is) (shows_none before bytes before refl);
  untold = λ none. absurd (never_none none);
}

module _ {T E : Type 0} (bytes : List ℕ) (old new : HostState) (result : Result T E) (w : Went (Print bytes) print_failed old new result) where
  pub print_disk : disk_of new ≡ disk_of old
  print_disk = went_cases (Print bytes) print_failed old new result (λ r h. disk_of h ≡ disk_of old)
      (λ v. ap (λ (x : State). Some x.disk) (stepped old (Print bytes true))) (λ e. ap (λ (x : State). Some x.disk) (stepped old (Print bytes false))) (λ e. refl) w

  pub print_printed : Prints bytes result (printed_of old) (printed_of new)
  print_printed = went_cases (Print bytes) print_failed old new result (λ r h. Prints bytes r (printed_of old) (printed_of h))
      (λ v. subst (λ (x : State). Prints {E = E} bytes (Ok v) (printed_of old) (Some x.printed)) (sym (stepped old (Print bytes true))) (prints_done v (state_of old).printed bytes))
      (λ e. subst (λ (x : State). Prints {T = T} bytes (Err e) (printed_of old) (Some x.printed)) (sym (stepped old (Print bytes false))) (prints_none e (state_of old).printed bytes))
      (λ e. prints_none e (state_of old).printed bytes) w

  pub print_time : Elapses (clock_of old) (clock_of new) (might_of old) (might_of new) (Leaves (disk_of old) (IsShowing (printed_of old) bytes))
  print_time = went_cases (Print bytes) print_failed old new result (λ r h. Elapses (clock_of old) (clock_of h) (might_of old) (might_of h) (Leaves (disk_of old) (IsShowing (printed_of old) bytes)))
      (λ v. time_with old (Print bytes true) _ (fits_print (state_of old) bytes true)) (λ e. time_with old (Print bytes false) _ (fits_print (state_of old) bytes false)) (λ e. no_time (clock_of old) (might_of old) _) w

  pub print_fronts : OnOk result ((moment : ℕ) (left : Left) → moment ≤ clock_of old → Leaves (disk_of old) (IsShowing (printed_of old) bytes) left → might_of new moment left)
  print_fronts = went_cases (Print bytes) print_failed old new result (λ r h. OnOk r ((moment : ℕ) (left : Left) → moment ≤ clock_of old → Leaves (disk_of old) (IsShowing (printed_of old) bytes) left → might_of h moment left))
      (λ v moment left le leaves. inr (newest moment (begin old.given) old.calls (Print bytes true) left le (told_print (state_of old) bytes left leaves))) (λ e. tt) (λ e. tt) w

-- ---- what a read gives

-- an area reads as it did before a call that leaves the disk
pub still_reads : (old new : HostState) (k : ℕ) → disk_of new ≡ disk_of old → (d : Disk) → disk_of old ≡ Some d → (area_of (state_of new).disk k).reads ≡ (area_of d k).reads
still_reads old new k same d told = ap (λ (x : Disk). (area_of x k).reads) (same_some (same ∙ told))
