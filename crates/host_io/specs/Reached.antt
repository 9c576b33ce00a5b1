-- What holds of each state that calls on a host in memory lead to: the proofs of its laws.
use Rattle.std.specs.Prelude.{◌≡◌, ◌≤◌, ◌<◌, ◌+◌, ◌-◌, ◌==◌, ℕ, zero, suc, Bool, true, false, List, [], ◌∷◌, ◌++◌, length, get_or, take, drop, min, max, if◌then◌else◌, Some, refl}
use Rattle.std.proofs.Common.{inl, ⊎_elim, subst, sym, ◌∙◌, ap, arith, append_assoc, length-append}
use Rattle.std.proofs.lemmas.List.{get_or-take, get_or-drop, get_or-append_right, length-drop, take-append-le}
use Rattle.std.proofs.Math.ListN.{length-take}
use Rattle.host_io.specs.Disk.{Area, Disk, IsImage, IsOutside, at_rest, put, touch, shorten, area_of, with_area}
use Rattle.host_io.specs.Moments.{Left, Leaves, IsShown}
use Rattle.host_io.specs.Replay.{State, begin, after, replay, written, cut_to, LeavesNow, LeavesSince, MightLeave}
use Rattle.host_io.specs.declared.areas.Areas.{Areas}
use Rattle.host_io.specs.declared.call.Call.{Call}
use Rattle.host_io.specs.declared.call.Call.TheVariants.{Quiet, Write, Cut, Sync, Print}

-- ---- what a read gives is an image

-- What a read gives is an image, the length at the last sync lies between the least and the greatest since, and each place
-- behind it was touched.
pub record IsSound (a : Area) : Type 0 where
  pub image : IsImage a a.reads
  pub least : a.least ≤ length a.synced
  pub greatest : length a.synced ≤ a.greatest
  pub covered : (i : ℕ) → length a.synced ≤ i → i < a.greatest → IsOutside a.touched i → ⊥

sound_rest : (bytes : List ℕ) → IsSound (at_rest bytes)
sound_rest bytes = record {
  image = record { no_shorter = omega arith; no_longer = omega arith; outside = λ i lt out. refl };
  least = omega arith;
  greatest = omega arith;
  covered = λ i le lt out. omega (arith, le, lt);
}

sound_touch : (at n : ℕ) (reads : List ℕ) (a : Area) → at ≤ length a.reads → IsImage (touch at n reads a) reads → IsSound a → IsSound (touch at n reads a)
sound_touch at n reads a le image s = record {
  image = image;
  least = s.least;
  greatest = omega (arith, s.greatest);
  covered = λ i behind lt out. ⊎_elim
      (λ below. s.covered i behind (omega (arith, below, le, s.image.no_longer)) out.1)
      (λ past. s.covered i behind (omega (arith, past, lt)) out.1)
      out.0;
}

-- ranges that were touched take nothing from the images
touched_image : (at n : ℕ) (reads : List ℕ) (a : Area) (bytes : List ℕ) → IsImage a bytes → IsImage (touch at n reads a) bytes
touched_image at n reads a bytes image = record { no_shorter = image.no_shorter; no_longer = omega (arith, image.no_longer); outside = λ i lt out. image.outside i lt out.1 }

pub take_take : (n m : ℕ) (xs : List ℕ) → n ≤ m → take n (take m xs) ≡ take n xs
take_take zero m xs le = refl
take_take (suc n) zero xs le = absurd (omega arith)
take_take (suc n) (suc m) [] le = refl
take_take (suc n) (suc m) (x ∷ xs) le = ap (λ (l : List ℕ). x ∷ l) (take_take n m xs (omega arith))

-- bytes that are put at a place leave what is before it
pub front_put : (n at : ℕ) (bytes old : List ℕ) → n ≤ at → n ≤ length old → take n (put at bytes old) ≡ take n old
front_put n at bytes old le long =
    ap (take n) (append_assoc (take at old) bytes (drop (at + length bytes) old))
    ∙ take-append-le n (take at old) (bytes ++ drop (at + length bytes) old) (omega (arith, length-take at old))
    ∙ take_take n at old le

pub length-put : (at : ℕ) (bytes old : List ℕ) → at ≤ length old → length (put at bytes old) ≡ max (length old) (at + length bytes)
length-put at bytes old le = omega (arith, length-append (take at old ++ bytes) (drop (at + length bytes) old), length-append (take at old) bytes, length-take at old, length-drop (at + length bytes) old)

pub put_image : (at : ℕ) (bytes : List ℕ) (a : Area) → at ≤ length a.reads → IsImage a a.reads → IsImage (touch at (length bytes) (put at bytes a.reads) a) (put at bytes a.reads)
put_image at bytes a le image = record {
  no_shorter = omega (arith, image.no_shorter, length-put at bytes a.reads le);
  no_longer = omega (arith, image.no_longer, length-put at bytes a.reads le);
  outside = λ i lt out. ⊎_elim
      (λ below. same i below ∙ image.outside i (omega (arith, le, below)) out.1)
      (λ behind. past i behind (omega (arith, lt, length-put at bytes a.reads le, behind)) ∙ image.outside i (omega (arith, lt, length-put at bytes a.reads le, behind)) out.1)
      out.0;
}
  where
    same : (i : ℕ) → i < at → get_or (put at bytes a.reads) i 0 ≡ get_or a.reads i 0
    same i below =
        sym (get_or-take at (put at bytes a.reads) i 0 below) ∙ ap (λ (l : List ℕ). get_or l i 0) (front_put at at bytes a.reads (omega arith) le) ∙ get_or-take at a.reads i 0 below

    past : (i : ℕ) → at + length bytes ≤ i → i < length a.reads → get_or (put at bytes a.reads) i 0 ≡ get_or a.reads i 0
    past i behind lt =
        get_or-append_right (take at a.reads ++ bytes) (drop (at + length bytes) a.reads) (at + length bytes) i 0 (omega (arith, length-append (take at a.reads) bytes, length-take at a.reads, le)) behind
        ∙ get_or-drop (at + length bytes) a.reads (i - (at + length bytes)) 0
        ∙ ap (λ j. get_or a.reads j 0) (omega (arith, behind))

pub sound_write : (done : Bool) (at : ℕ) (bytes : List ℕ) (a : Area) → IsSound a → IsSound (written done at bytes a)
sound_write true at bytes a s =
    let place = min at (length a.reads) in
    let within : place ≤ length a.reads = omega arith in
    sound_touch place (length bytes) (put place bytes a.reads) a within (put_image place bytes a within s.image) s
sound_write false at bytes a s =
    let place = min at (length a.reads) in
    sound_touch place (length bytes) a.reads a (omega arith) (touched_image place (length bytes) a.reads a a.reads s.image) s

-- what was cut takes nothing from the images
cut_image : (n : ℕ) (reads : List ℕ) (a : Area) (bytes : List ℕ) → IsImage a bytes → IsImage (shorten n reads a) bytes
cut_image n reads a bytes image = record { no_shorter = omega (arith, image.no_shorter); no_longer = image.no_longer; outside = λ i lt out. image.outside i lt out.1 }

shorter_image : (n : ℕ) (a : Area) → IsImage a a.reads → IsImage (shorten n (take n a.reads) a) (take n a.reads)
shorter_image n a image = record {
  no_shorter = omega (arith, image.no_shorter, length-take n a.reads);
  no_longer = omega (arith, image.no_longer, length-take n a.reads);
  outside = λ i lt out. get_or-take n a.reads i 0 (omega (arith, lt, length-take n a.reads)) ∙ image.outside i (omega (arith, lt, length-take n a.reads)) out.1;
}

sound_shorten : (n : ℕ) (reads : List ℕ) (a : Area) → IsImage (shorten n reads a) reads → IsSound a → IsSound (shorten n reads a)
sound_shorten n reads a image s = record {
  image = image;
  least = omega (arith, s.least);
  greatest = s.greatest;
  covered = λ i behind lt out. s.covered i behind lt out.1;
}

pub sound_cut : (done : Bool) (n : ℕ) (a : Area) → IsSound a → IsSound (cut_to done n a)
sound_cut true n a s = sound_shorten n (take n a.reads) a (shorter_image n a s.image) s
sound_cut false n a s = sound_shorten n a.reads a (cut_image n a.reads a a.reads s.image) s

-- both areas are sound
pub record AreSound (disk : Disk) : Type 0 where
  pub first : IsSound disk.first
  pub second : IsSound disk.second

-- one area is exchanged
sound_with : (d : Disk) (k : ℕ) (change : Area → Area) → ((a : Area) → IsSound a → IsSound (change a)) → AreSound d → AreSound (with_area d k (change (area_of d k)))
sound_with d k change keeps s = elim (k == 0) as (λ t. AreSound (if t then (record d { first = change (if t then d.first else d.second) }) else (record d { second = change (if t then d.first else d.second) }))) [
  | true ↦ record { first = keeps d.first s.first; second = s.second }
  | false ↦ record { first = s.first; second = keeps d.second s.second }
]

pub sound_after : (s : State) (call : Call) → AreSound s.disk → AreSound (after s call).disk
sound_after s Quiet sound = sound
sound_after s (Write area at bytes done) sound = sound_with s.disk area (written done at bytes) (sound_write done at bytes) sound
sound_after s (Cut area len done) sound = sound_with s.disk area (cut_to done len) (sound_cut done len) sound
sound_after s (Sync true) sound = record { first = sound_rest s.disk.first.reads; second = sound_rest s.disk.second.reads }
sound_after s (Sync false) sound = sound
sound_after s (Print bytes done) sound = sound

sound_replay : (s : State) (calls : List Call) → AreSound s.disk → AreSound (replay s calls).disk
sound_replay s [] sound = sound
sound_replay s (call ∷ calls) sound = sound_replay (after s call) calls (sound_after s call sound)

pub reached : (given : Areas) (calls : List Call) → AreSound (replay (begin given) calls).disk
reached given calls = sound_replay (begin given) calls (record { first = sound_rest given.first; second = sound_rest given.second })

pub reads_image : (given : Areas) (calls : List Call) (d : Disk) → Some (replay (begin given) calls).disk ≡ Some d → IsImage d.first d.first.reads × IsImage d.second d.second.reads
reads_image given calls d is =
    let s = reached given calls in
    subst (λ (x : Disk). IsImage x.first x.first.reads × IsImage x.second x.second.reads) (same_some is) (s.first.image, s.second.image)
  where
    same_some : {A : Type 0} {x y : A} → Some x ≡ Some y → x ≡ y
    same_some is = cc

-- ---- the present, and the moments before it

none_since : (s : State) (calls : List Call) (left : Left) → LeavesSince (length calls) s calls left → ⊥
none_since s [] left there = there
none_since s (call ∷ calls) left there = none_since (after s call) calls left there

-- as a host in memory has the present, and as the trait has it
pub now_told : (s : State) (left : Left) → LeavesNow s left → Leaves (Some s.disk) (IsShown (Some s.printed)) left
now_told s left now = record {
  areas = λ d is. subst (λ (x : Disk). IsImage x.first left.first × IsImage x.second left.second) (same_some is) (now.images.first, now.images.second);
  output = λ before is. now.output ∙ same_some is;
}
  where
    same_some : {A : Type 0} {x y : A} → Some x ≡ Some y → x ≡ y
    same_some is = cc

pub told_now : (s : State) (left : Left) → Leaves (Some s.disk) (IsShown (Some s.printed)) left → LeavesNow s left
told_now s left told =
    let both = told.areas s.disk refl in
    record { images = record { first = both.0; second = both.1 }; output = told.output s.printed refl }

pub counted : (s : State) (calls : List Call) (moment : ℕ) (left : Left) → Leaves (Some (replay s calls).disk) (IsShown (Some (replay s calls).printed)) left → MightLeave s calls moment left
counted s calls moment left told = inl (told_now (replay s calls) left told)

pub nothing_since : (s : State) (calls : List Call) (left : Left) → MightLeave s calls (length calls) left → Leaves (Some (replay s calls).disk) (IsShown (Some (replay s calls).printed)) left
nothing_since s calls left might = now_told (replay s calls) left (⊎_elim (λ now. now) (λ since. absurd (none_since s calls left since)) might)
