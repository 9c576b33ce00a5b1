-- Calls of a host in memory that are gone through again.
use Rattle.std.proofs.Common.{◌≡◌, ◌<◌, ◌+◌, ◌++◌, ◌∷◌, [], ℕ, true, List, length, take, get_or, add-one, refl, sym, ◌∙◌, ap, subst, arith, ⊎_elim}
use Rattle.std.proofs.Math.Seq.{take-suc}
use Rattle.std.proofs.lemmas.Bool.{cases_lt}
use Rattle.host_io.specs.Disk.{Area, IsImage, IsSettled}
use Rattle.host_io.specs.Reached.{IsSound, AreSound, reached, sound_after}
use Rattle.host_io.specs.Replay.{State, AreImages, LeavesInside, begin, after, replay}
use Rattle.host_io.specs.Stop.{IsFilled, IsStop, found_inside}
use Rattle.host_io.specs.declared.areas.Areas.{Areas}
use Rattle.host_io.specs.declared.call.Call.{Call}
use Rattle.host_io.specs.declared.call.Call.TheVariants.{Quiet, Write, Cut, Sync, Print}
use Rattle.host_io.proofs.Replayed.{replay-push}
use Rattle.host_io.proofs.Stepped.{shows_none}

-- the next call
pub replay-next : (s : State) (calls : List Call) (i : ℕ) (call : Call) → i < length calls → call ≡ get_or calls i call → replay s (take (i + 1) calls) ≡ after (replay s (take i calls)) call
replay-next s calls i call lt is =
    let front : take (i + 1) calls ≡ take i calls ++ call ∷ [] = rw (add-one, take-suc calls i call lt) (ap (λ (c : Call). take i calls ++ c ∷ []) (sym is)) in
    ap (replay s) front ∙ replay-push s (take i calls) call

-- behind a sync that succeeded the disk is settled
pub settled_next : (given : Areas) (calls : List Call) (i : ℕ) (call : Call) → i < length calls → call ≡ get_or calls i call → call ≡ Sync true → IsSettled (replay (begin given) (take (i + 1) calls)).disk
settled_next given calls i call lt is sync =
    subst (λ (x : State). IsSettled x.disk) (sym (replay-next (begin given) calls i call lt is ∙ ap (after (replay (begin given) (take i calls))) sync)) (record { first = refl; second = refl })

pub replay-append : (s : State) (first second : List Call) → replay s (first ++ second) ≡ replay (replay s first) second
replay-append s [] second = refl
replay-append s (call ∷ first) second = replay-append (after s call) first second

-- ---- that it is an image

filled_image : (fill keep : ℕ) (a : Area) (bytes : List ℕ) → IsSound a → IsFilled fill keep a bytes → IsImage a bytes
filled_image fill keep a bytes sound is = record {
  no_shorter = omega (arith, is.length_is, sound.least, sound.greatest);
  no_longer = omega (arith, is.length_is);
  outside = λ i lt out. ⊎_elim
      (λ within. is.old i lt within out)
      (λ behind. absurd (sound.covered i behind (omega (arith, lt, is.length_is)) out))
      (cases_lt i (length a.synced));
}

found_sound : (s : State) (call : Call) → AreSound s.disk → AreSound (found_inside s call)
found_sound s Quiet sound = sound
found_sound s (Write area at bytes done) sound = sound_after s (Write area at bytes done) sound
found_sound s (Cut area len done) sound = sound_after s (Cut area len done) sound
found_sound s (Sync done) sound = sound
found_sound s (Print bytes done) sound = sound

leaves_inside : (s : State) (call : Call) (first second printed : List ℕ) → AreImages (found_inside s call) (record { first = first; second = second; printed = printed }) → printed ≡ s.printed
    → LeavesInside s call (record { first = first; second = second; printed = printed })
leaves_inside s Quiet first second printed images is = record { images = images; output = is }
leaves_inside s (Write area at bytes done) first second printed images is = record { images = images; output = is }
leaves_inside s (Cut area len done) first second printed images is = record { images = images; output = is }
leaves_inside s (Sync done) first second printed images is = record { images = images; output = is }
leaves_inside s (Print bytes done) first second printed images is = record { images = images; output = shows_none s.printed bytes printed is }

-- what stop gives is what a stop inside the call may leave
pub stop_image : (given : Areas) (before : List Call) (call : Call) (fill keep : ℕ) (areas : Areas) (printed : List ℕ) → IsStop (replay (begin given) before) call fill keep areas printed
    → LeavesInside (replay (begin given) before) call (record { first = areas.first; second = areas.second; printed = printed })
stop_image given before call fill keep areas printed is =
    let s = replay (begin given) before in
    let sound = found_sound s call (reached given before) in
    leaves_inside s call areas.first areas.second printed
    (record {
      first = filled_image fill keep (found_inside s call).first areas.first sound.first is.first;
      second = filled_image fill keep (found_inside s call).second areas.second sound.second is.second;
    })
    is.output
