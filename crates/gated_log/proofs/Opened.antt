-- An area is opened: a sync, and then what is done on a disk whose areas are all on it.
use Rattle.std.proofs.Common.{◌≡◌, ◌⊎◌, ◌∙◌, inl, inr, ⊎_elim, ℕ, List, refl, sym, subst, Option, Some}
use Rattle.std.specs.Prelude.{Result, IsErrAnd}
use Rattle.host_io.specs.Disk.{Disk, IsImage, settled}
use Rattle.host_io.specs.Moments.{Left, Leaves, Elapses, LeavesOnly, IsShown}
use Rattle.host_io.proofs.Moments.{started, goes_on, joined}
use Rattle.host_io.proofs.Settled.{at_rest_image}
use Rattle.gated_log.specs.Entries.{Bounds, IsFresh}
use Rattle.gated_log.specs.Stops.{AtFirst, AtOpening, HoldsNothing, IsOpening, LeavesImages, LeavesAtLast, LeavesThen, WhileOpened}
use Rattle.gated_log.proofs.Since.{came, fell_short}

module _ {H : Type 0} (disk : H → Option Disk) (printed : H → Option (List ℕ)) (clock : H → ℕ) (might : H → ℕ → Left → Type 0) where
  pub opened : (b : Bounds) (old mid new : H) (d : Disk) → disk old ≡ Some d → disk mid ≡ Some (settled d) → printed mid ≡ printed old
      → ((l : Left) → might old (clock old) l → Leaves (disk old) (IsShown (printed old)) l) → IsImage d.first d.first.reads × IsImage d.second d.second.reads
      → Elapses (clock old) (clock mid) (might old) (might mid) (Leaves (disk mid) (IsShown (printed mid)))
      → LeavesOnly clock might mid new (AtFirst (settled d) (printed mid) (λ c. (c ≡ d.first.reads) ⊎ (IsFresh d.first.reads × HoldsNothing b c)))
      → LeavesOnly clock might old new (AtOpening b d (printed old))
  opened b old mid new d told told_mid shown only_now reads time run =
      let P : Left → Type 0 = AtOpening b d (printed old) in
      let start : LeavesOnly clock might old old P = started clock might old P (λ l left.
      let now = only_now l left in
      let images = now.areas d told in
      record { first = inl images.0; second = images.1; output = now.output }) in
      let synced : LeavesOnly clock might old mid P = goes_on clock might old old mid P _ start time (λ l left.
      let images = left.areas (settled d) told_mid in
      record {
        first = inl (subst (IsImage d.first) (sym (at_rest_image d.first.reads l.first images.0)) reads.0);
        second = subst (IsImage d.second) (sym (at_rest_image d.second.reads l.second images.1)) reads.1;
        output = λ before is. left.output before (shown ∙ is);
      }) in
      joined clock might old mid new P _ P synced run (λ l a. a) (λ l a. record {
        first = ⊎_elim (λ same. inl (subst (IsImage d.first) (sym same) reads.0)) (λ fresh. inr fresh) a.first;
        second = subst (IsImage d.second) (sym a.second) reads.1;
        output = λ before is. a.output before (shown ∙ is);
      })

  -- before the first call a stop leaves images
  leaves_images : (now : H) (d : Disk) (was : Option (List ℕ)) → disk now ≡ Some d → printed now ≡ was → (l : Left) → Leaves (disk now) (IsShown (printed now)) l → LeavesImages d was l
  leaves_images now d was told shown l left = let images = left.areas d told in record { first = images.0; second = images.1; output = λ before is. left.output before (shown ∙ is) }

  -- the sync failed, and nothing was written
  pub unsynced : {T E : Type 0} (b : Bounds) (result : Result T E) (old new : H) (d : Disk) → IsErrAnd result (λ e. Unit {0}) → disk old ≡ Some d → disk new ≡ Some d → printed new ≡ printed old
      → ((l : Left) → might old (clock old) l → Leaves (disk old) (IsShown (printed old)) l)
      → Elapses (clock old) (clock new) (might old) (might new) (Leaves (disk new) (IsShown (printed new)))
      → LeavesThen clock might (LeavesImages d (printed old)) (WhileOpened b d (printed old)) result old new
  unsynced b result old new d failed told still shown only_now time = fell_short clock might (LeavesImages d (printed old)) (WhileOpened b d (printed old)) result old new failed
      (goes_on clock might old old new _ _ (started clock might old _ (λ l left. leaves_images old d (printed old) told refl l (only_now l left))) time (leaves_images new d (printed old) still shown))

  -- the sync came, and behind it the first area is opened
  pub opening : {T E : Type 0} (b : Bounds) (result : Result T E) (old mid new : H) (d : Disk) → disk old ≡ Some d → disk mid ≡ Some (settled d) → printed mid ≡ printed old
      → ((l : Left) → might old (clock old) l → Leaves (disk old) (IsShown (printed old)) l)
      → Elapses (clock old) (clock mid) (might old) (might mid) (Leaves (disk mid) (IsShown (printed mid)))
      → LeavesOnly clock might mid new (AtFirst (settled d) (printed mid) (IsOpening b d.first.reads))
      → LeavesThen clock might (LeavesImages d (printed old)) (WhileOpened b d (printed old)) result old new
  opening b result old mid new d told told_mid shown only_now time run = came clock might P Q result old new
      (joined clock might old mid new _ _ _ synced run (λ l is. is) (λ l is. inr (behind l is)))
      (record { since = clock mid; later = time.later; past = run.later; each = λ l now. behind l (run.each l now) })
    where
      P : Left → Type 0
      P = LeavesImages d (printed old)

      Q : Left → Type 0
      Q = WhileOpened b d (printed old)

      behind : (l : Left) → AtFirst (settled d) (printed mid) (IsOpening b d.first.reads) l → Q l
      behind l a = record { first = a.first; second = a.second; output = λ before is. a.output before (shown ∙ is) }

      synced : LeavesOnly clock might old mid (λ l. P l ⊎ Q l)
      synced = goes_on clock might old old mid _ _ (started clock might old _ (λ l left. inl (leaves_images old d (printed old) told refl l (only_now l left)))) time (λ l left.
          let images = left.areas (settled d) told_mid in
          inr (record {
            first = inl (at_rest_image d.first.reads l.first images.0);
            second = at_rest_image d.second.reads l.second images.1;
            output = λ before is. left.output before (shown ∙ is);
          }))
