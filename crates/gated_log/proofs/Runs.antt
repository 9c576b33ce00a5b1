-- The first area is changed, call by call, and a stop leaves what has P of it.
use Rattle.std.proofs.Common.{◌≡◌, ℕ, List, refl, sym, ◌∙◌, subst, Option, Some, None}
use Rattle.host_io.specs.Disk.{Disk, IsSettled, IsImage}
use Rattle.host_io.specs.Moments.{Left, Leaves, Elapses, LeavesOnly, IsShown}
use Rattle.host_io.proofs.Moments.{started, goes_on}
use Rattle.host_io.proofs.Settled.{at_rest_image}
use Rattle.gated_log.specs.Stops.{AtFirst}

-- what is told now was told before
pub was_told : {A : Type 0} {old new : Option A} {e : A} → (old ≡ None → new ≡ None) → new ≡ Some e → (d : A) × (old ≡ Some d)
was_told {old = None} untold is = let no = untold refl in absurd (cc)
was_told {old = Some d} untold is = (d, refl)

pub same_some : {A : Type 0} {x y : A} → Some x ≡ Some y → x ≡ y
same_some is = cc

-- a stop before the first call
pub at_start : (d : Disk) → IsSettled d → (disk : Option Disk) (printed : Option (List ℕ)) (P : List ℕ → Type 0) → disk ≡ Some d → P d.first.reads → (l : Left) → Leaves disk (IsShown printed) l → AtFirst d printed P l
at_start d settled disk printed P told here l now =
    let images = now.areas d told in
    record {
      first = subst P (sym (at_rest_image d.first.reads l.first (subst (λ a. IsImage a l.first) settled.first images.0))) here;
      second = at_rest_image d.second.reads l.second (subst (λ a. IsImage a l.second) settled.second images.1);
      output = now.output;
    }

module _ {H : Type 0} (disk : H → Option Disk) (printed : H → Option (List ℕ)) (clock : H → ℕ) (might : H → ℕ → Left → Type 0) (old : H) (d : Disk) (settled : IsSettled d) (P : List ℕ → Type 0) where
  pub record Runs (now : H) (e : Disk) : Type 0 where
    pub told : disk now ≡ Some e
    pub second : e.second ≡ d.second
    pub shown : printed now ≡ printed old
    pub moments : LeavesOnly clock might old now (AtFirst d (printed old) P)

  pub begun : disk old ≡ Some d → P d.first.reads → ((l : Left) → might old (clock old) l → Leaves (disk old) (IsShown (printed old)) l) → Runs old d
  begun told here only_now = record {
    told = told;
    second = refl;
    shown = refl;
    moments = started clock might old _ (λ l left.
        let now = only_now l left in
        let images = now.areas d told in
        record {
          first = subst P (sym (at_rest_image d.first.reads l.first (subst (λ a. IsImage a l.first) settled.first images.0))) here;
          second = at_rest_image d.second.reads l.second (subst (λ a. IsImage a l.second) settled.second images.1);
          output = now.output;
        });
  }

  -- any call that prints nothing
  pub quiet : (now new : H) (e f : Disk) → Runs now e → disk new ≡ Some f → f.second ≡ d.second → ((c : List ℕ) → IsImage f.first c → P c) → printed new ≡ printed now
      → Elapses (clock now) (clock new) (might now) (might new) (Leaves (disk new) (IsShown (printed new))) → Runs new f
  quiet now new e f r told second images shown time = record {
    told = told;
    second = second;
    shown = shown ∙ r.shown;
    moments = goes_on clock might old now new _ _ r.moments time (λ l left.
        let both = left.areas f told in
        record {
          first = images l.first both.0;
          second = at_rest_image d.second.reads l.second (subst (λ a. IsImage a l.second) (second ∙ settled.second) both.1);
          output = λ p is. left.output p (shown ∙ r.shown ∙ is);
        });
  }
