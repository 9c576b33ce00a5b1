-- The bytes behind a place are written, call by call.
use Rattle.std.proofs.Common.{◌≡◌, ◌≤◌, ℕ, List, length, take, refl, sym, ◌∙◌, ap, subst, Option, Some, Result, Ok, Err, OnOk, IfOk}
use Rattle.host_io.specs.Disk.{Disk, Area, IsSettled, at_rest, put, IsImage, OnArea, Writes, TakesStep, Syncs}
use Rattle.host_io.specs.Moments.{Left, Leaves, Elapses, LeavesOnly, IsShown}
use Rattle.host_io.proofs.Moments.{started, goes_on}
use Rattle.host_io.proofs.Settled.{at_rest_image}
use Rattle.gated_log.proofs.Images.{Behind, behind_rest, behind_writes, front}
use Rattle.gated_log.specs.Stops.{AtFirst}

module _ {H : Type 0} (disk : H → Option Disk) (printed : H → Option (List ℕ)) (clock : H → ℕ) (might : H → ℕ → Left → Type 0) (old : H) (d : Disk) (n : ℕ) where
  -- the first n bytes are as they were
  abbrev pub Front : List ℕ → Type 0
  Front c = take n c ≡ take n d.first.reads

  pub record Running (now : H) (e : Disk) : Type 0 where
    pub told : disk now ≡ Some e
    pub behind : Behind n d.first.reads e.first
    pub reads : Front e.first.reads
    pub second : e.second ≡ d.second
    pub shown : printed now ≡ printed old
    pub moments : LeavesOnly clock might old now (AtFirst d (printed old) Front)

  pub begun : disk old ≡ Some d → IsSettled d → n ≤ length d.first.reads → ((l : Left) → might old (clock old) l → Leaves (disk old) (IsShown (printed old)) l) → Running old d
  begun told is_settled le only_now = record {
    told = told;
    behind = subst (λ a. Behind n d.first.reads a) (sym is_settled.first) (behind_rest n d.first.reads le);
    reads = refl;
    second = refl;
    shown = refl;
    moments = started clock might old _ (λ l left.
        let now = only_now l left in
        let images = now.areas d told in
        let first : l.first ≡ d.first.reads = at_rest_image d.first.reads l.first (subst (λ a. IsImage a l.first) is_settled.first images.0) in
        let second : l.second ≡ d.second.reads = at_rest_image d.second.reads l.second (subst (λ a. IsImage a l.second) is_settled.second images.1) in
        record { first = ap (take n) first; second = second; output = now.output });
  }

  leaves_front : (now : H) (e : Disk) → disk now ≡ Some e → ((c : List ℕ) → IsImage e.first c → Front c) → d.second ≡ at_rest d.second.reads → e.second ≡ d.second → printed now ≡ printed old
      → (l : Left) → Leaves (disk now) (IsShown (printed now)) l → AtFirst d (printed old) Front l
  leaves_front now e told images rest second shown l left =
      let both = left.areas e told in record {
        first = images l.first both.0;
        second = at_rest_image d.second.reads l.second (subst (λ a. IsImage a l.second) (second ∙ rest) both.1);
        output = λ p is. left.output p (shown ∙ is);
      }

  -- a write at n or behind
  module _ {T E : Type 0} (is_settled : IsSettled d) (now new : H) (e : Disk) (at : ℕ) (bytes : List ℕ) (result : Result T E) where
    pub written : n ≤ at → Running now e → TakesStep (OnArea 0 (Writes at bytes result)) (disk now) (disk new) → printed new ≡ printed now
        → Elapses (clock now) (clock new) (might now) (might new) (Leaves (disk new) (IsShown (printed new)))
        → (f : Disk) × Running new f × OnOk result (f.first.reads ≡ put at bytes e.first.reads)
    written le r goes shown time =
        let to = goes.told e r.told in
        let f = to.0 in
        let both = behind_writes n d.first.reads bytes at result e.first f.first le r.behind r.reads to.2.changed in
        let behind = both.0 in
        let second : f.second ≡ d.second = ap (λ (x : Disk). x.second) to.2.other ∙ r.second in
        let same : printed new ≡ printed old = shown ∙ r.shown in (
          f,
          record {
            told = to.1;
            behind = behind;
            reads = both.1;
            second = second;
            shown = same;
            moments = goes_on clock might old now new _ _ r.moments time (leaves_front new f to.1 (λ c image. front n d.first.reads f.first c behind image) is_settled.second second same);
          },
          put_when_ok result e.first f.first to.2.changed,
        )
      where
        put_when_ok : (r : Result T E) (a b : Area) → Writes at bytes r a b → OnOk r (b.reads ≡ put at bytes a.reads)
        put_when_ok (Ok v) a b is = ap (λ (x : Area). x.reads) is.ok
        put_when_ok (Err v) a b is = tt

  -- a sync, after which the bytes are on the disk if it succeeds
  module _ {T E : Type 0} (is_settled : IsSettled d) (now new : H) (e : Disk) (result : Result T E) where
    images_after : (e f : Disk) → Running now e → Syncs result e f → (c : List ℕ) → IsImage f.first c → Front c
    images_after e f r syncs c image = elim result as (λ x. Syncs x e f → Front c) [
      | Ok v ↦ λ s. ap (take n) (at_rest_image e.first.reads c (subst (λ (a : Disk). IsImage a.first c) s.ok image)) ∙ r.reads
      | Err v ↦ λ s. front n d.first.reads e.first c r.behind (subst (λ (a : Disk). IsImage a.first c) s.err image)
    ] syncs

    second_after : (e f : Disk) → e.second ≡ d.second → Syncs result e f → f.second ≡ d.second
    second_after e f was syncs = elim result as (λ x. Syncs x e f → f.second ≡ d.second) [
      | Ok v ↦ λ s. ap (λ (x : Disk). x.second) s.ok ∙ ap (λ (x : Area). at_rest x.reads) was ∙ sym is_settled.second
      | Err v ↦ λ s. ap (λ (x : Disk). x.second) s.err ∙ was
    ] syncs

    pub synced : Running now e → TakesStep (Syncs result) (disk now) (disk new) → printed new ≡ printed now
        → Elapses (clock now) (clock new) (might now) (might new) (Leaves (disk new) (IsShown (printed new)))
        → LeavesOnly clock might old new (AtFirst d (printed old) Front)
    synced r goes shown time =
        let to = goes.told e r.told in
        let f = to.0 in
        goes_on clock might old now new _ _ r.moments time
        (leaves_front new f to.1 (images_after e f r to.2) is_settled.second (second_after e f r.second to.2) (shown ∙ r.shown))

  -- what a sync that succeeds leaves
  pub on_disk : (now new : H) (e : Disk) → IsSettled d → Running now e → ((x : Disk) → disk now ≡ Some x → (y : Disk) × (disk new ≡ Some y) × (y ≡ record { first = at_rest x.first.reads; second = at_rest x.second.reads }))
      → disk new ≡ Some (record { first = at_rest e.first.reads; second = d.second })
  on_disk now new e is_settled r told =
      let to = told e r.told in
      let second : at_rest e.second.reads ≡ d.second = ap (λ (x : Area). at_rest x.reads) r.second ∙ sym is_settled.second in
      to.1 ∙ ap Some to.2 ∙ ap (λ (x : Area). Some (record { first = at_rest e.first.reads; second = x })) second

-- what holds where a result is Ok
pub on_ok : {T E : Type 0} (r : Result T E) (P : Type 0) → ((v : T) → r ≡ Ok v → P) → OnOk r P
on_ok (Ok v) P h = h v refl
on_ok (Err e) P h = tt

pub if_ok : {T E : Type 0} (r : Result T E) (P : T → Type 0) → ((v : T) → r ≡ Ok v → P v) → IfOk r P
if_ok (Ok v) P h = h v refl
if_ok (Err e) P h = tt

-- what is said of a result that is Ok
pub was_ok : {T E P : Type 0} (r : Result T E) (v : T) → r ≡ Ok v → OnOk r P → P
was_ok {P = P} r v is said = subst (λ x. OnOk x P) is said
