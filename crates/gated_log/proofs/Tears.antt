-- One write on an area whose bytes are all on the disk.
use Rattle.std.proofs.Common.{◌≡◌, ◌⊎◌, ◌<◌, ◌≤◌, ◌+◌, inl, inr, ℕ, List, [], ◌∷◌, ◌++◌, length, get_or, take, drop, refl, sym, ◌∙◌, ap, subst, arith, append_assoc, length-append, take-append-drop, Result, Ok, Err}
use Rattle.std.proofs.lemmas.List.{ext_get_or, get_or-take, get_or-drop, length-take, length-drop, drop_more, take_at, drop_at}
use Rattle.host_io.specs.Disk.{Area, Disk, IsImage, IsSettled, IsTorn, at_rest, touch, put, Syncs, Writes}
use Rattle.host_io.specs.Reached.{length-put}
use Rattle.host_io.proofs.Settled.{at_rest_image}

-- nothing was written
pub untorn : (at n : ℕ) (old : List ℕ) → IsTorn at n old old
untorn at n old = record { before = refl; after = refl; no_shorter = omega arith; no_longer = omega arith }

-- all was written
pub whole : (at : ℕ) (bytes old : List ℕ) → at ≤ length old → IsTorn at (length bytes) old (put at bytes old)
whole at bytes old le =
    let front = take at old ++ bytes in
    record {
      before = ap (take at) (append_assoc (take at old) bytes (drop (at + length bytes) old)) ∙ take_at (take at old) (bytes ++ drop (at + length bytes) old) at (omega (arith, length-take at old));
      after = drop_at front (drop (at + length bytes) old) (at + length bytes) (omega (arith, length-append (take at old) bytes, length-take at old));
      no_shorter = omega (arith, length-put at bytes old le);
      no_longer = omega (arith, length-put at bytes old le);
    }

-- an image differs in the range alone
pub torn_image : (at n : ℕ) (old reads c : List ℕ) → at ≤ length old → IsImage (touch at n reads (at_rest old)) c → IsTorn at n old c
torn_image at n old reads c le image = record { before = before; after = after; no_shorter = image.no_shorter; no_longer = image.no_longer }
  where
    same : (i : ℕ) → i < length c → (i < at) ⊎ (at + n ≤ i) → get_or c i 0 ≡ get_or old i 0
    same i in_c out = image.outside i in_c (out, tt)

    before : take at c ≡ take at old
    before = ext_get_or 0 (take at c) (take at old) (omega (arith, length-take at c, length-take at old, image.no_shorter)) (λ i in_front.
        let below : i < at = omega (arith, length-take at c) in
        get_or-take at c i 0 below ∙ same i (omega (arith, length-take at c)) (inl below) ∙ sym (get_or-take at old i 0 below))

    after : drop (at + n) c ≡ drop (at + n) old
    after = ext_get_or 0 (drop (at + n) c) (drop (at + n) old) (omega (arith, length-drop (at + n) c, length-drop (at + n) old, image.no_shorter, image.no_longer)) (λ i in_rest.
        get_or-drop (at + n) c i 0 ∙ same (at + n + i) (omega (arith, length-drop (at + n) c)) (inr (omega arith)) ∙ sym (get_or-drop (at + n) old i 0))

-- of one write, done or not, an image differs in the range alone
pub torn_images : {T E : Type 0} (at : ℕ) (bytes old : List ℕ) (result : Result T E) (e : Area) → at ≤ length old → Writes at bytes result (at_rest old) e → (c : List ℕ) → IsImage e c → IsTorn at (length bytes) old c
torn_images at bytes old (Ok v) e le is c image = torn_image at (length bytes) old (put at bytes old) c le (subst (λ (a : Area). IsImage a c) is.ok image)
torn_images at bytes old (Err v) e le is c image = elim is.err [
  | inl same ↦ subst (IsTorn at (length bytes) old) (sym (at_rest_image old c (subst (λ (a : Area). IsImage a c) same image))) (untorn at (length bytes) old)
  | inr torn ↦ torn_image at (length bytes) old e.reads c le (subst (λ (a : Area). IsImage a c) torn.disk image)
]

-- where one byte that is there was written over, that byte alone may be another
pub one_byte : (at : ℕ) (old c : List ℕ) → at < length old → IsTorn at 1 old c → c ≡ put at (get_or c at 0 ∷ []) old
one_byte at old c lt torn =
    sym (take-append-drop at c)
    ∙ ap (λ (l : List ℕ). take at c ++ l) (drop_more c at 0 (omega (arith, torn.no_shorter)))
    ∙ ap (λ (l : List ℕ). l ++ get_or c at 0 ∷ drop (at + 1) c) torn.before
    ∙ ap (λ (l : List ℕ). take at old ++ get_or c at 0 ∷ l) torn.after
    ∙ sym (append_assoc (take at old) (get_or c at 0 ∷ []) (drop (at + 1) old))

-- a sync adds no image
pub synced_image : {T E : Type 0} (P : List ℕ → Type 0) (result : Result T E) (e f : Disk) → ((b : List ℕ) → IsImage e.first b → P b) → P e.first.reads → Syncs result e f → (c : List ℕ) → IsImage f.first c → P c
synced_image P (Ok v) e f images here syncs c image = subst P (sym (at_rest_image e.first.reads c (subst (λ (a : Disk). IsImage a.first c) syncs.ok image))) here
synced_image P (Err v) e f images here syncs c image = images c (subst (λ (a : Disk). IsImage a.first c) syncs.err image)

pub synced_second : {T E : Type 0} {d : Disk} → IsSettled d → (result : Result T E) (e f : Disk) → e.second ≡ d.second → Syncs result e f → f.second ≡ d.second
synced_second is (Ok v) e f was syncs = ap (λ (x : Disk). x.second) syncs.ok ∙ ap (λ (x : Area). at_rest x.reads) was ∙ sym is.second
synced_second is (Err v) e f was syncs = ap (λ (x : Disk). x.second) syncs.err ∙ was
