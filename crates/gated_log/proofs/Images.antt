-- What an image keeps of the bytes at the last sync, where the area was touched behind its first n bytes alone.
use Rattle.std.proofs.Common.{◌≡◌, ◌<◌, ◌≤◌, inl, inr, ℕ, List, [], ◌∷◌, length, get_or, take, refl, sym, ◌∙◌, ap, subst, arith, Result, Ok, Err}
use Rattle.std.proofs.lemmas.List.{ext_get_or, get_or-take}
use Rattle.std.proofs.Math.ListN.{length-take}
use Rattle.host_io.specs.Disk.{Area, IsOutside, IsImage, at_rest, touch, put, Writes}
use Rattle.host_io.specs.Reached.{take_take, front_put}

-- each range begins at n or later
abbrev pub AllFrom : ℕ → List (ℕ × ℕ) → Type 0
AllFrom n [] = Unit {0}
AllFrom n (r ∷ rs) = (n ≤ r.0) × AllFrom n rs

-- since the last sync the area was touched behind its first n bytes alone
pub record Behind (n : ℕ) (old : List ℕ) (area : Area) : Type 0 where
  pub synced : area.synced ≡ old
  pub least : n ≤ area.least
  pub long : n ≤ length old
  pub ranges : AllFrom n area.touched

pub behind_rest : (n : ℕ) (old : List ℕ) → n ≤ length old → Behind n old (at_rest old)
behind_rest n old long = record { synced = refl; least = long; long = long; ranges = tt }

pub behind_touch : (n : ℕ) (old : List ℕ) (area : Area) (at m : ℕ) (reads : List ℕ) → n ≤ at → Behind n old area → Behind n old (touch at m reads area)
behind_touch n old area at m reads le b = record { synced = b.synced; least = b.least; long = b.long; ranges = (le, b.ranges) }

outside_below : (n : ℕ) (rs : List (ℕ × ℕ)) (i : ℕ) → AllFrom n rs → i < n → IsOutside rs i
outside_below n [] i all lt = tt
outside_below n (r ∷ rs) i all lt = (inl (omega (arith, all.0, lt)), outside_below n rs i all.1 lt)

-- so an image has those bytes at its front
pub front : (n : ℕ) (old : List ℕ) (area : Area) (c : List ℕ) → Behind n old area → IsImage area c → take n c ≡ take n old
front n old area c b image = ext_get_or 0 (take n c) (take n old) long each
  where
    long : length (take n c) ≡ length (take n old)
    long = omega (arith, length-take n c, length-take n old, b.least, b.long, image.no_shorter)

    each : (i : ℕ) → i < length (take n c) → get_or (take n c) i 0 ≡ get_or (take n old) i 0
    each i lt =
        let below : i < n = omega (arith, length-take n c) in
        get_or-take n c i 0 below ∙ image.outside i (omega (arith, length-take n c)) (outside_below n area.touched i b.ranges below) ∙ ap (λ (l : List ℕ). get_or l i 0) b.synced ∙ sym (get_or-take n old i 0 below)

-- a write behind the first n bytes, done or not
pub behind_writes : {T E : Type 0} (n : ℕ) (old bytes : List ℕ) (at : ℕ) (result : Result T E) (a b : Area) → n ≤ at → Behind n old a → take n a.reads ≡ take n old → Writes at bytes result a b → Behind n old b × (take n b.reads ≡ take n old)
behind_writes n old bytes at (Ok v) a b le behind front is =
    let long : n ≤ length a.reads = omega (arith, ap length front, length-take n a.reads, length-take n old, behind.long) in
    let c = touch at (length bytes) (put at bytes a.reads) a in
    subst (λ (x : Area). Behind n old x × (take n x.reads ≡ take n old)) (sym is.ok) (behind_touch n old a at (length bytes) (put at bytes a.reads) le behind, front_put n at bytes a.reads le long ∙ front)
behind_writes n old bytes at (Err v) a b le behind front is = elim is.err [
  | inl same ↦ subst (λ (x : Area). Behind n old x × (take n x.reads ≡ take n old)) (sym same) (behind, front)
  | inr torn ↦ (
    subst (Behind n old) (sym torn.disk) (behind_touch n old a at (length bytes) b.reads le behind),
    sym (take_take n at b.reads le) ∙ ap (take n) torn.torn.before ∙ take_take n at a.reads le ∙ front,
  )
]
