-- What holds while a closure is computed.
use Rattle.std.specs.Prelude.{◌≡◌, ℕ, zero, suc, ◌+◌, ◌-◌, ◌/◌, ◌%◌, ◌<◌, ◌≤◌, ◌⊎◌, ◌↔◌, ◌==◌, List, [], ◌∷◌, ◌++◌, All, length, slice_get, Option, Some, None, slice_index, slice_index_or, if◌then◌else◌}
use Rattle.std.specs.Int.{bit_at}
use Rattle.dl_base.specs.Derivation.{Derives}
use Rattle.dl_base.specs.Ontology.{Terminology, IsTerminology, IsWithin}
use Rattle.dl_base.specs.Sets.{place_of, HasBasic}
use Rattle.dl_base.specs.declared.concept.Basic.{Basic}
use Rattle.dl_base.specs.declared.concept.Head.TheVariants as head
use Rattle.dl_base.specs.declared.concept.Inclusion.{Inclusion}
use Rattle.horn_closure.specs.declared.run.Found.{Found}

-- how often the number is in the list
abbrev pub count : ℕ → List ℕ → ℕ
count i [] = 0
count i (k ∷ ks) = (if k == i then 1 else 0) + count i ks

-- how many of the basic concepts have this place
abbrev pub members_at : ℕ → List Basic → ℕ
members_at p [] = 0
members_at p (b ∷ bs) = (if p == place_of b then 1 else 0) + members_at p bs

-- how many of the basic concepts have a place that is not in the list
abbrev pub waiting : List ℕ → List Basic → ℕ
waiting visited [] = 0
waiting visited (b ∷ bs) = (1 - count (place_of b) visited) + waiting visited bs

-- n times the number
abbrev pub copies : ℕ → ℕ → List ℕ
copies zero i = []
copies (suc n) i = i ∷ copies n i

-- the bit at this place of the words
abbrev pub bit : List ℕ → ℕ → ℕ
bit words p = bit_at (slice_index words (p / 64)) (p % 64)

-- the numbers, counted from 0, of the inclusions with a member at the place, once for each such member
pub record AreUses (inclusions : List Inclusion) (p : ℕ) (uses : List ℕ) : Type 0 where
  pub inside : All (λ i. i < length inclusions) uses
  pub counts : (i : ℕ) (inclusion : Inclusion) → slice_get inclusions i ≡ Some inclusion → count i uses ≡ members_at p inclusion.body

-- inclusions within the limits of an ontology, and the uses of each place
pub record AreRules (inclusions : List Inclusion) (uses : List (List ℕ)) : Type 0 where
  pub few : length inclusions ≤ 4096
  pub within : All (IsWithin 512 256) inclusions
  pub places : length uses ≡ 1024
  pub each : (p : ℕ) → p < 1024 → AreUses inclusions p (slice_index_or uses p [])

-- an ontology within the limits, and the uses of each place in its inclusions
pub record IsReady (o : Terminology) (uses : List (List ℕ)) : Type 0 where
  pub within : IsTerminology o
  pub rules : AreRules o.inclusions uses

-- how often inclusion i is used at these places
abbrev pub uses_at : ℕ → List (List ℕ) → List ℕ → ℕ
uses_at i uses [] = 0
uses_at i uses (p ∷ ps) = count i (slice_index_or uses p []) + uses_at i uses ps

-- of the places of basic concepts, the queue has each whose bit is set once, and no other
pub record IsQueueOf (words queue : List ℕ) : Type 0 where
  pub inside : All (λ p. p < 1024) queue
  pub each : (p : ℕ) → p < 1024 → count p queue ≡ bit words p

-- inclusion k, counted from 1, has the head nothing, and none of its members is left
pub record IsSpent (inclusions : List Inclusion) (left : List ℕ) (k : ℕ) : Type 0 where
  pub before : ℕ
  pub number : k ≡ before + 1
  pub inclusion : Inclusion
  pub at : slice_get inclusions before ≡ Some inclusion
  pub nothing : inclusion.head ≡ head.Nothing
  pub none_left : slice_index left before ≡ 0

-- the least number of such an inclusion, and none where there is none
abbrev pub IsFirstSpent : List Inclusion → List ℕ → Option ℕ → Type 0
IsFirstSpent inclusions left None = (k : ℕ) → IsSpent inclusions left k → ⊥
IsFirstSpent inclusions left (Some k) = IsSpent inclusions left k × ((j : ℕ) → j < k → IsSpent inclusions left j → ⊥)

-- A closure on its way. Of each inclusion so many members are left as have a place that isn't visited, and as many
-- more as its uses still remain to be counted at the place that is visited now. Where none is left the head was found.
pub record IsRun (inclusions : List Inclusion) (remaining visited queue : List ℕ) (found : Found) (left : List ℕ) : Type 0 where
  pub marks : IsQueueOf found.derived queue
  pub among : (p : ℕ) → count p visited ≤ count p queue
  pub each : length left ≡ length inclusions
  pub counts : (i : ℕ) (inclusion : Inclusion) → slice_get inclusions i ≡ Some inclusion → slice_index left i ≡ waiting visited inclusion.body + count i remaining
  pub fired : (i : ℕ) (inclusion : Inclusion) (b : Basic) → slice_get inclusions i ≡ Some inclusion → inclusion.head ≡ head.Basic b → slice_index left i ≡ 0 → HasBasic found.derived b
  pub spent : IsFirstSpent inclusions left found.violated

-- b is marked, and at the end of the queue where it wasn't before
pub record Marks (b : Basic) (old queue new queue' : List ℕ) : Type 0 where
  pub adds : (c : Basic) → HasBasic new c ↔ ((c ≡ b) ⊎ HasBasic old c)
  pub marks : IsQueueOf new queue'
  pub longer : (more : List ℕ) × (queue' ≡ queue ++ more)

-- more is marked, all of it derived from what was, and the queue is longer by it
pub record MarksDerived (inclusions : List Inclusion) (old queue new queue' : List ℕ) : Type 0 where
  pub sound : (b : Basic) → HasBasic new b → Derives inclusions (HasBasic old) b
  pub grows : (b : Basic) → HasBasic old b → HasBasic new b
  pub longer : (more : List ℕ) × (queue' ≡ queue ++ more)
