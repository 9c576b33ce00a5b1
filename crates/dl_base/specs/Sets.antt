-- Fixed sets of roles and of basic concepts, as bits of words.
use Rattle.std.specs.Prelude.{◌≡◌, ℕ, ◌+◌, ◌*◌, ◌/◌, ◌%◌, ◌<◌, List, slice_index, if◌then◌else◌}
use Rattle.std.specs.Int.{bit_at}
use Rattle.dl_base.specs.Ontology.{IsPlaced}
use Rattle.dl_base.specs.declared.concept.Role.{Role}
use Rattle.dl_base.specs.declared.concept.Basic.{Basic}
use Rattle.dl_base.specs.declared.concept.Basic.TheVariants as basic

-- the bit at this place of the words is set
abbrev pub HasBit : List ℕ → ℕ → Type 0
HasBit words p = bit_at (slice_index words (p / 64)) (p % 64) ≡ 1

-- the place of a role among all: that of twice its name, or the next one for an inverse
abbrev pub role_place : Role → ℕ
role_place r = 2 * r.name + (if r.inverse then 1 else 0)

-- the place of a basic concept among all: that of its name, or behind all of these that of its role
abbrev pub place_of : Basic → ℕ
place_of (basic.Concept c) = c
place_of (basic.Exists r) = 512 + role_place r

-- the set has the role
pub record HasRole (words : List ℕ) (r : Role) : Type 0 where
  pub placed : r.name < 256
  pub there : HasBit words (role_place r)

-- the set has the basic concept
pub record HasBasic (words : List ℕ) (b : Basic) : Type 0 where
  pub placed : IsPlaced 512 256 b
  pub there : HasBit words (place_of b)
