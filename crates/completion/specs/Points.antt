-- Roles by which something is derived and nothing is held.
use Rattle.std.specs.Prelude.{ℕ, ◌<◌, List}
use Rattle.dl_base.specs.Sets.{HasBasic}
use Rattle.dl_base.specs.declared.concept.Basic.TheVariants as basic
use Rattle.dl_base.specs.declared.concept.Role.{Role}

-- of two sets of basic concepts, the first has a successor by the role, and the second has none
pub record IsNeeded (derived held : List ℕ) (r : Role) : Type 0 where
  pub derived_is : HasBasic derived (basic.Exists r)
  pub not_held : HasBasic held (basic.Exists r) → ⊥

-- and the role is of one of so many names
abbrev pub IsNeededBelow : List ℕ → List ℕ → ℕ → Role → Type 0
IsNeededBelow derived held names r = (r.name < names) × IsNeeded derived held r
