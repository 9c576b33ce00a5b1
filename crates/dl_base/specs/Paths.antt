-- Lists of roles that lead on from a set of basic concepts, and what is violated at their end.
use Rattle.std.specs.Prelude.{ℕ, List, [], ◌∷◌}
use Rattle.dl_base.specs.Derivation.{Derives, Violates, HeldBehind}
use Rattle.dl_base.specs.declared.concept.Inclusion.{Inclusion}
use Rattle.dl_base.specs.declared.concept.Role.{Role}
use Rattle.dl_base.specs.declared.concept.Basic.{Basic}
use Rattle.dl_base.specs.declared.concept.Basic.TheVariants as basic

-- The roles may follow where this is held: a successor by the first is derived there, and the others may follow behind it. Going
-- back along a role is a step like any other.
abbrev pub MayFollow : List Inclusion → (Basic → Type 0) → List Role → Type 0
MayFollow inclusions held [] = Unit {0}
MayFollow inclusions held (r ∷ rs) = Derives inclusions held (basic.Exists r) × MayFollow inclusions (HeldBehind r) rs

-- what is held at the end of the roles
abbrev pub HeldAfter : (Basic → Type 0) → List Role → Basic → Type 0
HeldAfter held [] = held
HeldAfter held (r ∷ rs) = HeldAfter (HeldBehind r) rs

-- the roles may follow where this is held, and at their end the inclusion is violated
pub record ClashesAfter (inclusions : List Inclusion) (held : Basic → Type 0) (path : List Role) (k : ℕ) : Type 0 where
  pub follows : MayFollow inclusions held path
  pub violates : Violates inclusions (HeldAfter held path) k
