-- What is derived behind roles.
use Rattle.std.specs.Prelude.{◌≡◌, ℕ, Bool, true, false, List, length, slice_get, Some}
use Rattle.dl_base.specs.Derivation.{HeldBehind}
use Rattle.dl_base.specs.declared.concept.Inclusion.{Inclusion}
use Rattle.dl_base.specs.declared.concept.Role.{Role}
use Rattle.horn_closure.specs.Closure.{ClosedSet, IsClosure}
use Rattle.role_graph.specs.declared.closures.BothWays.{BothWays}

-- what is derived behind the direct role or behind its inverse
abbrev pub side : BothWays → Bool → ClosedSet
side s false = s.direct
side s true = s.inverse

-- for each of so many role names, by its place, the closures of what is held behind it and behind its inverse
pub record AreClosures (inclusions : List Inclusion) (names : ℕ) (closed : List BothWays) : Type 0 where
  pub each : length closed ≡ names
  pub closures : (r : Role) (s : BothWays) → slice_get closed r.name ≡ Some s → IsClosure inclusions (HeldBehind r) (side s r.inverse)
