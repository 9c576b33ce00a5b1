-- What is derived from a set of basic concepts, and what it violates.
use Rattle.std.specs.Prelude.{◌≡◌, ℕ, ◌+◌, List, [], ◌∷◌, slice_get, Some, Contains, not}
use Rattle.dl_base.specs.declared.concept.Role.{Role}
use Rattle.dl_base.specs.declared.concept.Basic.{Basic}
use Rattle.dl_base.specs.declared.concept.Basic.TheVariants as basic
use Rattle.dl_base.specs.declared.concept.Head.TheVariants as head
use Rattle.dl_base.specs.declared.concept.Inclusion.{Inclusion}

-- the inverse of a role; that of an inverse is the named role itself
abbrev pub inverse : Role → Role
inverse r = record { name = r.name; inverse = not r.inverse }

-- what is held behind a role, whatever it leads on from: having a successor by its inverse, and nothing else
abbrev pub HeldBehind : Role → Basic → Type 0
HeldBehind r b = b ≡ basic.Exists (inverse r)

-- A derivation of b is a finite tree with root b. A leaf is a member of the set. An inner node is an inclusion whose
-- head is the node's concept, with one tree for each member of its body.
mutual
  pub data Derives (inclusions : List Inclusion) (held : Basic → Type 0) : Basic → Type 0 where
    leaf : {b : Basic} → held b → Derives inclusions held b
    node : {b : Basic} (i : Inclusion) → Contains inclusions i → i.head ≡ head.Basic b → DerivesAll inclusions held i.body → Derives inclusions held b

  -- a derivation of each of these
  pub data DerivesAll (inclusions : List Inclusion) (held : Basic → Type 0) : List Basic → Type 0 where
    none : DerivesAll inclusions held []
    each : {b : Basic} {bs : List Basic} → Derives inclusions held b → DerivesAll inclusions held bs → DerivesAll inclusions held (b ∷ bs)

-- inclusion k, counted from 1, has the head nothing, and each member of its body is derived
pub record Violates (inclusions : List Inclusion) (held : Basic → Type 0) (k : ℕ) : Type 0 where
  pub before : ℕ
  pub number : k ≡ before + 1
  pub inclusion : Inclusion
  pub at : slice_get inclusions before ≡ Some inclusion
  pub nothing : inclusion.head ≡ head.Nothing
  pub body : DerivesAll inclusions held inclusion.body
