-- Names that an ontology lacks.
use Rattle.std.specs.Prelude.{◌≡◌, ℕ, List, All, Contains, slice_get, Some, take}
use Rattle.dl_base.specs.Ontology.{Terminology}
use Rattle.dl_base.specs.Query.{Question}
use Rattle.dl_base.specs.declared.query.Atom.{Atom}
use Rattle.dl_base.specs.declared.query.Atom.TheVariants as atom
use Rattle.query_shape.specs.declared.numbering.ShapeError.{ShapeError}
use Rattle.query_shape.specs.declared.numbering.ShapeError.TheVariants as errors

-- the ontology has the atom's name
abbrev pub IsKnown : Terminology → Atom → Type 0
IsKnown o (atom.Concept name t) = Contains o.concepts name
IsKnown o (atom.Role name t u) = Contains o.roles name

-- these concept names lack the one that the error tells, or memory ran out
abbrev pub IsConceptFault : List (List ℕ) → List ℕ → ShapeError → Type 0
IsConceptFault names name (errors.UnknownConcept told) = (told ≡ name) × (Contains names name → ⊥)
IsConceptFault names name (errors.UnknownRole told) = ⊥
IsConceptFault names name errors.NoMemory = Unit {0}

-- the same of role names
abbrev pub IsRoleFault : List (List ℕ) → List ℕ → ShapeError → Type 0
IsRoleFault names name (errors.UnknownConcept told) = ⊥
IsRoleFault names name (errors.UnknownRole told) = (told ≡ name) × (Contains names name → ⊥)
IsRoleFault names name errors.NoMemory = Unit {0}

-- the ontology lacks the atom's name, which the error tells, or memory ran out
abbrev pub IsAtomFault : Terminology → Atom → ShapeError → Type 0
IsAtomFault o (atom.Concept name t) e = IsConceptFault o.concepts name e
IsAtomFault o (atom.Role name t u) e = IsRoleFault o.roles name e

-- the error is that of this atom, and the ontology has the names of all atoms in front of it
pub record IsFirstFault (o : Terminology) (atoms : List Atom) (e : ShapeError) : Type 0 where
  pub place : ℕ
  pub atom : Atom
  pub there : slice_get atoms place ≡ Some atom
  pub fault : IsAtomFault o atom e
  pub before : All (IsKnown o) (take place atoms)

-- the error tells the name of the first atom whose name the ontology lacks, or want of memory
abbrev pub IsShapeFault : Terminology → Question → ShapeError → Type 0
IsShapeFault o q (errors.UnknownConcept name) = IsFirstFault o q.atoms (errors.UnknownConcept name)
IsShapeFault o q (errors.UnknownRole name) = IsFirstFault o q.atoms (errors.UnknownRole name)
IsShapeFault o q errors.NoMemory = Unit {0}
