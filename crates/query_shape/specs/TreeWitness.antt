-- Tree witnesses: which terms are placed below a term as soon as one of its atoms leads to a witness, and by which roles.
use Rattle.std.specs.Prelude.{◌≡◌, ◌≢◌, ◌⊎◌, ℕ, List, [], ◌∷◌, Contains, Some, slice_get}
use Rattle.dl_base.specs.Derivation.{inverse}
use Rattle.dl_base.specs.declared.concept.Role.{Role}
use Rattle.dl_base.specs.declared.element.Elem.{Elem}
use Rattle.dl_base.specs.declared.element.Elem.TheVariants as elem
use Rattle.dl_base.specs.declared.element.Witness.{Witness}
use Rattle.query_shape.specs.declared.layout.ShapeAtom.{ShapeAtom}
use Rattle.query_shape.specs.declared.layout.ShapeAtom.TheVariants as shape

-- One of these atoms, read one way, leads from the first term to the second by the role: as it stands, or from its second term
-- to its first by the inverse of its role.
abbrev pub IsOriented : List ShapeAtom → Role → ℕ → ℕ → Type 0
IsOriented atoms r s u = Contains atoms (shape.Role r s u) ⊎ ((q : Role) × (r ≡ inverse q) × Contains atoms (shape.Role q u s))

-- The tree witness of an atom that leads by the role r from the term t: the least relation between terms and lists of roles in
-- which t has the empty list; an atom of r leads from a term with the empty list to one with the list of r alone; and from a
-- term with more roles an atom takes the last one away where it goes back along it, and else adds its own. A list is read from
-- its last role.
pub data TreeWitness (atoms : List ShapeAtom) (r : Role) (t : ℕ) : ℕ → List Role → Type 0 where
  top : {s : ℕ} → s ≡ t → TreeWitness atoms r t s []
  first : {s u : ℕ} → TreeWitness atoms r t s [] → IsOriented atoms r s u → TreeWitness atoms r t u (r ∷ [])
  back : {s u : ℕ} {q : Role} {w : List Role} → TreeWitness atoms r t s (q ∷ w) → IsOriented atoms (inverse q) s u → TreeWitness atoms r t u w
  further : {s u : ℕ} {p q : Role} {w : List Role} → TreeWitness atoms r t s (q ∷ w) → IsOriented atoms p s u → p ≢ inverse q
      → TreeWitness atoms r t u (p ∷ q ∷ w)

-- the tree witness exists: no term has two lists
abbrev pub HasTreeWitness : List ShapeAtom → Role → ℕ → Type 0
HasTreeWitness atoms r t = (s : ℕ) (v w : List Role) → TreeWitness atoms r t s v → TreeWitness atoms r t s w → v ≡ w

-- the image of the term of this number is a witness of the role
abbrev pub IsOn : List Elem → Role → ℕ → Type 0
IsOn images r k = (w : Witness) × (slice_get images k ≡ Some (elem.Shared w)) × (w.role ≡ r)

-- each term with the empty list has the image of t
abbrev pub TopsAgree : List ShapeAtom → List Elem → Role → ℕ → Type 0
TopsAgree atoms images r t = (s : ℕ) → TreeWitness atoms r t s [] → slice_get images s ≡ slice_get images t

-- The images pass: where an atom leads by the role from t to a term on the role's witness, the tree witness exists, and its terms
-- with the empty list have one image.
abbrev pub PassesTrees : List ShapeAtom → List Elem → Type 0
PassesTrees atoms images = (r : Role) (t u : ℕ) → IsOriented atoms r t u → IsOn images r u → HasTreeWitness atoms r t × TopsAgree atoms images r t
