-- Tree witnesses as lists of terms with their roles, and the test by them.
use Rattle.std.specs.Prelude.{◌≡◌, ◌≢◌, ◌⊎◌, ◌↔◌, ◌<◌, ℕ, List, [], ◌∷◌, length, map, Option, Some, slice_get, All, AllPairs, Contains, MatchOption}
use Rattle.std.specs.List.{flat_map}
use Rattle.dl_base.specs.Derivation.{inverse}
use Rattle.dl_base.specs.declared.concept.Role.{Role}
use Rattle.dl_base.specs.declared.element.Elem.{Elem}
use Rattle.query_shape.specs.Shape.{Layout}
use Rattle.query_shape.specs.declared.layout.ShapeAtom.{ShapeAtom}
use Rattle.query_shape.specs.declared.layout.ShapeAtom.TheVariants as shape
use Rattle.query_shape.specs.TreeWitness.{IsOn, TreeWitness, HasTreeWitness}
use Rattle.tree_witness.specs.declared.oriented.OrientedAtom.{OrientedAtom}
use Rattle.tree_witness.specs.declared.tree.ReachedTerm.{ReachedTerm}
use Rattle.tree_witness.specs.declared.trees.TreeEntry.{TreeEntry}

-- ---- oriented atoms

-- a role atom as it stands, and the other way
abbrev pub read_both_ways : ShapeAtom → List OrientedAtom
read_both_ways (shape.Concept c n) = []
read_both_ways (shape.Role r n m) = record { role = r; from = n; to = m } ∷ record { role = inverse r; from = m; to = n } ∷ []

abbrev pub oriented_atoms : List ShapeAtom → List OrientedAtom
oriented_atoms atoms = flat_map read_both_ways atoms

-- the atom's terms are below this number
abbrev pub IsOrientedBelow : ℕ → OrientedAtom → Type 0
IsOrientedBelow count a = (a.from < count) × (a.to < count)

-- ---- steps

-- An atom by the role leads from a term with these roles to one with those: from none by the role of the root alone; and else the
-- last one is taken away where the atom goes back along it, and the atom's own is added where it doesn't.
abbrev pub IsStep : Role → List Role → Role → List Role → Type 0
IsStep root [] by to = (by ≡ root) × (to ≡ by ∷ [])
IsStep root (last ∷ before) by to = ((by ≡ inverse last) × (to ≡ before)) ⊎ ((by ≢ inverse last) × (to ≡ by ∷ last ∷ before))

-- an atom by the role leads on
abbrev pub CanStep : Role → List Role → Role → Type 0
CanStep root roles by = (roles ≢ []) ⊎ (by ≡ root)

-- ---- trees that grow

abbrev pub HasTerm : List ReachedTerm → ℕ → Type 0
HasTerm tree term = (h : ReachedTerm) × Contains tree h × (h.term ≡ term)

-- the tree has what the atom leads to from these roles
abbrev pub IsThere : Role → List ReachedTerm → List Role → OrientedAtom → Type 0
IsThere root tree roles a = (h : ReachedTerm) × Contains tree h × (h.term ≡ a.to) × IsStep root roles a.role h.roles

-- the atom leads from this term to what the tree hasn't got
abbrev pub IsOpen : Role → List ReachedTerm → ReachedTerm → OrientedAtom → Type 0
IsOpen root tree above a = (a.from ≡ above.term) × CanStep root above.roles a.role × (IsThere root tree above.roles a → ⊥)

-- if the atom leads on from this term at all, the tree has what it leads to
abbrev pub IsShut : Role → List ReachedTerm → ReachedTerm → OrientedAtom → Type 0
IsShut root tree above a = a.from ≡ above.term → CanStep root above.roles a.role → IsThere root tree above.roles a

abbrev pub IsNextAtom : List OrientedAtom → Role → List ReachedTerm → ReachedTerm → OrientedAtom → Type 0
IsNextAtom oriented root tree above a = Contains oriented a × IsOpen root tree above a

-- the tree has what any of these atoms leads to from it
abbrev pub IsGrown : List OrientedAtom → Role → List ReachedTerm → Type 0
IsGrown oriented root tree = (h : ReachedTerm) (a : OrientedAtom) → Contains tree h → Contains oriented a → IsShut root tree h a

-- the atom leads from what stands at the place of the tree to what it hasn't got
abbrev pub IsNext : List OrientedAtom → Role → List ReachedTerm → ℕ → OrientedAtom → Type 0
IsNext oriented root tree place a = (h : ReachedTerm) × (slice_get tree place ≡ Some h) × IsNextAtom oriented root tree h a

-- the atom leads on from what stands at the place
abbrev pub CanExtend : Role → List ReachedTerm → ℕ → OrientedAtom → Type 0
CanExtend root tree place a = (above : ReachedTerm) × (slice_get tree place ≡ Some above) × CanStep root above.roles a.role

-- what it leads to from there
abbrev pub ExtendsTree : Role → List ReachedTerm → ℕ → OrientedAtom → ReachedTerm → Type 0
ExtendsTree root tree place a h = (above : ReachedTerm) × (slice_get tree place ≡ Some above) × (h.term ≡ a.to) × IsStep root above.roles a.role h.roles

-- ---- trees

-- the list has the terms of the tree witness with their roles, each once, and no others
pub record AreReached (atoms : List ShapeAtom) (r : Role) (t : ℕ) (tree : List ReachedTerm) : Type 0 where
  pub each : (h : ReachedTerm) → Contains tree h ↔ TreeWitness atoms r t h.term h.roles
  pub once : AllPairs (λ n m. n ≢ m) (map (λ h. h.term) tree)

-- the tree witness of the oriented atom, or none where there is none
abbrev pub IsTreeWitnessOf : List ShapeAtom → OrientedAtom → Option (List ReachedTerm) → Type 0
IsTreeWitnessOf atoms a tree =
    MatchOption tree (HasTreeWitness atoms a.role a.from → ⊥) (λ list. HasTreeWitness atoms a.role a.from × AreReached atoms a.role a.from list)

-- the same where these are the oriented atoms of some atoms
abbrev pub IsTreeOf : List OrientedAtom → OrientedAtom → Option (List ReachedTerm) → Type 0
IsTreeOf oriented root tree = (atoms : List ShapeAtom) → oriented ≡ oriented_atoms atoms → IsTreeWitnessOf atoms root tree

-- ---- all trees of a shape

-- a number of terms, and oriented atoms with their trees
pub record Trees : Type 0 where
  pub terms : ℕ
  pub entries : List TreeEntry

-- the terms of the tree, if any, are below this number
abbrev pub IsTreeBelow : ℕ → Option (List ReachedTerm) → Type 0
IsTreeBelow count tree = MatchOption tree (Unit {0}) (λ list. All (λ h. h.term < count) list)

abbrev pub IsEntryBelow : ℕ → TreeEntry → Type 0
IsEntryBelow count e = IsOrientedBelow count e.atom × IsTreeBelow count e.tree

abbrev pub AreBelow : Trees → Type 0
AreBelow t = All (IsEntryBelow t.terms) t.entries

-- these oriented atoms in order, each with its tree
pub record AreEntries (terms : ℕ) (oriented : List OrientedAtom) (entries : List TreeEntry) : Type 0 where
  pub order : map (λ e. e.atom) entries ≡ oriented
  pub trees : All (λ e. IsTreeOf oriented e.atom e.tree) entries
  pub below : All (IsEntryBelow terms) entries

-- as many terms as the shape has, and each of its role atoms, read as it stands and then the other way, with its tree witness
pub record AreTreesOf (s : Layout) (t : Trees) : Type 0 where
  pub terms : t.terms ≡ length s.terms
  pub order : map (λ e. e.atom) t.entries ≡ oriented_atoms s.atoms
  pub trees : All (λ e. IsTreeWitnessOf s.atoms e.atom e.tree) t.entries

-- ---- the test

-- where the term has no roles, it has the image of this one
abbrev pub TopAgrees : List Elem → ℕ → ReachedTerm → Type 0
TopAgrees images t h = h.roles ≡ [] → slice_get images h.term ≡ slice_get images t

-- where the atom leads to a term on its role's witness, there is a tree, and its terms without roles have one image
abbrev pub PassesEntry : List Elem → TreeEntry → Type 0
PassesEntry images e = IsOn images e.atom.role e.atom.to → MatchOption e.tree ⊥ (All (TopAgrees images e.atom.from))

-- the images pass by each entry
abbrev pub PassesBy : Trees → List Elem → Type 0
PassesBy t images = All (PassesEntry images) t.entries
