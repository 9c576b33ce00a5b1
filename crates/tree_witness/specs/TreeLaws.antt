-- Laws of tree witnesses, and small ones.
use Rattle.std.specs.Prelude.{◌≢◌, ◌↔◌, ℕ, false, List, [], ◌∷◌, AllPairs}
use Rattle.dl_base.specs.Ontology.{Terminology}
use Rattle.dl_base.specs.Tables.{TableRow}
use Rattle.dl_base.specs.Completion.{AreCompleted}
use Rattle.dl_base.specs.declared.concept.Role.{Role}
use Rattle.dl_base.specs.declared.element.Elem.{Elem}
use Rattle.dl_base.specs.declared.element.Elem.TheVariants as elem
use Rattle.dl_base.specs.declared.row.NamedRow.{NamedRow}
use Rattle.query_shape.specs.Shape.{Layout, IsLayout, IsShapeMatch}
use Rattle.query_shape.specs.Lifting.{LiftsShape}
use Rattle.query_shape.specs.declared.layout.ShapeAtom.{ShapeAtom}
use Rattle.query_shape.specs.declared.layout.ShapeAtom.TheVariants as shape
use Rattle.query_shape.specs.TreeWitness.{TreeWitness, HasTreeWitness, PassesTrees}
use Rattle.tree_witness.specs.Trees.{Trees, AreTreesOf, PassesBy}

-- a match of completed tables whose individuals have distinct names passes exactly where it lifts
abbrev pub LiftsWherePassed : Type 0
LiftsWherePassed = (o : Terminology) (rows : List NamedRow) (names : List (List ℕ)) (generation : Role → ℕ) (table : List TableRow) (s : Layout) (images : List Elem)
    → AllPairs (λ x y. x ≢ y) names → AreCompleted o rows names generation table → IsLayout s → IsShapeMatch table s images
    → PassesTrees s.atoms images ↔ LiftsShape o rows names generation s images

-- images pass by the trees of a shape exactly where they pass
abbrev pub PassesByTrees : Type 0
PassesByTrees = (s : Layout) (t : Trees) (images : List Elem) → AreTreesOf s t → PassesBy t images ↔ PassesTrees s.atoms images

-- ---- small ones

abbrev pub role_r : Role
role_r = record { name = 0; inverse = false }

abbrev pub role_s : Role
role_s = record { name = 1; inverse = false }

-- an atom that leads from a term to itself has no tree witness
abbrev pub LoopHasNone : Type 0
LoopHasNone = HasTreeWitness (shape.Role role_r 0 0 ∷ []) role_r 0 → ⊥

-- x leads by r to u, that by s to v, to which w leads by s, and y to w by r
abbrev pub down_and_back : List ShapeAtom
down_and_back = shape.Role role_r 0 1 ∷ shape.Role role_s 1 2 ∷ shape.Role role_s 3 2 ∷ shape.Role role_r 4 3 ∷ []

-- two steps down and two steps back: y stands at the top beside x
abbrev pub BackAtTheTop : Type 0
BackAtTheTop = TreeWitness down_and_back role_r 0 4 []

-- x and z lead by r to y
abbrev pub two_parents : List ShapeAtom
two_parents = shape.Role role_r 0 1 ∷ shape.Role role_r 2 1 ∷ []

-- an individual, the witness of a role, and the individual of a number
abbrev pub around : Role → ℕ → List Elem
around r last = elem.Named 0 ∷ elem.Shared (record { role = r; generation = 1 }) ∷ elem.Named last ∷ []

-- two individuals that share the witness of r don't pass as parents of one term by r
abbrev pub SharedIsNoJoin : Type 0
SharedIsNoJoin = PassesTrees two_parents (around role_r 1) → ⊥

-- one individual passes as both parents
abbrev pub OneIsBoth : Type 0
OneIsBoth = PassesTrees two_parents (around role_r 0)

-- two pass where the witness is one of s
abbrev pub OffTheWitness : Type 0
OffTheWitness = PassesTrees two_parents (around role_s 1)
