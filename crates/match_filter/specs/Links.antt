-- Parents and children among the terms of a shape: which of an atom's terms points to the witness that the other has.
use Rattle.std.specs.Prelude.{◌≡◌, ◌⊎◌, ◌↔◌, ◌<◌, ℕ, List, Option, Some, None, All, Contains}
use Rattle.dl_base.specs.Derivation.{inverse}
use Rattle.dl_base.specs.declared.concept.Role.{Role}
use Rattle.dl_base.specs.declared.element.Elem.{Elem}
use Rattle.query_shape.specs.declared.layout.ShapeAtom.{ShapeAtom}
use Rattle.query_shape.specs.declared.layout.ShapeAtom.TheVariants as shape
use Rattle.query_shape.specs.TreeWitness.{IsOn}
use Rattle.match_filter.specs.declared.link.Link.{Link}

-- The atom's terms of these numbers are parent and child: the child's image is the witness of the atom's role, read from
-- parent to child.
abbrev pub IsLinkOf : List Elem → ShapeAtom → ℕ → ℕ → Type 0
IsLinkOf images (shape.Concept c n) parent child = ⊥
IsLinkOf images (shape.Role r n m) parent child =
    ((parent ≡ n) × (child ≡ m) × IsOn images r m)
    ⊎ ((parent ≡ m) × (child ≡ n) × (IsOn images r m → ⊥) × IsOn images (inverse r) n)

-- they are so in one of these atoms
abbrev pub IsLink : List Elem → List ShapeAtom → ℕ → ℕ → Type 0
IsLink images atoms parent child = (a : ShapeAtom) × Contains atoms a × IsLinkOf images a parent child

-- the parent and child of each of these
abbrev pub Linked : List (Option Link) → ℕ → ℕ → Type 0
Linked links parent child = Contains links (Some (record { parent = parent; child = child }))

-- some of these is one
abbrev pub HasLink : List (Option Link) → Type 0
HasLink links = (p : ℕ) × (c : ℕ) × Linked links p c

-- the parents and children of all atoms, and no others
abbrev pub AreLinks : List Elem → List ShapeAtom → List (Option Link) → Type 0
AreLinks images atoms links = (parent child : ℕ) → Linked links parent child ↔ IsLink images atoms parent child

-- where it is a link, its terms are below this number
abbrev pub IsLinkBelow : ℕ → Option Link → Type 0
IsLinkBelow count None = Unit {0}
IsLinkBelow count (Some l) = (l.parent < count) × (l.child < count)

abbrev pub AreBelow : ℕ → List (Option Link) → Type 0
AreBelow count = All (IsLinkBelow count)
