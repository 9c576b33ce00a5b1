-- What holds in the structure of the existing elements, in the usual sense: by its concepts and roles alone.
use Rattle.std.specs.Prelude.{◌≡◌, Bool, true, false, ℕ, List, All, Contains, slice_get, Some}
use Rattle.dl_base.specs.Ontology.{Terminology}
use Rattle.dl_base.specs.Unfolding.{Element, Named, Exists, HoldsConcept, HoldsRole}
use Rattle.dl_base.specs.declared.concept.Basic.{Basic}
use Rattle.dl_base.specs.declared.concept.Basic.TheVariants as basic
use Rattle.dl_base.specs.declared.concept.Head.{Head}
use Rattle.dl_base.specs.declared.concept.Head.TheVariants as head
use Rattle.dl_base.specs.declared.concept.Inclusion.{Inclusion}
use Rattle.dl_base.specs.declared.row.NamedRow.{NamedRow}
use Rattle.dl_base.specs.declared.row.NamedRow.TheVariants as row

-- the named role holds of e and f, or of f and e where its inverse is meant
abbrev pub IsSuccessor : Terminology → List NamedRow → Bool → List ℕ → Element → Element → Type 0
IsSuccessor o rows false name e f = HoldsRole o rows name e f
IsSuccessor o rows true name e f = HoldsRole o rows name f e

-- An element is an instance of a concept that holds of it, and of having a successor by a role where one of the existing elements is
-- its successor by the role.
abbrev pub IsInstance : Terminology → List NamedRow → Element → Basic → Type 0
IsInstance o rows e (basic.Concept c) = (name : List ℕ) × (slice_get o.concepts c ≡ Some name) × HoldsConcept o rows name e
IsInstance o rows e (basic.Exists r) = (name : List ℕ) × (f : Element) × (slice_get o.roles r.name ≡ Some name) × Exists o rows f × IsSuccessor o rows r.inverse name e f

-- an instance of the head; nothing has none
abbrev pub IsInstanceOfHead : Terminology → List NamedRow → Element → Head → Type 0
IsInstanceOfHead o rows e (head.Basic b) = IsInstance o rows e b
IsInstanceOfHead o rows e head.Nothing = ⊥

-- each existing element that is an instance of each member of the body is one of the head
abbrev pub InclusionHolds : Terminology → List NamedRow → Inclusion → Type 0
InclusionHolds o rows i = (e : Element) → Exists o rows e → All (IsInstance o rows e) i.body → IsInstanceOfHead o rows e i.head

-- the individuals of the row exist, and it holds of them
abbrev pub RowHolds : Terminology → List NamedRow → NamedRow → Type 0
RowHolds o rows (row.Concept c a) = Exists o rows (Named a) × HoldsConcept o rows c (Named a)
RowHolds o rows (row.Role p a b) = Exists o rows (Named a) × Exists o rows (Named b) × HoldsRole o rows p (Named a) (Named b)

-- the row's concept or role is one of the ontology
abbrev pub IsRowOver : Terminology → NamedRow → Type 0
IsRowOver o (row.Concept c a) = Contains o.concepts c
IsRowOver o (row.Role p a b) = Contains o.roles p

-- each inclusion holds, and each row whose name the ontology has; others hold nowhere
pub record HoldInUnfolding (o : Terminology) (rows : List NamedRow) : Type 0 where
  pub inclusions_hold : (i : Inclusion) → Contains o.inclusions i → InclusionHolds o rows i
  pub rows_hold : (r : NamedRow) → Contains rows r → IsRowOver o r → RowHolds o rows r
