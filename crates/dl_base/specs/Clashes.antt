-- Clashes, and the first of them.
use Rattle.std.specs.Prelude.{◌≢◌, ℕ, Bool, true, false, List, [], ◌∷◌, ◌++◌, Option, Some, None, slice_index_or, length}
use Rattle.std.specs.Cmp.Lexicographic.{slice_cmp}
use Rattle.std.specs.declared.cmp.Ordering.{Ordering}
use Rattle.std.specs.declared.cmp.Ordering.TheVariants.{Less, Equal, Greater}
use Rattle.std.specs.Ordering.{nat_cmp, ordering_then}
use Rattle.dl_base.specs.Ontology.{Terminology}
use Rattle.dl_base.specs.Derivation.{Violates}
use Rattle.dl_base.specs.Rows.{name_cmp}
use Rattle.dl_base.specs.Unfolding.{Element, Named, Next, Exists, Start}
use Rattle.dl_base.specs.declared.concept.Role.{Role}
use Rattle.dl_base.specs.declared.row.NamedRow.{NamedRow}

-- the individual that an element begins with
abbrev pub individual_of : Element → List ℕ
individual_of (Named a) = a
individual_of (Next e r) = individual_of e

-- its list of roles, from the individual on
abbrev pub path_of : Element → List Role
path_of (Named a) = []
path_of (Next e r) = path_of e ++ r ∷ []

-- direct before inverse
abbrev pub inverse_cmp : Bool → Bool → Ordering
inverse_cmp false false = Equal
inverse_cmp false true = Less
inverse_cmp true false = Greater
inverse_cmp true true = Equal

-- the name of a role, or nothing where the ontology hasn't got it
abbrev pub name_of : Terminology → Role → List ℕ
name_of o r = slice_index_or o.roles r.name []

-- roles are ordered by the bytes of their names, direct before inverse
abbrev pub role_cmp : Terminology → Role → Role → Ordering
role_cmp o r s = ordering_then (name_cmp (name_of o r) (name_of o s)) (inverse_cmp r.inverse s.inverse)

-- an element, and the number of an inclusion, counted from 1
pub record Place : Type 0 where
  pub element : Element
  pub inclusion : ℕ

-- the least individual by name, then the shortest list of roles, then the least list in role order, then the least inclusion
abbrev pub place_cmp : Terminology → Place → Place → Ordering
place_cmp o x y = ordering_then (name_cmp (individual_of x.element) (individual_of y.element))
    (ordering_then (nat_cmp (length (path_of x.element)) (length (path_of y.element)))
    (ordering_then (slice_cmp (role_cmp o) (path_of x.element) (path_of y.element))
    (nat_cmp x.inclusion y.inclusion)))

-- the element exists, and what it begins with violates the inclusion
pub record IsClash (o : Terminology) (rows : List NamedRow) (c : Place) : Type 0 where
  pub exists : Exists o rows c.element
  pub violates : Violates o.inclusions (Start o rows c.element) c.inclusion

-- a clash such that none is before it, or none exactly where there is none
abbrev pub IsFirstClash : Terminology → List NamedRow → Option Place → Type 0
IsFirstClash o rows None = (c : Place) → IsClash o rows c → ⊥
IsFirstClash o rows (Some c) = IsClash o rows c × ((d : Place) → IsClash o rows d → place_cmp o c d ≢ Greater)
