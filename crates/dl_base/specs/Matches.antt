-- Matches of a query in tables, and in the completed rows of a base.
use Rattle.std.specs.Prelude.{◌≡◌, ℕ, List, slice_get, Some, Contains}
use Rattle.dl_base.specs.Ontology.{Terminology}
use Rattle.dl_base.specs.Query.{Question}
use Rattle.dl_base.specs.Tables.{TableRow, ConceptRow, RoleRow}
use Rattle.dl_base.specs.Completion.{IsCompletedRow}
use Rattle.dl_base.specs.declared.concept.Role.{Role}
use Rattle.dl_base.specs.declared.element.Elem.{Elem}
use Rattle.dl_base.specs.declared.row.NamedRow.{NamedRow}
use Rattle.dl_base.specs.declared.query.Term.{Term}
use Rattle.dl_base.specs.declared.query.Atom.{Atom}
use Rattle.dl_base.specs.declared.query.Atom.TheVariants as atom

-- the atom is a row of the table where its terms are placed
abbrev pub IsRowAt : Terminology → List TableRow → (Term → Elem) → Atom → Type 0
IsRowAt o table place (atom.Concept name t) = (c : ℕ) × (slice_get o.concepts c ≡ Some name) × Contains table (ConceptRow c (place t))
IsRowAt o table place (atom.Role name t u) = (p : ℕ) × (slice_get o.roles p ≡ Some name) × Contains table (RoleRow p (place t) (place u))

-- a match places the terms so that each atom is a row
abbrev pub IsMatch : Terminology → List TableRow → Question → (Term → Elem) → Type 0
IsMatch o table q place = (a : Atom) → Contains q.atoms a → IsRowAt o table place a

-- the atom is a completed row where its terms are placed
abbrev pub IsCompletedAt : Terminology → List NamedRow → List (List ℕ) → (Role → ℕ) → (Term → Elem) → Atom → Type 0
IsCompletedAt o rows names generation place (atom.Concept name t) =
    (c : ℕ) × (slice_get o.concepts c ≡ Some name) × IsCompletedRow o rows names generation (ConceptRow c (place t))
IsCompletedAt o rows names generation place (atom.Role name t u) =
    (p : ℕ) × (slice_get o.roles p ≡ Some name) × IsCompletedRow o rows names generation (RoleRow p (place t) (place u))

-- a match in the completed rows
abbrev pub IsCompletedMatch : Terminology → List NamedRow → List (List ℕ) → (Role → ℕ) → Question → (Term → Elem) → Type 0
IsCompletedMatch o rows names generation q place = (a : Atom) → Contains q.atoms a → IsCompletedAt o rows names generation place a
