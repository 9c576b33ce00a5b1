-- Laws of the lines of tables, and small bases that show them.
use Rattle.std.specs.Prelude.{◌≡◌, ℕ, List, [], ◌∷◌, codes}
use Rattle.dl_base.specs.Laws.{direct_at, implies, inverted_at, only_a, successors}
use Rattle.dl_base.specs.Ontology.{Terminology}
use Rattle.dl_base.specs.declared.concept.Basic.TheVariants as basic
use Rattle.dl_base.specs.declared.concept.Head.TheVariants as head
use Rattle.dl_base.specs.declared.concept.Role.{Role}
use Rattle.dl_base.specs.declared.row.NamedRow.{NamedRow}
use Rattle.table_report.specs.TableLines.{AreTableLines}

-- the lines of a base are one list and no other
abbrev pub TableLinesOnce : Type 0
TableLinesOnce = (o : Terminology) (rows : List NamedRow) (generation : Role → ℕ) (lines others : List (List ℕ))
    → AreTableLines o rows generation lines → AreTableLines o rows generation others → lines ≡ others

-- where whatever is in A has a successor by r, and a is in A, the tables have the witness of r, and r leads from a to it
abbrev pub LinesOfSuccessor : Type 0
LinesOfSuccessor = AreTableLines successors only_a (λ r. 1) (codes "witness r 1" ∷ codes "concept A a" ∷ codes "role r a *r" ∷ [])

-- whatever is in A has a successor by r, and one by its inverse
abbrev pub both_ways : Terminology
both_ways = record {
  concepts = codes "A" ∷ [];
  roles = codes "r" ∷ [];
  inclusions = implies (basic.Concept 0) (head.Basic (basic.Exists (direct_at 0))) ∷ implies (basic.Concept 0) (head.Basic (basic.Exists (inverted_at 0))) ∷ [];
}

-- so the inverse's witness stands behind that of r, and r leads from it to a, behind what leads from a
abbrev pub LinesBothWays : Type 0
LinesBothWays = AreTableLines both_ways only_a (λ r. 1)
    (codes "witness r 1" ∷ codes "witness Inv(r) 1" ∷ codes "concept A a" ∷ codes "role r a *r" ∷ codes "role r *Inv(r) a" ∷ [])
