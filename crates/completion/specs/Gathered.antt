-- Elements with a property: that something is derived there, or that they point to the witness of a role.
use Rattle.std.specs.Prelude.{◌≡◌, ◌↔◌, ◌<◌, ℕ, Bool, List, length, Contains, Some}
use Rattle.dl_base.specs.Completion.{DerivedBehind, RolePoints}
use Rattle.dl_base.specs.Ontology.{Terminology}
use Rattle.dl_base.specs.Sets.{HasBasic, HasRole}
use Rattle.dl_base.specs.declared.concept.Basic.TheVariants as basic
use Rattle.dl_base.specs.declared.concept.Role.{Role}
use Rattle.dl_base.specs.declared.element.Elem.{Elem}
use Rattle.dl_base.specs.declared.element.Elem.TheVariants as elem
use Rattle.dl_base.specs.declared.element.Witness.{Witness}
use Rattle.dl_base.specs.declared.row.Row.{Row}
use Rattle.dl_base.specs.declared.row.Row.TheVariants as row
use Rattle.witness_book.specs.Witnesses.{IsCurrent, Witnesses, generation_of}
use Rattle.completion.specs.Individuals.{found_at}
use Rattle.completion.specs.TableRows.{RoleLists, elements_at, lists_at}
use Rattle.completion.specs.declared.edges.Edge.{Edge}
use Rattle.completion.specs.declared.gather.Property.{Property}
use Rattle.completion.specs.declared.gather.Property.TheVariants.{Derived, Pointing}
use Rattle.completion.specs.declared.individuals.AtIndividual.{AtIndividual}
use Rattle.completion.specs.declared.rows.BothWays.{BothWays}

-- what was computed of an individual says that it has the property
abbrev pub IsHad : Property → AtIndividual → Type 0
IsHad (Derived b) x = HasBasic x.closed.derived b
IsHad (Pointing r) x = HasRole x.points r

-- what is behind the role has it
abbrev pub IsHadBehind : Terminology → Property → Role → Type 0
IsHadBehind o (Derived b) s = DerivedBehind o s b
IsHadBehind o (Pointing r) s = RolePoints o s r

-- what was computed of the individual of this number has it
abbrev pub IsFoundWith : List (ℕ × AtIndividual) → Property → ℕ → Type 0
IsFoundWith list p n = (x : AtIndividual) × (found_at list n ≡ Some x) × IsHad p x

-- it is a current witness, and what is behind its role has the property
pub record IsWitnessWith (o : Terminology) (b : Witnesses) (p : Property) (w : Witness) : Type 0 where
  pub current : IsCurrent b w
  pub behind : IsHadBehind o p w.role

-- live roles have names below that number
abbrev pub AreLiveWithin : ℕ → Witnesses → Type 0
AreLiveWithin names b = (r : Role) → HasRole b.live r → r.name < names

-- an individual or a witness that has it
abbrev pub IsElemWith : Terminology → List (ℕ × AtIndividual) → Witnesses → Property → Elem → Type 0
IsElemWith o list b p (elem.Named n) = IsFoundWith list p n
IsElemWith o list b p (elem.Shared w) = IsWitnessWith o b p w

-- these are the elements that have it
abbrev pub AreElemsWith : Terminology → List (ℕ × AtIndividual) → Witnesses → Property → List Elem → Type 0
AreElemsWith o list b p es = (e : Elem) → Contains es e ↔ IsElemWith o list b p e

-- the role with this name, or its inverse
abbrev pub role_by_place : ℕ → Bool → Role
role_by_place p inverse = record { name = p; inverse = inverse }

-- what was gathered for a role: the elements from which it leads, those that point to its witness, and its generation
pub record AreRoleLists (o : Terminology) (list : List (ℕ × AtIndividual)) (b : Witnesses) (r : Role) (x : RoleLists) : Type 0 where
  pub sources : AreElemsWith o list b (Derived (basic.Exists r)) x.sources
  pub pointing : AreElemsWith o list b (Pointing r) x.pointing
  pub generation : HasRole b.live r → x.generation ≡ generation_of b r

-- the row of a role, as an edge
abbrev pub row_of_edge : Edge → Row
row_of_edge x = row.Role x.role x.from x.to

-- for each of so many concepts, by its place, the elements at which it is derived
pub record AreConceptLists (o : Terminology) (list : List (ℕ × AtIndividual)) (b : Witnesses) (concepts : ℕ) (lists : List (List Elem)) : Type 0 where
  pub all : length lists ≡ concepts
  pub each : (c : ℕ) → c < concepts → AreElemsWith o list b (Derived (basic.Concept c)) (elements_at lists c)

-- for each of so many role names, by its place, the lists of the role and of its inverse
pub record AreListsOfNames (o : Terminology) (list : List (ℕ × AtIndividual)) (b : Witnesses) (names : ℕ) (lists : List BothWays) : Type 0 where
  pub all : length lists ≡ names
  pub each : (r : Role) → r.name < names → AreRoleLists o list b r (lists_at lists r)
